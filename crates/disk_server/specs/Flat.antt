-- SECTORS AS BYTES: one sector behind another.
use Rattle.std.specs.Prelude.{◌≡◌, ◌<◌, ◌+◌, ◌*◌, ℕ, List, [], length, get_or, slice_set, slice_range}
use Rattle.std.specs.List.{flat_map, AllByRecursion}
use Rattle.nbd_stream.specs.Disk.{with_bytes}

abbrev pub flat : List (List ℕ) → List ℕ
flat sectors = flat_map (λ (sector : List ℕ). sector) sectors

-- each has so many bytes
abbrev pub AreSectors : (size : ℕ) → List (List ℕ) → Type 0
AreSectors size sectors = AllByRecursion (λ (sector : List ℕ). length sector ≡ size) sectors

-- ---- a law

-- A SECTOR IS A RANGE OF THE BYTES: to give it is to give that range, and to replace it is to set that range
abbrev pub FlatLaw : Type 0
FlatLaw = (size sector : ℕ) (body : List ℕ) (sectors : List (List ℕ)) → AreSectors size sectors → sector < length sectors → length body ≡ size
    → (length (flat sectors) ≡ length sectors * size)
    × (slice_range (flat sectors) (sector * size) (sector * size + size) ≡ get_or sectors sector [])
    × (flat (slice_set sectors sector body) ≡ with_bytes (sector * size) body (flat sectors))
