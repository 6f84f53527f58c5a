-- The bytes of a certificate, of which each claim has one spelling, and which claims have one. All numbers are little-endian.
use Rattle.std.specs.Prelude.{◌≡◌, ℕ, ◌+◌, ◌*◌, ◌/◌, ◌^◌, ◌<◌, ◌≤◌, List, [], ◌∷◌, ◌++◌, length, Option, IfSome}
use Rattle.std.specs.List.{flat_map, AllByRecursion}
use Rattle.std.specs.Int.{w16, w32, w64, to_le_bytes, div_ceil}
use Rattle.page_layout.specs.Limits.{IsWithinLimits}
use Rattle.page_layout.specs.Word.{word_of_row}
use Rattle.certificate.specs.declared.block_state.BlockState.{BlockState}
use Rattle.certificate.specs.Claim.{Sizes, Claim}

-- "DFTLCRT1"
abbrev pub magic : List ℕ
magic = 0x44 ∷ 0x46 ∷ 0x54 ∷ 0x4c ∷ 0x43 ∷ 0x52 ∷ 0x54 ∷ 0x31 ∷ []

-- four bytes
unfoldable pub word : ℕ → List ℕ
word n = to_le_bytes w32 n

-- a row, or FFFFFFFFh for none
abbrev pub row : Option ℕ → List ℕ
row r = word (word_of_row r)

abbrev pub sizes : Sizes → List ℕ
sizes s = flat_map word (s.data_bytes ∷ s.spare_bytes ∷ s.pages ∷ s.blocks ∷ s.sectors ∷ [])

-- nine bytes: the class, the pages programmed, the pages live, the erases
abbrev pub block : BlockState → List ℕ
block s = s.class ∷ to_le_bytes w16 s.pointer ++ to_le_bytes w16 s.live ++ word s.wear

-- forty bytes, which stand before the blocks
abbrev pub head : Claim → List ℕ
head c = magic ++ sizes c.sizes ++ word c.capacity ++ to_le_bytes w64 c.next

unfoldable pub certificate_bytes : Claim → List ℕ
certificate_bytes c = head c ++ flat_map block c.blocks ++ flat_map row c.directory ++ flat_map row c.sectors

abbrev pub rows_of : Sizes → ℕ
rows_of s = s.blocks * s.pages

-- translation pages and table pages
abbrev pub directory_rows : Sizes → ℕ
directory_rows s = div_ceil s.sectors (s.data_bytes / 4) + div_ceil s.blocks (s.data_bytes / 4)

-- where the directory begins
abbrev pub directory_at : Sizes → ℕ
directory_at s = 40 + 9 * s.blocks

-- where the rows of the sectors begin
abbrev pub sectors_at : Sizes → ℕ
sectors_at s = directory_at s + 4 * directory_rows s

-- the bytes of a certificate of these sizes
abbrev pub layout : Sizes → ℕ
layout s = sectors_at s + 4 * s.sectors

pub record FitsBlock (s : BlockState) : Type 0 where
  pub class : s.class ≤ 5
  pub pointer : s.pointer < 2 ^ 16
  pub live : s.live < 2 ^ 16
  pub wear : s.wear < 2 ^ 32

-- a row of the die, or none
abbrev pub IsRowOf : ℕ → Option ℕ → Type 0
IsRowOf rows r = IfSome r (λ n. n < rows)

-- what has a spelling
pub record Fits (c : Claim) : Type 0 where
  pub limits : IsWithinLimits c.sizes.data_bytes c.sizes.spare_bytes c.sizes.pages c.sizes.blocks c.sizes.sectors
  pub capacity_least : 1 ≤ c.capacity
  pub capacity_most : c.capacity ≤ 65536
  pub next : c.next < 2 ^ 64
  pub blocks : AllByRecursion FitsBlock c.blocks
  pub directory : AllByRecursion (IsRowOf (rows_of c.sizes)) c.directory
  pub sectors : AllByRecursion (IsRowOf (rows_of c.sizes)) c.sectors
  pub blocks_length : length c.blocks ≡ c.sizes.blocks
  pub directory_length : length c.directory ≡ directory_rows c.sizes
  pub sectors_length : length c.sectors ≡ c.sizes.sectors
