-- What can be read of a dump that nothing fits: records that stand in its bytes, at whatever place.
use Rattle.std.specs.Prelude.{◌≡◌, ◌↔◌, ◌⊎◌, ℕ, zero, suc, ◌+◌, ◌≤◌, nat_le, if◌then◌else◌, ◌&&◌, not, Bool, true, false, List, ◌++◌, length, take, drop, slice_range, Option, Some, None, option_map}
use Rattle.page_layout.specs.declared.record.Kind.{Kind}
use Rattle.page_layout.specs.declared.record.Kind.TheVariants as kind
use Rattle.page_layout.specs.declared.record.Record.{Record}
use Rattle.page_layout.specs.Sound.{seal_end, spelled}
use Rattle.lab_dump.specs.declared.nearest.Legible.{Legible}

-- ---- one record

-- What can be read at the front of these bytes: the record that they spell as a spare area that ends with its seal, whatever that seal is.
-- Law: what a spare area spells can be read at its first byte, whatever stands before and behind it (`LegibleLaw`).
abbrev pub legible : List ℕ → Option Record
legible bytes = if nat_le (seal_end bytes) (length bytes) then spelled (take (seal_end bytes) bytes) else None

-- with the byte at which it stands
abbrev pub legible_at : ℕ → Option Record → Option Legible
legible_at at found = option_map (λ r. record { at = at; says = r }) found

-- what can be read at a byte of a dump
abbrev pub read_at : List ℕ → ℕ → Option Legible
read_at all at = legible_at at (legible (drop at all))

-- ---- the nearest one

abbrev pub is_table_kind : Kind → Bool
is_table_kind kind.Table = true
is_table_kind _ = false

abbrev pub is_table : Legible → Bool
is_table x = is_table_kind x.says.kind

-- of the nearest one so far and one at a later byte: the first, but for the first one of a table page
abbrev pub nearer : Option Legible → Option Legible → Option Legible
nearer None next = next
nearer (Some best) None = Some best
nearer (Some best) (Some next) = if is_table next && not (is_table best) then Some next else Some best

-- it is one of a table page: no later one comes before it
abbrev pub is_settled : Option Legible → Bool
is_settled None = false
is_settled (Some best) = is_table best

-- of those at the first bytes
unfoldable pub nearest_below : List ℕ → ℕ → Option Legible
nearest_below all zero = None
nearest_below all (suc n) = nearer (nearest_below all n) (read_at all n)

-- WHAT CAME NEAREST: of all records that can be read in a dump the first one of a table page, or else the first one.
-- Laws: it can be read, and no other one that can comes before it (`NearestLaw`); there is none just where none can be read (`NoneLegibleLaw`).
abbrev pub nearest_of : List ℕ → Option Legible
nearest_of all = nearest_below all (length all)

-- ---- while a dump is looked through

-- These are the bytes of a dump from one on. The dump ends with them, or a spare area that begins at one of the first places ends within them.
pub record HasBehind (all : List ℕ) (first places : ℕ) (bytes : List ℕ) : Type 0 where
  pub bytes_are : bytes ≡ slice_range all first (first + length bytes)
  pub behind : (first + length bytes ≡ length all) ⊎ (places + 39 ≤ length bytes)

-- ---- laws

abbrev pub LegibleLaw : Type 0
LegibleLaw = (before spare behind : List ℕ) (r : Record) → 32 ≤ length spare → spelled spare ≡ Some r → read_at (before ++ (spare ++ behind)) (length before) ≡ Some (record { at = length before; says = r })

-- one comes no later than another: those of table pages come first, and then they come by their bytes
pub record IsNoLater (x y : Legible) : Type 0 where
  pub table : is_table y ≡ true → is_table x ≡ true
  pub byte : is_table x ≡ is_table y → x.at ≤ y.at

-- it can be read, and comes no later than any one that can be read
pub record IsNearest (all : List ℕ) (x : Legible) : Type 0 where
  pub read : read_at all x.at ≡ Some x
  pub first : (y : Legible) → read_at all y.at ≡ Some y → IsNoLater x y

abbrev pub NearestLaw : Type 0
NearestLaw = (all : List ℕ) (x : Legible) → (nearest_of all ≡ Some x) ↔ IsNearest all x

abbrev pub NoneLegibleLaw : Type 0
NoneLegibleLaw = (all : List ℕ) → (nearest_of all ≡ None) ↔ ((at : ℕ) → read_at all at ≡ None)
