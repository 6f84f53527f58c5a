-- What contracts see of the cached mapping table.
use Rattle.std.specs.Prelude.{◌≡◌, ℕ, ◌-◌, ◌*◌, ◌/◌, ◌<◌, ◌≤◌, ◌==◌, false, true, List, [], ◌∷◌, ◌++◌, length, take, map, filter, Option, Some, None}
use Rattle.std.specs.Prelude.{nat_eq, option_map, option_and_then, not, ◌+◌, nat_le, nat_lt, ◌&&◌, if◌then◌else◌}
use Rattle.std.specs.List.{IsDistinct, AllByRecursion, AllWithin, filter_map, range_with_len}
use Rattle.std.specs.Option.{ForSome}
use Rattle.std.specs.Map.{keys_of, lookup, set_value}
use Rattle.lru.specs.LruCache.{promoted, last_entry}
use Rattle.page_layout.specs.declared.geometry.Geometry.{Geometry}
use Rattle.page_layout.specs.Geometry.{entries, row_count, waiting_at, IsShare}
use Rattle.page_layout.specs.Word.{IsRow}
use Rattle.mapping_cache.specs.declared.slot.Slot.{Slot}

pub record MappingState : Type 0 where
  pub geometry : Geometry
  -- the most sectors that are cached
  pub capacity : ℕ
  -- how many moved sectors may wait for each translation page, in the mean
  pub share : ℕ
  -- the cached sectors with their slots, the most recently used first
  pub cached : List (ℕ × Slot)
  -- the moved sectors, none of them cached, with their new rows, by sector
  pub moved : List (ℕ × ℕ)

-- the entries of a translation page: sector n is of page n / per_page
abbrev pub per_page : MappingState → ℕ
per_page m = entries m.geometry

-- the slot of a cached sector, and the row of a moved one
abbrev pub slot_of : MappingState → ℕ → Option Slot
slot_of m n = lookup (nat_eq n) m.cached

abbrev pub moved_row : MappingState → ℕ → Option ℕ
moved_row m n = lookup (nat_eq n) m.moved

-- how many sectors the moved list has a place for: for those that may wait, and one more for each page of a block
abbrev pub moved_room : Geometry → ℕ → ℕ
moved_room g share = waiting_at g share + g.pages

-- ---- lists by sector

-- EACH SECTOR IS BELOW ALL THAT COME AFTER IT
abbrev pub IsBySector : List (ℕ × ℕ) → Type 0
IsBySector [] = Unit {0}
IsBySector (e ∷ es) = AllByRecursion (λ f. e.0 < f.0) es × IsBySector es

-- THE PLACE OF SECTOR n: those before it are below n, and no other is
pub record IsPlace (ms : List (ℕ × ℕ)) (n i : ℕ) : Type 0 where
  pub within : i ≤ length ms
  pub before : AllWithin (λ e. e.0 < n) ms 0 i
  pub after : AllWithin (λ e. n ≤ e.0) ms i (length ms)

-- THE LIST WITH THIS ROW FOR SECTOR n, in place of an older one: every other sector keeps its row, and a list by sector stays one
abbrev pub placed : ℕ → ℕ → List (ℕ × ℕ) → List (ℕ × ℕ)
placed n row [] = (n, row) ∷ []
placed n row (e ∷ es) = if nat_lt n e.0 then (n, row) ∷ e ∷ es else if n == e.0 then (n, row) ∷ es else e ∷ placed n row es

-- ---- what the mapping knows, and what translation pages lack

-- the row of a sector with this slot and this moved row, where either is there
abbrev pub known_by : Option Slot → Option ℕ → Option (Option ℕ)
known_by slot (Some r) = Some (Some r)
known_by slot None = option_map (λ (s : Slot). s.row) slot

-- the row that the translation page lacks: that of a dirty slot
abbrev pub dirty_row : Slot → Option (Option ℕ)
dirty_row s = if s.dirty then Some s.row else None

abbrev pub pending_by : Option Slot → Option ℕ → Option (Option ℕ)
pending_by slot (Some r) = Some (Some r)
pending_by slot None = option_and_then dirty_row slot

-- the row of sector n, where the mapping has it: of a moved sector its new row, of a cached one its slot's
unfoldable pub known : MappingState → ℕ → Option (Option ℕ)
known m n = known_by (slot_of m n) (moved_row m n)

-- the row of sector n that its translation page lacks: where the sector is moved, or cached and dirty
unfoldable pub pending : MappingState → ℕ → Option (Option ℕ)
pending m n = pending_by (slot_of m n) (moved_row m n)

-- ---- what holds of every mapping

-- a sector of the die, and a row of the die or none
pub record IsEntryOf (g : Geometry) (n : ℕ) (row : Option ℕ) : Type 0 where
  pub sector : n < g.sectors
  pub row_in : ForSome row (λ r. r < row_count g)

pub record IsMapping (m : MappingState) : Type 0 where
  pub distinct : IsDistinct nat_eq (keys_of m.cached)
  pub within : length m.cached ≤ m.capacity
  pub holds_one : 0 < m.capacity
  pub has_share : IsShare m.geometry m.share
  pub by_sector : IsBySector m.moved
  pub moved_within : length m.moved ≤ moved_room m.geometry m.share
  pub apart : (n r : ℕ) → moved_row m n ≡ Some r → slot_of m n ≡ None
  pub known_in : (n : ℕ) → ForSome (known m n) (IsEntryOf m.geometry n)

-- the new mapping is of the same die, as large as the old one, and as many sectors may wait
pub record HasLimitsOf (old new : MappingState) : Type 0 where
  pub geometry : new.geometry ≡ old.geometry
  pub capacity : new.capacity ≡ old.capacity
  pub share : new.share ≡ old.share

-- ---- the conditions of calls

-- a sector can be cached without dropping a dirty entry
abbrev pub CanLoad : MappingState → ℕ → Type 0
CanLoad m n = slot_of m n ≡ None → length m.cached ≡ m.capacity → ForSome (last_entry m.cached) (λ e. e.1.dirty ≡ false)

-- the row of a sector has a place on the moved list
abbrev pub CanMove : MappingState → ℕ → Type 0
CanMove m n = moved_row m n ≡ None → length m.moved < moved_room m.geometry m.share

-- ---- what a call makes of a mapping

-- a sector the most recent, where it is cached
abbrev pub used : MappingState → ℕ → MappingState
used m n = record m { cached = promoted (nat_eq n) m.cached }

-- the slot with which an uncached sector is cached: a moved row is dirty
abbrev pub new_slot : Option ℕ → Option ℕ → Slot
new_slot (Some r) row = record { row = Some r; dirty = true }
new_slot None row = record { row = row; dirty = false }

-- the moved list without sector n
abbrev pub without_sector : ℕ → List (ℕ × ℕ) → List (ℕ × ℕ)
without_sector n ms = filter (λ e. not (e.0 == n)) ms

-- the moved list without the sectors of page t
abbrev pub without_page : ℕ → ℕ → List (ℕ × ℕ) → List (ℕ × ℕ)
without_page per_page t ms = filter (λ e. not (e.0 / per_page == t)) ms

-- an uncached sector is cached, as the most recent, and no longer moved; a full cache drops its last
abbrev pub inserted : MappingState → ℕ → Option ℕ → MappingState
inserted m n row = record m { cached = (n, new_slot (moved_row m n) row) ∷ take (m.capacity - 1) m.cached; moved = without_sector n m.moved }

-- a sector is cached, as the most recent; a cached one keeps its slot
abbrev pub loaded_by : Option Slot → MappingState → ℕ → Option ℕ → MappingState
loaded_by (Some s) m n row = used m n
loaded_by None m n row = inserted m n row

abbrev pub loaded : MappingState → ℕ → Option ℕ → MappingState
loaded m n row = loaded_by (slot_of m n) m n row

-- a cached sector has this row, dirty
abbrev pub with_dirty : MappingState → ℕ → Option ℕ → MappingState
with_dirty m n row = record m { cached = set_value (nat_eq n) m.cached (record { row = row; dirty = true }) }

-- without the least recently used entry
abbrev pub dropped : MappingState → MappingState
dropped m = record m { cached = take (length m.cached - 1) m.cached }

-- a moved sector has this row
abbrev pub with_moved : MappingState → ℕ → ℕ → MappingState
with_moved m n row = record m { moved = placed n row m.moved }

-- an entry, clean if it is of page t
abbrev pub clean_entry : ℕ → ℕ → ℕ × Slot → ℕ × Slot
clean_entry per_page t e = (e.0, record { row = e.1.row; dirty = if e.0 / per_page == t then false else e.1.dirty })

-- an entry, clean if it is one of so many sectors from the first on
abbrev pub clean_between : ℕ → ℕ → ℕ × Slot → ℕ × Slot
clean_between first count e = (e.0, record { row = e.1.row; dirty = if nat_le first e.0 && nat_lt e.0 (first + count) then false else e.1.dirty })

-- the entries of page t are clean, and its moved sectors are no longer moved
abbrev pub cleaned : MappingState → ℕ → MappingState
cleaned m t = record m { cached = map (clean_entry (per_page m) t) m.cached; moved = without_page (per_page m) t m.moved }

-- ---- the rows that a translation page lacks

-- the moved sectors of page t, with their rows, in the order of the list
abbrev pub moved_in : ℕ → ℕ → List (ℕ × ℕ) → List (ℕ × ℕ)
moved_in per_page t ms = filter (λ e. e.0 / per_page == t) ms

-- THE LOWEST PAGE THAT MORE THAN `share` SECTORS OF THE LIST ARE OF; none where no page has more
pub record IsLowestOver (per_page share : ℕ) (ms : List (ℕ × ℕ)) (page : Option ℕ) : Type 0 where
  pub none : page ≡ None → (t : ℕ) → length (moved_in per_page t ms) ≤ share
  pub over : ForSome page (λ t. share < length (moved_in per_page t ms))
  pub lowest : ForSome page (λ t. (u : ℕ) → u < t → length (moved_in per_page u ms) ≤ share)

-- the moved rows, as rows that an entry may have
abbrev pub some_rows : List (ℕ × ℕ) → List (ℕ × Option ℕ)
some_rows ms = map (λ e. (e.0, Some e.1)) ms

-- a cached sector with its row, if it is dirty
abbrev pub dirty_entry : List (ℕ × Slot) → ℕ → Option (ℕ × Option ℕ)
dirty_entry es n = option_map (λ row. (n, row)) (option_and_then dirty_row (lookup (nat_eq n) es))

-- the dirty ones of the sectors from the first on, so many, rising
abbrev pub dirty_from : List (ℕ × Slot) → ℕ → ℕ → List (ℕ × Option ℕ)
dirty_from es first count = filter_map (dirty_entry es) (range_with_len first count)

-- the moved sectors of page t, rising, then its dirty cached ones, rising
abbrev pub lacking : MappingState → ℕ → List (ℕ × Option ℕ)
lacking m t = some_rows (moved_in (per_page m) t m.moved) ++ dirty_from m.cached (t * per_page m) (per_page m)

-- distinct sectors of page t, with rows that have a word
abbrev pub AreRowsOf : ℕ → ℕ → List (ℕ × Option ℕ) → Type 0
AreRowsOf per_page t es = IsDistinct nat_eq (keys_of es) × AllByRecursion (λ e. (e.0 / per_page ≡ t) × IsRow e.1) es

-- they are just the rows that page t lacks, each once
pub record AreLacking (m : MappingState) (t : ℕ) (es : List (ℕ × Option ℕ)) : Type 0 where
  pub rows : AreRowsOf (per_page m) t es
  pub each : (n : ℕ) → n / per_page m ≡ t → lookup (nat_eq n) es ≡ pending m n
