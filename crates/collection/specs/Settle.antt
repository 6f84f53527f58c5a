-- How the memory follows a page that was put.
use Rattle.std.specs.Prelude.{◌≡◌, ◌≢◌, ℕ, ◌+◌, ◌/◌, ◌<◌, ◌≤◌, List, length, slice_set, Option, Some, None, IsSome}
use Rattle.std.specs.Map.{keys_of}
use Rattle.page_layout.specs.declared.geometry.Geometry.{Geometry}
use Rattle.page_layout.specs.declared.record.Key.{Key}
use Rattle.page_layout.specs.declared.record.Key.TheVariants.{Sector, Translation, Table}
use Rattle.page_layout.specs.Geometry.{translation_pages}
use Rattle.mapping_cache.specs.Mapping.{MappingState, IsMapping, HasLimitsOf, CanMove, per_page, moved_in, without_page, known, pending, slot_of, cleaned}
use Rattle.collection.specs.State.{Ram}

-- a page of a sector is put where the sector is cached
abbrev pub IsCachedKey : MappingState → Key → Type 0
IsCachedKey m (Sector n) = IsSome (slot_of m n)
IsCachedKey m (Translation t) = Unit {0}
IsCachedKey m (Table u) = Unit {0}

-- the new row of a key has a place: a sector is cached, or there is room for it on the moved list
abbrev pub HasPlace : MappingState → Key → Type 0
HasPlace m (Sector n) = slot_of m n ≡ None → CanMove m n
HasPlace m (Translation t) = Unit {0}
HasPlace m (Table u) = Unit {0}

-- a sector's row is set, for its translation page to follow
pub record SetsRow (n : ℕ) (row : Option ℕ) (old new : MappingState) : Type 0 where
  pub known_now : known new n ≡ Some row
  pub pending_now : pending new n ≡ Some row
  pub known_others : (k : ℕ) → k ≢ n → known new k ≡ known old k
  pub pending_others : (k : ℕ) → k ≢ n → pending new k ≡ pending old k
  pub limits : HasLimitsOf old new
  pub keys : keys_of new.cached ≡ keys_of old.cached
  pub moved : length new.moved ≤ length old.moved + 1
  pub unmoved : IsSome (slot_of old n) → new.moved ≡ old.moved
  pub moved_others : (t : ℕ) → t ≢ n / per_page old → moved_in (per_page old) t new.moved ≡ moved_in (per_page old) t old.moved
  pub moved_but : without_page (per_page old) (n / per_page old) new.moved ≡ without_page (per_page old) (n / per_page old) old.moved
  pub valid : IsMapping new

abbrev pub SetsMapping : Key → ℕ → MappingState → MappingState → Type 0
SetsMapping (Sector n) row old new = SetsRow n (Some row) old new
SetsMapping (Translation t) row old new = new ≡ old
SetsMapping (Table u) row old new = new ≡ old

-- TRANSLATION PAGE t WAS BROUGHT OUT of a block that is collected: where no sector may wait for it, it was copied as it stands, and else it was
-- written back. Then it lacks no row, and none of its sectors is moved.
pub record BringsOutPage (t : ℕ) (old new : MappingState) : Type 0 where
  pub copied : old.share ≡ 0 → new ≡ old
  pub written : 0 < old.share → new ≡ cleaned old t

-- the same of a page of any key: the row of a sector, or of a table page, is set as by a copy
abbrev pub BringsOut : Key → ℕ → MappingState → MappingState → Type 0
BringsOut (Sector n) row old new = SetsMapping (Sector n) row old new
BringsOut (Translation t) row old new = BringsOutPage t old new
BringsOut (Table u) row old new = SetsMapping (Table u) row old new

abbrev pub SetsDirectory : Geometry → Key → ℕ → List (Option ℕ) → List (Option ℕ) → Type 0
SetsDirectory g (Sector n) row old new = new ≡ old
SetsDirectory g (Translation t) row old new = new ≡ slice_set old t (Some row)
SetsDirectory g (Table u) row old new = new ≡ slice_set old (translation_pages g + u) (Some row)

-- the row of a key is set, and all else in memory is as it was
pub record SettlesRow (key : Key) (row : ℕ) (old new : Ram) : Type 0 where
  pub geometry : new.geometry ≡ old.geometry
  pub directory : SetsDirectory old.geometry key row old.directory new.directory
  pub mapping : SetsMapping key row old.mapping new.mapping
  pub blocks : new.blocks ≡ old.blocks
  pub next : new.next ≡ old.next
  pub pin : new.pin ≡ old.pin
  pub fault : new.fault ≡ old.fault

-- a row of the sector is set, and the directory is as it was
pub record HasSettled (n : ℕ) (old new : Ram) : Type 0 where
  pub row : ℕ
  pub sets : SetsRow n (Some row) old.mapping new.mapping
  pub directory : new.directory ≡ old.directory

-- the mapping holds no row for translation page t, and knows no other row than it did
pub record Cleans (per_page t : ℕ) (old new : MappingState) : Type 0 where
  pub clean : (n : ℕ) → n / per_page ≡ t → pending new n ≡ None
  pub others : (n : ℕ) → n / per_page ≢ t → pending new n ≡ pending old n
  pub knows : (n : ℕ) (row : Option ℕ) → known new n ≡ Some row → known old n ≡ Some row

-- the mapping is as large as it was, and holds no more moved sectors
pub record HasNoMore (old new : MappingState) : Type 0 where
  pub limits : HasLimitsOf old new
  pub moved : length new.moved ≤ length old.moved
