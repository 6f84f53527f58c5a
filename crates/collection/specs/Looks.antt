-- What look-ups and page buffers hold of an image.
use Rattle.std.specs.Prelude.{◌≡◌, ◌≢◌, ◌⊎◌, ℕ, ◌+◌, ◌*◌, ◌/◌, ◌%◌, ◌<◌, ◌≤◌, List, length, replicate, slice_get, Option, Some, None, unwrap_or}
use Rattle.std.specs.Option.{ForSome}
use Rattle.page_layout.specs.declared.geometry.Geometry.{Geometry}
use Rattle.page_layout.specs.declared.record.Key.{Key}
use Rattle.page_layout.specs.declared.record.Key.TheVariants.{Sector, Translation}
use Rattle.page_layout.specs.declared.record.Record.{Record}
use Rattle.page_layout.specs.Page.{Image, Page}
use Rattle.page_layout.specs.Sound.{record_of}
use Rattle.page_layout.specs.Key.{key_of}
use Rattle.page_layout.specs.Array.{zeros, content_of_kind, sector_of}
use Rattle.page_layout.specs.Geometry.{entries, row_count}
use Rattle.mapping_cache.specs.Mapping.{MappingState, known, pending}
use Rattle.translation_pages.specs.TranslationPage.{entry_at}
use Rattle.collection.specs.declared.fault.EngineFault.{EngineFault}
use Rattle.collection.specs.declared.fault.EngineFault.TheVariants.{ReadOnly, SequenceSpent, Damaged, Bus}
use Rattle.translation_pages.specs.Entry.{entry_of}
use Rattle.collection.specs.State.{Ram}
use Rattle.collection.specs.Pages.{newest_row}

-- translation page t as it stands on the die
pub record IsLoaded (t : ℕ) (body : List ℕ) (g : Geometry) (image : Image) : Type 0 where
  pub entry : (n : ℕ) → n / entries g ≡ t → entry_at body (n % entries g) ≡ entry_of g image n

-- the newest translation page t, or an empty one where there is none, and it is in this row
pub record HoldsNewest (t : ℕ) (row : Option ℕ) (body : List ℕ) (g : Geometry) (image : Image) : Type 0 where
  pub newest : newest_row image (Translation t) ≡ row
  pub loaded : IsLoaded t body g image

-- the entries of translation page t past the last sector are empty
pub record IsPadded (g : Geometry) (t : ℕ) (body : List ℕ) : Type 0 where
  pub past : (i : ℕ) → i < entries g → g.sectors ≤ t * entries g + i → entry_at body i ≡ None

-- a page of translation page t in which every entry is right, and those past the last sector are empty
pub record HasRightEntries (t : ℕ) (body : List ℕ) (g : Geometry) (image : Image) : Type 0 where
  pub right : (n : ℕ) → n < g.sectors → n / entries g ≡ t → entry_at body (n % entries g) ≡ newest_row image (Sector n)
  pub padded : IsPadded g t body

-- the page is sound with this record, and of the key
pub record IsPageOf (key : Key) (r : Record) (p : Page) : Type 0 where
  pub sound : record_of p ≡ Some r
  pub of_key : key_of r ≡ key

-- the page is sound and of the sector's translation page, and this row is the sector's entry in it
pub record HoldsEntry (g : Geometry) (n : ℕ) (p : Page) (row : Option ℕ) : Type 0 where
  pub its : Record
  pub checked : IsPageOf (Translation (n / entries g)) its p
  pub entry : row ≡ entry_at p.body (n % entries g)

-- there is no row, since the directory has no translation page of the sector, or the page holds it as the sector's entry
abbrev pub GivesRow : Geometry → List (Option ℕ) → ℕ → Page → Option ℕ → Type 0
GivesRow g directory n p row = ((slice_get directory (n / entries g) ≡ Some None) × (row ≡ None)) ⊎ HoldsEntry g n p row

-- WHAT A LOOK-UP FINDS: the row that memory knows, and else the one that the directory or this page gives
pub record FindsRow (r : Ram) (n : ℕ) (p : Page) (row : Option ℕ) : Type 0 where
  pub hit : (its : Option ℕ) → known r.mapping n ≡ Some its → row ≡ its
  pub miss : known r.mapping n ≡ None → GivesRow r.geometry r.directory n p row

-- what a write-back changes: a sound page of translation page t where there is one in this row, else a page of FFh
abbrev pub StartsFrom : ℕ → Option ℕ → Page → Type 0
StartsFrom t None p = p.body ≡ replicate (length p.body) 255
StartsFrom t (Some row) p = (its : Record) × IsPageOf (Translation t) its p

-- each entry of a sector is the row that the mapping holds for translation page t, and else that of such a page
pub record IsBroughtUp (t : ℕ) (row : Option ℕ) (g : Geometry) (m : MappingState) (body : List ℕ) : Type 0 where
  pub before : Page
  pub checked : StartsFrom t row before
  pub rows : (i : ℕ) → i < entries g → t * entries g + i < g.sectors → entry_at body i ≡ unwrap_or (pending m (t * entries g + i)) (entry_at before.body i)

-- the row of a sector's newest page, and the sector's bytes
pub record IsRead (n : ℕ) (row : Option ℕ) (bytes : List ℕ) (g : Geometry) (image : Image) : Type 0 where
  pub found : row ≡ newest_row image (Sector n)
  pub sector : bytes ≡ sector_of g image n

-- the page is sound and of the sector, and the bytes are its data area, or zeros where it is a trim
pub record HoldsSectorContent (g : Geometry) (n : ℕ) (p : Page) (bytes : List ℕ) : Type 0 where
  pub its : Record
  pub checked : IsPageOf (Sector n) its p
  pub holds : bytes ≡ content_of_kind g its.kind p.body

-- WHAT A READ GIVES: zeros where the look-up found no row, and else what a page of the sector holds
abbrev pub GivesSector : Geometry → ℕ → Option ℕ → Page → List ℕ → Type 0
GivesSector g n None p bytes = bytes ≡ zeros g
GivesSector g n (Some row) p bytes = HoldsSectorContent g n p bytes

-- the page is not sound, or not of the key
abbrev pub IsNotOf : Key → Page → Type 0
IsNotOf key p = (its : Record) → ¬ IsPageOf key its p

-- the page gives no row of the die as the sector's entry: it is no sound one of the sector's translation page, or names a row that the die doesn't have
abbrev pub GivesNoRow : Geometry → ℕ → Page → Type 0
GivesNoRow g n p = (row : Option ℕ) → HoldsEntry g n p row → ¬ ForSome row (λ r. r < row_count g)

-- WHY A LOOK-UP IS DAMAGED: memory doesn't know the row, the directory has a translation page of the sector, and this page, as it was read, gives none
pub record LooksUpDamage (r : Ram) (n : ℕ) (p : Page) : Type 0 where
  pub unknown : known r.mapping n ≡ None
  pub listed : slice_get r.directory (n / entries r.geometry) ≢ Some None
  pub gives : GivesNoRow r.geometry n p

-- WHY A READ IS: so is the look-up, or it found a row, and this page, as it was read, is no sound one of the sector
abbrev pub FindsDamage : Ram → ℕ → (entries_page sector_page : Page) → Type 0
FindsDamage r n p q = LooksUpDamage r n p ⊎ ((row : ℕ) × FindsRow r n p (Some row) × IsNotOf (Sector n) q)

-- the faults of a read: it programs nothing, so there is always room and a sequence for it
abbrev pub IsReadFault : EngineFault → Type 0
IsReadFault ReadOnly = ⊥
IsReadFault SequenceSpent = ⊥
IsReadFault Damaged = Unit {0}
IsReadFault Bus = Unit {0}
