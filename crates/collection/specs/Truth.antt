-- What an engine knows of the image on an honest die.
use Rattle.std.specs.Prelude.{◌≡◌, ℕ, ◌+◌, ◌*◌, ◌/◌, ◌<◌, ◌≤◌, min, true, get_or, Option, Some, None, IsSome}
use Rattle.page_layout.specs.declared.geometry.Geometry.{Geometry}
use Rattle.page_layout.specs.declared.record.Record.{Record}
use Rattle.page_layout.specs.declared.record.Key.{Key}
use Rattle.page_layout.specs.declared.record.Key.TheVariants.{Table}
use Rattle.page_layout.specs.Page.{Image, IsImage, body_at}
use Rattle.page_layout.specs.Geometry.{entries, table_pages}
use Rattle.page_layout.specs.OneArray.{AreBelow}
use Rattle.page_layout.specs.Array.{marks, HasOneArray}
use Rattle.page_layout.specs.Change.{IsErasedAt}
use Rattle.bad_blocks.specs.Table.{is_good_at, wear_at, most_wear}
use Rattle.bad_blocks.specs.TablePage.{IsWellFormed}
use Rattle.allocation.specs.State.{State, pointer_at}
use Rattle.allocation.specs.Counts.{IsLiveExact}
use Rattle.collection.specs.State.{Ram}
use Rattle.collection.specs.Pages.{newest_row}
use Rattle.collection.specs.Maps.{Maps}

-- the pages of each good block are sound up to its pointer, and erased from there on
pub record AreFilled (image : Image) (s : State) : Type 0 where
  pub sound : (b p : ℕ) → b < s.geometry.blocks → is_good_at s.table b ≡ true → p < pointer_at s b → IsSome (get_or (marks image) (b * s.geometry.pages + p) None)
  pub erased : (b p : ℕ) → b < s.geometry.blocks → is_good_at s.table b ≡ true → pointer_at s b ≤ p → p < s.geometry.pages → IsErasedAt image (b * s.geometry.pages + p)

-- no block's erase count is past the greatest that is told, and no sound page of a block tells of more erases than are counted
pub record AreWorn (image : Image) (s : State) : Type 0 where
  pub most : (b : ℕ) → wear_at s.table b ≤ most_wear
  pub told : (row : ℕ) (x : Record) → get_or (marks image) row None ≡ Some x → min x.wear most_wear ≤ wear_at s.table (row / s.geometry.pages)

-- there is a table page of this number, and the newest is well formed
pub record HasFormedTablePage (g : Geometry) (image : Image) (u : ℕ) : Type 0 where
  pub row : ℕ
  pub newest_is : newest_row image (Table u) ≡ Some row
  pub formed : IsWellFormed (entries g) g.blocks u (body_at image row)

-- The image is that of a formatted die, and the memory agrees with it but for this key.
pub record IsTrue (but : Option Key) (r : Ram) (image : Image) : Type 0 where
  pub whole : IsImage r.geometry image
  pub one : HasOneArray r.geometry image
  pub below : AreBelow (marks image) r.next
  pub filled : AreFilled image r.blocks
  pub live : IsLiveExact r.blocks (marks image)
  pub worn : AreWorn image r.blocks
  pub tables : (u : ℕ) → u < table_pages r.geometry → HasFormedTablePage r.geometry image u
  pub maps : Maps but r.geometry image r.directory r.mapping
