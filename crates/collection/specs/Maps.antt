-- What the directory and the mapping know of an image.
use Rattle.std.specs.Prelude.{◌≡◌, ◌≢◌, ℕ, ◌/◌, ◌%◌, ◌<◌, List, slice_get, Option, Some, None}
use Rattle.page_layout.specs.declared.geometry.Geometry.{Geometry}
use Rattle.page_layout.specs.declared.record.Key.{Key}
use Rattle.page_layout.specs.declared.record.Key.TheVariants.{Sector, Translation, Table}
use Rattle.page_layout.specs.Page.{Image}
use Rattle.page_layout.specs.Geometry.{entries}
use Rattle.page_layout.specs.Live.{IsKeyOf}
use Rattle.bad_blocks.specs.TablePage.{IsWellFormed}
use Rattle.mapping_cache.specs.Mapping.{MappingState, known, pending}
use Rattle.translation_pages.specs.TranslationPage.{entry_at}
use Rattle.translation_pages.specs.Entry.{entry_of}
use Rattle.collection.specs.Pages.{directory_place, newest_row}

-- They are right for each key but this one: the directory's row and the mapping's are those of newest pages, and where the mapping has no
-- row that its translation page lacks, the entry there is right.
pub record Maps (but : Option Key) (g : Geometry) (image : Image) (directory : List (Option ℕ)) (m : MappingState) : Type 0 where
  pub directory_is : (key : Key) (at : ℕ) → IsKeyOf g key → but ≢ Some key → directory_place g key ≡ Some at → slice_get directory at ≡ Some (newest_row image key)
  pub known_is : (n : ℕ) (row : Option ℕ) → but ≢ Some (Sector n) → known m n ≡ Some row → row ≡ newest_row image (Sector n)
  pub entry_is : (n : ℕ) → n < g.sectors → but ≢ Some (Sector n) → pending m n ≡ None → entry_of g image n ≡ newest_row image (Sector n)

-- A page of the key may have this data area: of a translation page it lacks no row that the mapping doesn't hold for it, and of a table
-- page it is well formed.
abbrev pub IsPageFor : Geometry → Image → MappingState → List ℕ → Key → Type 0
IsPageFor g image m body (Sector n) = Unit {0}
IsPageFor g image m body (Translation t) = (n : ℕ) → n < g.sectors → n / entries g ≡ t → pending m n ≡ None → entry_at body (n % entries g) ≡ newest_row image (Sector n)
IsPageFor g image m body (Table u) = IsWellFormed (entries g) g.blocks u body
