-- What holds of an engine whatever its die does.
use Rattle.std.specs.Prelude.{◌≡◌, ℕ, ◌+◌, ◌/◌, ◌<◌, ◌≤◌, ◌^◌, ◌||◌, Bool, false, not, length, replicate, slice_get, Some}
use Rattle.page_layout.specs.declared.geometry.Geometry.{Geometry}
use Rattle.page_layout.specs.Geometry.{translation_pages, table_pages, row_count, waiting_at}
use Rattle.page_layout.specs.Page.{Image, Page, page}
use Rattle.page_layout.specs.Flash.{Flash}
use Rattle.bad_blocks.specs.Table.{is_good_at}
use Rattle.mapping_cache.specs.Mapping.{IsMapping}
use Rattle.allocation.specs.State as blocks
use Rattle.allocation.specs.State.{State, is_closed, free_count}
use Rattle.allocation.specs.View.{state}
use Rattle.collection.specs.declared.engine.Engine.{Engine}
use Rattle.collection.specs.declared.engine.Buffer.{Buffer}
use Rattle.collection.specs.State.{Ram}

-- the engine's memory
abbrev pub ram : {N : Type 0} → Engine N → Ram
ram e = record {
  geometry = e.geometry;
  directory = e.directory;
  mapping = e.mapping;
  blocks = state e.blocks;
  next = e.next;
  fault = e.fault;
  pin = record { block = e.pinned; marks = e.marks.items };
}

-- the image on the engine's die
abbrev pub image_in : {N : Type 0} → (N → Flash) → Engine N → Image
image_in flash e = (flash e.nand).image

pub record IsRam (r : Ram) : Type 0 where
  pub directory : length r.directory ≡ translation_pages r.geometry + table_pages r.geometry
  pub directory_rows : (k row : ℕ) → slice_get r.directory k ≡ Some (Some row) → row < row_count r.geometry
  pub mapping : IsMapping r.mapping
  pub mapping_of : r.mapping.geometry ≡ r.geometry
  pub blocks : blocks.AreBlocksSafe (free_count r.blocks) r.blocks
  pub blocks_of : r.blocks.geometry ≡ r.geometry
  pub next : r.next < 2 ^ 64
  pub marks : length r.pin.marks ≡ translation_pages r.geometry

-- No more sectors are moved than may wait for their translation pages, and none of these is marked. It is so between calls, unless a fault stands.
pub record IsIdle (r : Ram) : Type 0 where
  pub moved : length r.mapping.moved ≤ waiting_at r.geometry r.mapping.share
  pub unmarked : r.pin.marks ≡ replicate (translation_pages r.geometry) false

-- a page buffer of the die's sizes
pub record IsBuffer (g : Geometry) (b : Buffer) : Type 0 where
  pub body : length b.body.items ≡ g.data_bytes
  pub spare : length b.spare.items ≡ g.spare_bytes

-- the page that a buffer holds
abbrev pub page_in_buffer : Buffer → Page
page_in_buffer b = page b.body.items b.spare.items

pub record IsSafe {N : Type 0} (flash : N → Flash) (e : Engine N) : Type 0 where
  pub memory : IsRam (ram e)
  pub geometry : (flash e.nand).geometry ≡ e.geometry
  pub page : IsBuffer e.geometry e.page
  pub scratch : IsBuffer e.geometry e.scratch

-- whether a block is bad or closed: none of its pages is programmed before it is erased
abbrev pub is_shut : State → ℕ → Bool
is_shut s block = not (is_good_at s.table block) || is_closed s block

-- a row of the die in a block that was neither bad nor closed
pub record IsOutside (r : Ram) (row : ℕ) : Type 0 where
  pub within : row < row_count r.geometry
  pub outside : is_shut r.blocks (row / r.geometry.pages) ≡ false
