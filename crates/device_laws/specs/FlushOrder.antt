-- In which order a flush programs its pages, whatever the die does.
use Rattle.std.specs.Prelude.{◌≡◌, ℕ, suc, ◌+◌, ◌≤◌}
use Rattle.page_layout.specs.View.{View}
use Rattle.page_layout.specs.Geometry.{entries, table_pages}
use Rattle.page_layout.specs.declared.record.Kind.TheVariants as kind
use Rattle.bad_blocks.specs.Table.{good_count}
use Rattle.bad_blocks.specs.TablePage.{table_bytes}
use Rattle.allocation.specs.State.{free_count}
use Rattle.collection.specs.declared.engine.Engine.{Engine}
use Rattle.collection.specs.Safe.{IsRam, ram, page_in_buffer}
use Rattle.collection.specs.Results.{IsLastPage}
use Rattle.ftl_device.specs.Flush.{IsClean}
use Rattle.ftl_device.specs.FlushSteps.{FlushesPages, WritesTable, HasFlushed}

-- THE HIGHEST PAGE IS PROGRAMMED LAST, by an honest die or a lying one: of the first t + 1 translation pages page t was, if it lacked a row, where nine blocks
-- are free beside one for each page before it and one for each block that fails. Said of the first page, the first two and so on, pages are programmed by
-- rising number.
abbrev pub HighestLastLaw : {N : Type 0} → View N → Type 0
HighestLastLaw {N} view = (t : ℕ) (old new : Engine N) → IsRam (ram old) → (IsClean old.geometry t old.mapping → ⊥)
    → 9 + t + good_count (ram old).blocks.table ≤ free_count (ram old).blocks + good_count (ram new).blocks.table
    → FlushesPages view (suc t) old new → IsLastPage kind.Translation t (ram new) (page_in_buffer new.page)

-- A FLUSH ENDS WITH THE LAST TABLE PAGE
abbrev pub LastTableLaw : {N : Type 0} → View N → Type 0
LastTableLaw {N} view = (u : ℕ) (old new : Engine N) → HasFlushed view old new → table_pages new.geometry ≡ suc u
    → IsLastPage kind.Table u (ram new) (page_in_buffer new.page)

-- A TABLE PAGE spells the table as it is when its turn comes
abbrev pub SpelledTableLaw : {N : Type 0} → View N → Type 0
SpelledTableLaw {N} view = (u : ℕ) (old new : Engine N) → WritesTable view u old new
    → new.page.body.items ≡ table_bytes (entries old.geometry) (ram old).blocks.table u
