-- What a format did, and what it did not.
use Rattle.std.specs.Prelude.{◌≡◌, List, slice_get, ℕ, ◌+◌, ◌*◌, ◌^◌, ◌<◌, ◌≤◌, ◌⊎◌, true, false, [], ◌∷◌, ◌++◌, get_or, Some, None, Ok, Err}
use Rattle.page_layout.specs.declared.geometry.Geometry.{Geometry}
use Rattle.page_layout.specs.declared.record.Record.{Record}
use Rattle.page_layout.specs.Geometry.{entries, row_count, table_pages}
use Rattle.page_layout.specs.Page.{Page, Image}
use Rattle.page_layout.specs.Sound.{record_of, version_of, version_for}
use Rattle.page_layout.specs.Array.{marks}
use Rattle.page_layout.specs.Flash.{Flash, Operation}
use Rattle.bad_blocks.specs.declared.table.TableRow.{TableRow}
use Rattle.bad_blocks.specs.Marks.{is_marked}
use Rattle.bad_blocks.specs.TablePage.{table_bytes}
use Rattle.promises.specs.Log.{block_of, erases_in}
use Rattle.mount.specs.Log.{failures}
use Rattle.mount.specs.Formatted.{good_after, table_record, HasTablePage, IsDone, IsFormatted, IsWriteFailed, Formats, Answers}
use Rattle.mount.specs.declared.format_fault.FormatFault.TheVariants.{TooFewGood, OutOfMemory, WriteFailed, NotFresh}

-- NOTHING WAS DONE by a format that was refused for memory or for a used page, which is one of the die, and no program was counted
abbrev pub RefusedFormatLaw : Type 0
RefusedFormatLaw = (g : Geometry) (needed : ℕ) (old new : Flash) (before after row : ℕ)
    → (Formats g needed old new (Err OutOfMemory) ⊎ Formats g needed old new (Err (NotFresh row)) → new ≡ old)
    × (Answers g needed before after (Err OutOfMemory) ⊎ Answers g needed before after (Err (NotFresh row)) → after ≡ before)
    × (Answers g needed before after (Err (NotFresh row)) → row < row_count g)

-- TWO BLOCKS ARE LOST AT MOST by a format that ends well or is left with too few, and three by one that gives up, after three programs at least
abbrev pub LostBlocksLaw : Type 0
LostBlocksLaw = (g : Geometry) (needed : ℕ) (old new : Flash) (before after good asked : ℕ)
    → (Formats g needed old new (Ok good) ⊎ Formats g needed old new (Err (TooFewGood good asked)) → good_after g old.image [] ≤ good + 2)
    × ((f : IsWriteFailed g needed old new) → (failures f.log ≡ 3) × (good_after g old.image f.log + 3 ≡ good_after g old.image []))
    × (Answers g needed before after (Err WriteFailed) → before + 3 < 2 ^ 64 → before + 3 ≤ after)

-- ENOUGH BLOCKS ARE GOOD after a format that ended well, whatever the die was, and too few where it says so, which asks for just as many as are
-- needed
abbrev pub EnoughLaw : Type 0
EnoughLaw = (g : Geometry) (needed : ℕ) (old new : Flash) (before after good asked : ℕ)
    → (Formats g needed old new (Ok good) ⊎ Answers g needed before after (Ok good) → needed ≤ good)
    × (Formats g needed old new (Err (TooFewGood good asked)) ⊎ Answers g needed before after (Err (TooFewGood good asked)) → (good < asked) × (asked ≡ needed))
    × (Answers g needed before after (Ok good) → good ≤ g.blocks)

-- A FORMAT ERASES NOTHING and leaves the marked blocks alone
abbrev pub AloneLaw : Type 0
AloneLaw = (g : Geometry) (old new : Flash) (log : List Operation) → IsDone g old new log
    → (erases_in log ≡ 0) × ((before after : List Operation) (op : Operation) → log ≡ before ++ op ∷ after → is_marked g old.image (block_of g.pages op) ≡ false)

-- A DIE WITHOUT FAILURES: its format loses no block, and its table stands in the first that isn't marked
abbrev pub NoFailureLaw : Type 0
NoFailureLaw = (g : Geometry) (needed : ℕ) (old new : Flash) (good : ℕ) (f : IsFormatted g needed old new good) → failures f.log ≡ 0
    → (good ≡ good_after g old.image []) × ((lower : ℕ) → lower < f.block → is_marked g old.image lower ≡ true)

-- A TABLE PAGE THAT A FORMAT WROTE is sound, of its number and sequence and of no erase, in the version for the die, and holds the table's bytes
abbrev pub TablePageLaw : Type 0
TablePageLaw = (g : Geometry) (image : Image) (row u sequence : ℕ) (table : List TableRow) (p : Page) → HasTablePage g image row u sequence table
    → slice_get image row ≡ Some p → (record_of p ≡ Some (table_record u sequence)) × (version_of p ≡ Some (version_for g)) × (p.body ≡ table_bytes (entries g) table u)

-- THE SEQUENCES OF A FORMATTED DIE ARE LOW: three tables were begun at most
abbrev pub LowSequenceLaw : Type 0
LowSequenceLaw = (g : Geometry) (needed : ℕ) (old new : Flash) (good row : ℕ) (r : Record) → IsFormatted g needed old new good → get_or (marks new.image) row None ≡ Some r
    → r.sequence ≤ 3 * table_pages g
