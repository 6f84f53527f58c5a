-- A die while its table pages are being written.
use Rattle.std.specs.Prelude.{◌≡◌, ◌⊎◌, [], ℕ, ◌+◌, ◌*◌, ◌/◌, ◌%◌, ◌<◌, ◌≤◌, ◌==◌, true, false, List, slice_get, Some, None, Result, Ok, Err, if◌then◌else◌}
use Rattle.page_layout.specs.declared.geometry.Geometry.{Geometry}
use Rattle.page_layout.specs.declared.record.Key.TheVariants.{Sector, Translation}
use Rattle.page_layout.specs.Geometry.{entries, row_count, table_pages}
use Rattle.page_layout.specs.Page.{Page, IsImage}
use Rattle.page_layout.specs.Sound.{record_of, version_of, version_for}
use Rattle.page_layout.specs.Newest.{newest}
use Rattle.page_layout.specs.OneArray.{AreBelow}
use Rattle.page_layout.specs.Array.{marks, HasOneArray}
use Rattle.page_layout.specs.Flash.{Flash, Operation, Program, Steps, page_at}
use Rattle.bad_blocks.specs.declared.table.TableRow.{TableRow}
use Rattle.bad_blocks.specs.Marks.{is_marked}
use Rattle.bad_blocks.specs.Table.{good_count, is_good_at, retired}
use Rattle.bad_blocks.specs.TablePage.{table_bytes}
use Rattle.onfi_cycles.specs.declared.nand.Outcome.{Outcome}
use Rattle.onfi_cycles.specs.declared.nand.Outcome.TheVariants.{Passed, Failed}
use Rattle.onfi_cycles.specs.Outcomes.{is_passed}
use Rattle.mount.specs.Fresh.{IsFresh}
use Rattle.promises.specs.Log.{programs_in, failed_in}
use Rattle.promises.specs.Legal.{account_at, accounts_of, accounted_all}
use Rattle.mount.specs.Log.{failures}
use Rattle.mount.specs.Formatted.{table_after, table_record, good_after, IsDone, HasTablePage, AreThreeMore, IsFormatted, IsTooFewGood, IsWriteFailed}
use Rattle.mount.specs.declared.format_fault.FormatFault.{FormatFault}
use Rattle.mount.specs.declared.format_fault.FormatFault.TheVariants.{TooFewGood, Bus, OutOfMemory, WriteFailed, NotFresh}

-- ---- one program

-- table page u of the table was programmed in a row of a block that was never erased, with a record of this sequence, in the version for
-- the die
pub record IsTableProgram (g : Geometry) (old new : Flash) (row u sequence : ℕ) (table : List TableRow) (outcome : Outcome) : Type 0 where
  pub its : Page
  pub step : Steps old (Program row its (is_passed outcome) (page_at new row)) new
  pub body : its.body ≡ table_bytes (entries g) table u
  pub says : record_of its ≡ Some (table_record u sequence)
  pub version : version_of its ≡ Some (version_for g)

-- ---- the programs so far

-- how many pages of a block were programmed, where so many were in the block that is being tried
abbrev pub done_in : ℕ → ℕ → ℕ → ℕ
done_in block done b = if b == block then done else 0

-- A fresh die after a log of programs: the first pages of a block hold table pages, the pages of the other good blocks are
-- as they were, and every block that failed is lower than every good one.
pub record IsUnderway (g : Geometry) (first now : Flash) (table : List TableRow) (block done next : ℕ) (log : List Operation) : Type 0 where
  pub fresh : IsFresh g first.image
  pub whole : IsImage g first.image
  pub did : IsDone g first now log
  pub count : programs_in log + 1 ≡ next
  pub table_is : table ≡ table_after g first.image log
  pub turns : (b : ℕ) → b < g.blocks → is_good_at table b ≡ true →
      account_at (accounted_all g.pages (accounts_of g first.image (is_marked g first.image)) log) b ≡ record { next = done_in block done b; barred = false }
  pub kept : (row : ℕ) → row < row_count g → is_good_at table (row / g.pages) ≡ true → done_in block done (row / g.pages) ≤ row % g.pages → slice_get now.image row ≡ slice_get first.image row
  pub one : HasOneArray g now.image
  pub below : AreBelow (marks now.image) next
  pub no_sector : (n : ℕ) → newest (marks now.image) (Sector n) ≡ None
  pub no_translation : (t : ℕ) → newest (marks now.image) (Translation t) ≡ None
  pub tried : (other b : ℕ) → failed_in g.pages log other ≡ true → b < g.blocks → is_good_at table b ≡ true → other < b
  pub sequence : ℕ
  pub sequence_is : sequence + done ≡ next
  pub pages : (u : ℕ) → u < done → HasTablePage g now.image (block * g.pages + u) u (sequence + u) table

-- the same for some log with so many failures, each of which made one good block less
pub record IsTrying (g : Geometry) (first now : Flash) (table : List TableRow) (block done next failed : ℕ) : Type 0 where
  pub log : List Operation
  pub underway : IsUnderway g first now table block done next log
  pub failed_is : failures log ≡ failed
  pub fewer : good_count table + failed ≡ good_after g first.image []

-- what the programs in one block did, by their outcome: all table pages stand in it, or it has failed
abbrev pub TriesBlock : Geometry → Flash → Flash → List TableRow → ℕ → ℕ → ℕ → Outcome → Type 0
TriesBlock g first now table block next failed Passed = IsTrying g first now table block (table_pages g) next failed
TriesBlock g first now table block next failed Failed = (other : ℕ) → IsTrying g first now (retired table block) other 0 next (failed + 1)

-- ---- the answers of the programs

-- what writing the table pages of a fresh die answers
abbrev pub WritesFormat : Geometry → ℕ → Flash → Flash → Result ℕ FormatFault → Type 0
WritesFormat g needed first now (Ok good) = IsFormatted g needed first now good
WritesFormat g needed first now (Err (TooFewGood good asked)) = IsTooFewGood g needed first now good asked
WritesFormat g needed first now (Err Bus) = Unit {0}
WritesFormat g needed first now (Err OutOfMemory) = ⊥
WritesFormat g needed first now (Err WriteFailed) = IsWriteFailed g needed first now
WritesFormat g needed first now (Err (NotFresh row)) = ⊥

-- what it answers for any die, by the programs before and after
abbrev pub AnswersTableWrite : Geometry → ℕ → ℕ → ℕ → Result ℕ FormatFault → Type 0
AnswersTableWrite g needed old_programs new_programs (Ok good) = (needed ≤ good) × (good ≤ g.blocks)
AnswersTableWrite g needed old_programs new_programs (Err (TooFewGood good asked)) =
    (good < needed) × (asked ≡ needed) × ((new_programs ≡ old_programs) ⊎ (good + 1 ≡ needed))
AnswersTableWrite g needed old_programs new_programs (Err Bus) = Unit {0}
AnswersTableWrite g needed old_programs new_programs (Err OutOfMemory) = ⊥
AnswersTableWrite g needed old_programs new_programs (Err WriteFailed) = AreThreeMore old_programs new_programs
AnswersTableWrite g needed old_programs new_programs (Err (NotFresh row)) = ⊥
