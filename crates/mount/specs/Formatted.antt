-- What formatting a die makes of it, and what is true of a die whose format was refused.
use Rattle.std.specs.Prelude.{◌≡◌, ◌⊎◌, ℕ, ◌+◌, ◌*◌, ◌/◌, ◌^◌, ◌<◌, ◌≤◌, Bool, true, false, ◌||◌, List, [], map, replicate, slice_get, Some, None}
use Rattle.std.specs.Prelude.{Result, Ok, Err, if◌then◌else◌}
use Rattle.std.specs.List.{list_any, range_with_len}
use Rattle.page_layout.specs.declared.geometry.Geometry.{Geometry}
use Rattle.page_layout.specs.declared.record.Record.{Record}
use Rattle.page_layout.specs.declared.record.Kind.TheVariants as kind
use Rattle.page_layout.specs.declared.record.Key.TheVariants.{Sector, Translation, Table}
use Rattle.page_layout.specs.Geometry.{entries, row_count, table_pages}
use Rattle.page_layout.specs.Page.{Page, Image, IsImage}
use Rattle.page_layout.specs.Sound.{record_of, version_of, version_for}
use Rattle.page_layout.specs.Block.{block_pages, is_broken, has_gap}
use Rattle.page_layout.specs.Newest.{newest}
use Rattle.page_layout.specs.OneArray.{AreBelow}
use Rattle.page_layout.specs.Array.{marks, zeros, array_of, HasOneArray}
use Rattle.page_layout.specs.Flash.{Flash, Operation, Leads}
use Rattle.bad_blocks.specs.declared.class.Class.{Class}
use Rattle.bad_blocks.specs.declared.class.Class.TheVariants.{Good, Factory, Grown}
use Rattle.bad_blocks.specs.declared.table.TableRow.{TableRow}
use Rattle.bad_blocks.specs.Marks.{is_marked}
use Rattle.bad_blocks.specs.TablePage.{table_bytes}
use Rattle.mount.specs.Fresh.{is_used, IsFirstPass, IsFresh}
use Rattle.promises.specs.Log.{programs_in, erases_in, failed_in, good_of, good_count_after}
use Rattle.promises.specs.Legal.{IsLegal}
use Rattle.mount.specs.Log.{failures}
use Rattle.mount.specs.declared.format_fault.FormatFault.{FormatFault}
use Rattle.mount.specs.declared.format_fault.FormatFault.TheVariants.{TooFewGood, Bus, OutOfMemory, WriteFailed, NotFresh}

-- ---- the table

abbrev pub class_after : Bool → Bool → Class
class_after marked failed = if marked then Factory else (if failed then Grown else Good)

-- the table of a fresh die after a log: a marked block is factory bad, another one that failed is grown bad, and nothing
-- was ever erased
abbrev pub table_after : Geometry → Image → List Operation → List TableRow
table_after g image log =
    map (λ block. record { class = class_after (is_marked g image block) (failed_in g.pages log block); wear = 0 }) (range_with_len 0 g.blocks)

-- ---- the blocks

-- a block that the factory didn't mark and that hasn't failed
abbrev pub is_good_after : Geometry → Image → List Operation → ℕ → Bool
is_good_after g image log block = good_of g.pages (is_marked g image) log block

-- how many there are
abbrev pub good_after : Geometry → Image → List Operation → ℕ
good_after g image log = good_count_after g (is_marked g image) log

-- ---- what was done

-- a log of programs alone that led from one state to another. It is legal: no marked block was named, and none that had
-- failed before.
pub record IsDone (g : Geometry) (old new : Flash) (log : List Operation) : Type 0 where
  pub leads : Leads old log new
  pub legal : IsLegal g old.image (is_marked g old.image) log
  pub erases : erases_in log ≡ 0

-- ---- a formatted die

-- the record of table page u in a block that was never erased
abbrev pub table_record : ℕ → ℕ → Record
table_record u sequence = record { kind = kind.Table; number = u; sequence = sequence; wear = 0 }

-- the row's page is table page u of the table, in the version for the die
pub record HasTablePage (g : Geometry) (image : Image) (row u sequence : ℕ) (table : List TableRow) : Type 0 where
  pub newest_is : newest (marks image) (Table u) ≡ Some row
  pub its : Page
  pub at : slice_get image row ≡ Some its
  pub body : its.body ≡ table_bytes (entries g) table u
  pub says : record_of its ≡ Some (table_record u sequence)
  pub version : version_of its ≡ Some (version_for g)

-- some page of the block is neither erased nor sound, or comes after an erased one without being erased
abbrev pub shows_failure : Geometry → Image → ℕ → Bool
shows_failure g image block = list_any is_broken (block_pages g image block) || has_gap (block_pages g image block)

-- the table pages of the table after the log stand in the first pages of the lowest good block, with the last sequences
-- of the log, which began with 1
pub record HasTable (g : Geometry) (old new : Flash) (log : List Operation) (block : ℕ) : Type 0 where
  pub within : block < g.blocks
  pub good : is_good_after g old.image log block ≡ true
  pub lowest : (lower : ℕ) → lower < block → is_good_after g old.image log lower ≡ false
  pub tried : (other : ℕ) → failed_in g.pages log other ≡ true → other < block
  pub first : ℕ
  pub first_is : first + table_pages g ≡ programs_in log + 1
  pub pages : (u : ℕ) → u < table_pages g → HasTablePage g new.image (block * g.pages + u) u (first + u) (table_after g old.image log)

-- one array of zeros, no page of a sector or of a mapping, and every sequence below the next one
pub record IsBlank (g : Geometry) (image : Image) (next : ℕ) : Type 0 where
  pub one : HasOneArray g image
  pub zero : array_of g image ≡ replicate g.sectors (zeros g)
  pub no_sector : (n : ℕ) → newest (marks image) (Sector n) ≡ None
  pub no_translation : (t : ℕ) → newest (marks image) (Translation t) ≡ None
  pub below : AreBelow (marks image) next

-- a formatted die with so many good blocks: those that the table calls good, in which no page shows a failure. What isn't
-- a table page in them is erased as it was. At most three blocks were tried.
-- Law: what the checker finds in such a die (`FormattedLaw`).
pub record IsFormatted (g : Geometry) (needed : ℕ) (old new : Flash) (good : ℕ) : Type 0 where
  pub whole : IsImage g old.image
  pub fresh : IsFresh g old.image
  pub log : List Operation
  pub done : IsDone g old new log
  pub at_most : failures log ≤ 2
  pub few_programs : programs_in log ≤ 3 * table_pages g
  pub good_is : good ≡ good_after g old.image log
  pub fewer : good + failures log ≡ good_after g old.image []
  pub enough : needed ≤ good
  pub block : ℕ
  pub table : HasTable g old new log block
  pub blank : IsBlank g new.image (programs_in log + 1)
  pub shown : (b : ℕ) → b < g.blocks → is_good_after g old.image log b ≡ true → shows_failure g new.image b ≡ false
  pub others : (row : ℕ) → row < row_count g → is_good_after g old.image log (row / g.pages) ≡ true →
      (row < block * g.pages) ⊎ (block * g.pages + table_pages g ≤ row) → slice_get new.image row ≡ slice_get old.image row

-- ---- refusals

-- fewer good blocks than a die needs: at once, and then nothing was done, or by the failure of the last program of a log
pub record IsTooFewGood (g : Geometry) (needed : ℕ) (old new : Flash) (good asked : ℕ) : Type 0 where
  pub log : List Operation
  pub done : IsDone g old new log
  pub good_is : good ≡ good_after g old.image log
  pub fewer : good + failures log ≡ good_after g old.image []
  pub few : good < needed
  pub asked_is : asked ≡ needed
  pub at_most : failures log ≤ 2
  pub untouched : failures log ≡ 0 → new ≡ old
  pub fresh : 0 < failures log → IsFresh g old.image
  pub just : 0 < failures log → good + 1 ≡ needed

-- a program failed in each of three blocks, though there were good blocks enough each time
pub record IsWriteFailed (g : Geometry) (needed : ℕ) (old new : Flash) : Type 0 where
  pub log : List Operation
  pub done : IsDone g old new log
  pub three : failures log ≡ 3
  pub fewer : good_after g old.image log + 3 ≡ good_after g old.image []
  pub fresh : IsFresh g old.image
  pub enough : needed ≤ good_after g old.image log + 1

-- the lowest row that keeps the die from being fresh, of a die with good blocks enough. Nothing was done.
pub record IsNotFresh (g : Geometry) (needed : ℕ) (old new : Flash) (row : ℕ) : Type 0 where
  pub enough : needed ≤ good_after g old.image []
  pub first : IsFirstPass (is_used g old.image) 0 (row_count g) row
  pub untouched : new ≡ old

-- What the format of an honest die answers, by its state before and after.
-- Laws: too few unmarked blocks, a used page and a fresh die each allow their own answers alone (`FewLaw`, `UsedLaw`, `FreshLaw`).
abbrev pub Formats : Geometry → ℕ → Flash → Flash → Result ℕ FormatFault → Type 0
Formats g needed old new (Ok good) = IsFormatted g needed old new good
Formats g needed old new (Err (TooFewGood good asked)) = IsTooFewGood g needed old new good asked
Formats g needed old new (Err Bus) = Unit {0}
Formats g needed old new (Err OutOfMemory) = new ≡ old
Formats g needed old new (Err WriteFailed) = IsWriteFailed g needed old new
Formats g needed old new (Err (NotFresh row)) = IsNotFresh g needed old new row

-- three programs were counted, where the count didn't stand at the greatest u64
abbrev pub AreThreeMore : ℕ → ℕ → Type 0
AreThreeMore old new = old + 3 < 2 ^ 64 → old + 3 ≤ new

-- What is true before a page is programmed: each page was read, where the count of reads can tell; and an honest die was fresh, with good blocks enough.
pub record IsScanned (g : Geometry) (needed : ℕ) (honest : Bool) (old : Flash) (old_reads new_reads : ℕ) : Type 0 where
  pub read : old_reads + row_count g < 2 ^ 64 → new_reads ≡ old_reads + row_count g
  pub fresh : honest ≡ true → IsFresh g old.image
  pub enough : honest ≡ true → needed ≤ good_after g old.image []

-- What any die's format answers, honest or not: numbers in range, and no program before a refusal by the scan. Too few good
-- blocks are found by the scan, or after a program failed in the last block that could be spared. Writing is given up after
-- three programs at least.
abbrev pub Answers : Geometry → ℕ → ℕ → ℕ → Result ℕ FormatFault → Type 0
Answers g needed old_programs new_programs (Ok good) = (needed ≤ good) × (good ≤ g.blocks)
Answers g needed old_programs new_programs (Err (TooFewGood good asked)) =
    (good < needed) × (asked ≡ needed) × ((new_programs ≡ old_programs) ⊎ (good + 1 ≡ needed))
Answers g needed old_programs new_programs (Err Bus) = Unit {0}
Answers g needed old_programs new_programs (Err OutOfMemory) = new_programs ≡ old_programs
Answers g needed old_programs new_programs (Err WriteFailed) = AreThreeMore old_programs new_programs
Answers g needed old_programs new_programs (Err (NotFresh row)) = (row < row_count g) × (new_programs ≡ old_programs)
