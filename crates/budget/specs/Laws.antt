-- The laws of the count, as one statement each.
use Rattle.std.specs.Prelude.{◌≡◌, ℕ, ◌+◌, ◌*◌, ◌/◌, ◌<◌, ◌≤◌, ◌==◌, min, Bool, true, List, length, count_by, Option}
use Rattle.std.specs.Int.{div_ceil}
use Rattle.std.specs.List.{AllByRecursion, range_with_len}
use Rattle.page_layout.specs.declared.record.Record.{Record}
use Rattle.page_layout.specs.declared.geometry.Geometry.{Geometry}
use Rattle.page_layout.specs.Geometry.{need, vmax, translation_pages, waiting_at, vmax_at, flush_blocks_at, need_at}
use Rattle.page_layout.specs.Live.{live}
use Rattle.page_layout.specs.Count.{blocks_that}
use Rattle.budget.specs.declared.stream.Stream.{Stream}
use Rattle.budget.specs.Counts.{Counts, left_of, pages_outside_pool, FitsGoodBlocks, TakesOne, FailsOne, Erased}
use Rattle.budget.specs.Put.{Tries, StreamPut, FindsNone}
use Rattle.budget.specs.Spending.{Spending, data_of, meta_of, Collected, Stuck, IsFunded}

-- ---- one page with its retries

-- before the first try
abbrev pub FirstTryLaw : Type 0
FirstTryLaw = (stream : Stream) (s : Counts) → Tries stream 0 s s

-- a try that fails
abbrev pub FailedTryLaw : Type 0
FailedTryLaw = (stream : Stream) (failures : ℕ) (old now new : Counts) → Tries stream failures old now → FailsOne stream now new → Tries stream (failures + 1) old new

-- a try that passes
abbrev pub PassedTryLaw : Type 0
PassedTryLaw = (stream : Stream) (pages failures : ℕ) (old now new : Counts) → FitsGoodBlocks pages old → Tries stream failures old now → TakesOne stream pages now new → StreamPut stream pages failures old new

-- no block for the next try
abbrev pub NoTryLaw : Type 0
NoTryLaw = (stream : Stream) (failures : ℕ) (old now : Counts) → Tries stream failures old now → now.free ≡ 0 → left_of now stream ≡ 0 → FindsNone stream failures old now

-- ---- some pages

abbrev pub NoPageLaw : Type 0
NoPageLaw = (pages : ℕ) (s : Counts) → FitsGoodBlocks pages s → Spending pages s s 0 0

abbrev pub OnePageSpentLaw : Type 0
OnePageSpentLaw = (stream : Stream) (pages failures data_pages meta_pages : ℕ) (first now new : Counts) → Spending pages first now data_pages meta_pages
    → StreamPut stream pages failures now new → Spending pages first new (data_pages + data_of stream) (meta_pages + meta_of stream)

-- less than a block of pages opens at most two blocks, and one more for each failure
abbrev pub OpeningsLaw : Type 0
OpeningsLaw = (pages data_pages meta_pages : ℕ) (first now : Counts) → Spending pages first now data_pages meta_pages
    → data_pages + meta_pages + 1 ≤ pages → first.free + now.good ≤ now.free + first.good + 2

-- pages of the meta stream alone open at most as many blocks as they fill, and one more for each failure
abbrev pub MetaOpeningsLaw : Type 0
MetaOpeningsLaw = (pages meta_pages blocks : ℕ) (first now : Counts) → Spending pages first now 0 meta_pages
    → now.meta_left + meta_pages < (blocks + 1) * pages → first.free + now.good ≤ now.free + first.good + blocks

-- a page that finds no free block, with less than a block of pages before it
abbrev pub StuckLaw : Type 0
StuckLaw = (stream : Stream) (pages failures data_pages meta_pages : ℕ) (first now new : Counts) → Spending pages first now data_pages meta_pages
    → data_pages + meta_pages + 2 ≤ pages → FindsNone stream failures now new → Stuck first new

-- less than a block of pages, and then the block that they were copied from is erased or fails
abbrev pub CollectedLaw : Type 0
CollectedLaw = (pages failures data_pages meta_pages : ℕ) (first now new : Counts) → Spending pages first now data_pages meta_pages
    → data_pages + meta_pages + 1 ≤ pages → Erased failures now new → FitsGoodBlocks pages new → Collected pages first new

-- ---- collections until nine blocks are free

-- with five free blocks the pool is funded
abbrev pub FundedLaw : Type 0
FundedLaw = (pages : ℕ) (s : Counts) → 5 ≤ s.free → IsFunded pages 0 s

-- with six it still is after a page, whatever its failures
abbrev pub PutFundedLaw : Type 0
PutFundedLaw = (stream : Stream) (pages failures : ℕ) (old new : Counts) → FitsGoodBlocks pages old → StreamPut stream pages failures old new → 6 ≤ old.free → IsFunded pages failures new

-- a collection keeps it funded
abbrev pub CollectedFundedLaw : Type 0
CollectedFundedLaw = (pages failures : ℕ) (old new : Counts) → IsFunded pages failures old → (c : Collected pages old new) → IsFunded pages (failures + c.failures) new

-- a funded pool has at least four free blocks, but for the failures
abbrev pub FreeLeftLaw : Type 0
FreeLeftLaw = (pages failures : ℕ) (s : Counts) → FitsGoodBlocks pages s → IsFunded pages failures s → 4 ≤ s.free + failures

-- so a collection that finds no free block has seen three failures, its own and those before it
abbrev pub NeverStuckLaw : Type 0
NeverStuckLaw = (pages failures : ℕ) (old new : Counts) → FitsGoodBlocks pages old → IsFunded pages failures old → Stuck old new → 3 + new.good ≤ failures + old.good

-- With `need_at` good blocks collections go on until nine blocks and those of a flush are free, with some more or fewer good ones until as many
-- more or fewer are: fewer free ones leave a closed block with at most `vmax_at` newest pages.
abbrev pub FreeAtLaw : Type 0
FreeAtLaw = (g : Geometry) (share : ℕ) (marks : List (Option Record)) (closed : ℕ → Bool) (many free open_blocks : ℕ)
    → need_at g share + many ≤ free + open_blocks + blocks_that g closed + (9 + flush_blocks_at g share) → open_blocks ≤ 2
    → ((block : ℕ) → block < g.blocks → closed block ≡ true → vmax_at g share < live g marks block) → many ≤ free

-- With share 0: with `need` good blocks collections go on until nine blocks are free, and with some more good ones until as many more are
-- free: fewer free ones leave a closed block with at most `vmax` newest pages.
abbrev pub NineLaw : Type 0
NineLaw = (g : Geometry) (marks : List (Option Record)) (closed : ℕ → Bool) (more free open_blocks : ℕ)
    → need g + more ≤ free + open_blocks + blocks_that g closed → open_blocks ≤ 2
    → ((block : ℕ) → block < g.blocks → closed block ≡ true → vmax g < live g marks block) → 9 + more ≤ free

-- each collection leaves fewer pages that aren't in the pool
abbrev pub FallsLaw : Type 0
FallsLaw = (pages : ℕ) (old new : Counts) → FitsGoodBlocks pages old → Collected pages old new → pages_outside_pool pages new < pages_outside_pool pages old

-- a flush above share 0 that begins with them, and has at most two failures, leaves nine after any of its translation pages
abbrev pub FlushLeavesLaw : Type 0
FlushLeavesLaw = (g : Geometry) (share written : ℕ) (first now : Counts) → 0 < share
    → 9 + flush_blocks_at g share ≤ first.free → written ≤ translation_pages g → Spending g.pages first now 0 written
    → first.good ≤ now.good + 2 → 9 ≤ now.free

-- ---- the pages of a collection

-- a block with at most `vmax_at` newest pages has room for their copies and for as many translation pages as are written back for them
abbrev pub CopiesFitAtLaw : Type 0
CopiesFitAtLaw = (g : Geometry) (share live_pages : ℕ) → live_pages ≤ vmax_at g share
    → live_pages + min (div_ceil live_pages (share + 1)) (translation_pages g) + 1 ≤ g.pages

-- with share 0: a block with at most `vmax` newest pages has room for their copies and for as many translation pages
abbrev pub CopiesFitLaw : Type 0
CopiesFitLaw = (g : Geometry) (live_pages : ℕ) → live_pages ≤ vmax g → live_pages + min live_pages (translation_pages g) + 1 ≤ g.pages

-- some sectors are of at most so many translation pages as they are, and of no more than there are
abbrev pub TouchedLaw : Type 0
TouchedLaw = (per_page count : ℕ) (sectors : List ℕ) (touched : ℕ → Bool)
    → ((t : ℕ) → t < count → touched t ≡ true → 0 < count_by (λ n. n / per_page == t) sectors)
    → count_by touched (range_with_len 0 count) ≤ min (length sectors) count

-- ---- the account of a collection whose moved sectors wait

-- so many sectors waited first; so many pages were copied, each of which lets at most one more wait; so many translation pages were written
-- back, for each of which more than `share` waited; so many wait now
abbrev pub Accounts : ℕ → ℕ → ℕ → ℕ → ℕ → Type 0
Accounts share first copies written waiting = (share + 1) * written + waiting ≤ first + copies

abbrev pub AccountBeginsLaw : Type 0
AccountBeginsLaw = (share first : ℕ) → Accounts share first 0 0 first

abbrev pub CopyAccountLaw : Type 0
CopyAccountLaw = (share first copies written waiting now : ℕ) → Accounts share first copies written waiting → now ≤ waiting + 1
    → Accounts share first (copies + 1) written now

abbrev pub WriteBackAccountLaw : Type 0
WriteBackAccountLaw = (share first copies written waiting now : ℕ) → Accounts share first copies written waiting → now + share < waiting
    → Accounts share first copies (written + 1) now

-- while too many wait, one more translation page is written back for at most share + 1 copies each
abbrev pub WriteBacksLaw : Type 0
WriteBacksLaw = (g : Geometry) (share first copies written waiting : ℕ) → first ≤ waiting_at g share
    → Accounts share first copies written waiting → waiting_at g share < waiting → written + 1 ≤ div_ceil copies (share + 1)

-- and where the block was worth collecting, and no translation page is written twice, the pages of a block are enough
abbrev pub BatchFitsLaw : Type 0
BatchFitsLaw = (g : Geometry) (share first copies written waiting : ℕ) → copies ≤ vmax_at g share → first ≤ waiting_at g share
    → Accounts share first copies written waiting → waiting_at g share < waiting → written < translation_pages g
    → copies + (written + 1) + 1 ≤ g.pages

-- the lowest of so many translation pages that more than `share` of the sectors are of
pub record IsLowestOverShare (per_page count share : ℕ) (sectors : List ℕ) (page : ℕ) : Type 0 where
  pub within : page < count
  pub over : share < count_by (λ n. n / per_page == page) sectors
  pub others : (t : ℕ) → t < page → count_by (λ n. n / per_page == t) sectors ≤ share

-- where more than `share` sectors wait for each translation page in the mean, there is one
abbrev pub SomeOverLaw : Type 0
SomeOverLaw = (per_page count share : ℕ) (sectors : List ℕ) → AllByRecursion (λ n. n / per_page < count) sectors
    → share * count < length sectors → (page : ℕ) × IsLowestOverShare per_page count share sectors page
