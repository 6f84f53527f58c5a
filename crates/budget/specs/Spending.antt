-- What some pages cost, programmed one after another in both streams, and what a collection of a block costs and brings.
use Rattle.std.specs.Prelude.{◌≡◌, ◌⊎◌, ℕ, ◌+◌, ◌*◌, ◌<◌, ◌≤◌}
use Rattle.budget.specs.declared.stream.Stream.{Stream}
use Rattle.budget.specs.declared.stream.Stream.TheVariants.{Data, Meta}
use Rattle.budget.specs.Counts.{Counts, pool, FitsGoodBlocks}

-- In one stream: a block was opened for each failure, and else only because a block was used up or none was open. Each that
-- was used up took a block's pages of those programmed and those left.
pub record OpensBlocks (pages programmed failures openings left : ℕ) : Type 0 where
  pub used_up : ℕ
  pub most : openings ≤ failures + used_up
  pub each : (used_up ≡ 0) ⊎ (used_up * pages ≤ left + programmed)

-- So many pages were programmed in the data stream and in the meta stream.
pub record Spending (pages : ℕ) (first now : Counts) (data_pages meta_pages : ℕ) : Type 0 where
  pub data_failures : ℕ
  pub meta_failures : ℕ
  pub data_openings : ℕ
  pub meta_openings : ℕ
  pub in_data : OpensBlocks pages data_pages data_failures data_openings now.data_left
  pub in_meta : OpensBlocks pages meta_pages meta_failures meta_openings now.meta_left
  pub good : first.good ≡ now.good + data_failures + meta_failures
  pub free : first.free ≡ now.free + data_openings + meta_openings
  pub pays : pool pages first ≤ pool pages now + (data_pages + meta_pages) + (data_failures + meta_failures) * pages
  pub data_open : now.data_left < pages
  pub meta_open : now.meta_left < pages

-- one page of the stream
abbrev pub data_of : Stream → ℕ
data_of Data = 1
data_of Meta = 0

abbrev pub meta_of : Stream → ℕ
meta_of Data = 0
meta_of Meta = 1

-- A collection that ended: the pool has grown, or has fallen by at most a block's pages for each failure.
pub record Collected (pages : ℕ) (old new : Counts) : Type 0 where
  pub failures : ℕ
  pub good : old.good ≡ new.good + failures
  pub pays : pool pages old + 1 ≤ pool pages new + failures * pages
  pub fits : FitsGoodBlocks pages new

-- A collection that found no free block: as it began, at most one block more was free than have failed in it.
pub record Stuck (old new : Counts) : Type 0 where
  pub few : old.free + new.good ≤ old.good + 1

-- After so many failures the pool still holds five blocks' pages, but for a block for each failure.
pub record IsFunded (pages failures : ℕ) (s : Counts) : Type 0 where
  pub enough : 5 * pages ≤ pool pages s + failures * pages
