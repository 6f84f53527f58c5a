-- The counts on which the argument on free blocks rests, and what one operation does to them.
use Rattle.std.specs.Prelude.{◌≡◌, ◌⊎◌, ℕ, ◌+◌, ◌-◌, ◌*◌, ◌<◌, ◌≤◌}
use Rattle.budget.specs.declared.stream.Stream.{Stream}
use Rattle.budget.specs.declared.stream.Stream.TheVariants.{Data, Meta}

-- good blocks, the free ones among them, and the erased pages that the open block of each stream has over
pub record Counts : Type 0 where
  pub good : ℕ
  pub free : ℕ
  pub data_left : ℕ
  pub meta_left : ℕ

-- the erased pages of a stream's open block: none where no block is open
abbrev pub left_of : Counts → Stream → ℕ
left_of s Data = s.data_left
left_of s Meta = s.meta_left

abbrev pub other_left : Counts → Stream → ℕ
other_left s Data = s.meta_left
other_left s Meta = s.data_left

-- the erased pages in free and in open blocks
abbrev pub pool : ℕ → Counts → ℕ
pool pages s = s.free * pages + s.data_left + s.meta_left

-- the pages of good blocks that aren't in the pool
abbrev pub pages_outside_pool : ℕ → Counts → ℕ
pages_outside_pool pages s = s.good * pages - pool pages s

-- an open block has a page programmed, and free and open blocks are good
pub record FitsGoodBlocks (pages : ℕ) (s : Counts) : Type 0 where
  pub data_open : s.data_left + 1 ≤ pages
  pub meta_open : s.meta_left + 1 ≤ pages
  pub within : pool pages s ≤ s.good * pages

-- a page of the stream was taken: of its open block, or of a free block where none was open
pub record TakesOne (stream : Stream) (pages : ℕ) (old new : Counts) : Type 0 where
  pub good : new.good ≡ old.good
  pub other : other_left new stream ≡ other_left old stream
  pub cases : ((0 < left_of old stream) × (new.free ≡ old.free) × (left_of new stream + 1 ≡ left_of old stream))
      ⊎ ((left_of old stream ≡ 0) × (old.free ≡ new.free + 1) × (left_of new stream + 1 ≡ pages))

-- the same, and its program failed: its block is no longer good, and the stream has none open
pub record FailsOne (stream : Stream) (old new : Counts) : Type 0 where
  pub good : old.good ≡ new.good + 1
  pub other : other_left new stream ≡ other_left old stream
  pub none_left : left_of new stream ≡ 0
  pub cases : ((0 < left_of old stream) × (new.free ≡ old.free)) ⊎ ((left_of old stream ≡ 0) × (old.free ≡ new.free + 1))

-- a good block that is neither free nor open was erased and is free, or failed: `failures` is then 1, else 0
pub record Erased (failures : ℕ) (old new : Counts) : Type 0 where
  pub good : old.good ≡ new.good + failures
  pub free : new.free + failures ≡ old.free + 1
  pub data_same : new.data_left ≡ old.data_left
  pub meta_same : new.meta_left ≡ old.meta_left
