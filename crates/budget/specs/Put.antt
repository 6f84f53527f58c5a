-- A page that is programmed again after each failure, in another block, until it passes.
use Rattle.std.specs.Prelude.{◌≡◌, ◌⊎◌, ℕ, ◌+◌, ◌<◌}
use Rattle.budget.specs.declared.stream.Stream.{Stream}
use Rattle.budget.specs.Counts.{Counts, left_of, other_left}

-- So many tries failed. At first the stream is as it was; later it has no block open, and each try has cost a block: the
-- open one first, if there was one, and then free ones.
pub record Tried (failures free left free_now left_now : ℕ) : Type 0 where
  pub cases : ((failures ≡ 0) × (free_now ≡ free) × (left_now ≡ left))
      ⊎ ((0 < failures) × (left_now ≡ 0) × (0 < left) × (free + 1 ≡ free_now + failures))
      ⊎ ((0 < failures) × (left_now ≡ 0) × (left ≡ 0) × (free ≡ free_now + failures))

pub record Tries (stream : Stream) (failures : ℕ) (old now : Counts) : Type 0 where
  pub tried : Tried failures old.free (left_of old stream) now.free (left_of now stream)
  pub good : old.good ≡ now.good + failures
  pub other : other_left now stream ≡ other_left old stream

-- A page was programmed after so many failures: in the open block, or in a free one after the open one failed, or in a free
-- one where none was open.
pub record Put (pages failures free left free_then left_then : ℕ) : Type 0 where
  pub cases : ((failures ≡ 0) × (left ≡ left_then + 1) × (free ≡ free_then))
      ⊎ ((pages ≡ left_then + 1) × (0 < left) × (0 < failures) × (free ≡ free_then + failures))
      ⊎ ((pages ≡ left_then + 1) × (left ≡ 0) × (free ≡ free_then + failures + 1))

pub record StreamPut (stream : Stream) (pages failures : ℕ) (old new : Counts) : Type 0 where
  pub put : Put pages failures old.free (left_of old stream) new.free (left_of new stream)
  pub good : old.good ≡ new.good + failures
  pub other : other_left new stream ≡ other_left old stream

-- After so many failures no block is free: all that were free have failed, and the open one if there was one.
pub record NoneFree (failures free left : ℕ) : Type 0 where
  pub cases : ((0 < left) × (failures ≡ free + 1)) ⊎ ((left ≡ 0) × (failures ≡ free))

pub record FindsNone (stream : Stream) (failures : ℕ) (old new : Counts) : Type 0 where
  pub none : NoneFree failures old.free (left_of old stream)
  pub good : old.good ≡ new.good + failures
