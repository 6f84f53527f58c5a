-- What a page costs, whatever the die does: sequences, and blocks that fail or are opened.
use Rattle.std.specs.Prelude.{◌≡◌, ℕ, ◌+◌, ◌-◌, ◌/◌, ◌<◌, ◌^◌, min, Option, Some, None, Result, Ok, Err}
use Rattle.budget.specs.declared.stream.Stream.{Stream}
use Rattle.budget.specs.declared.stream.Stream.TheVariants.{Meta}
use Rattle.budget.specs.Counts.{TakesOne, FailsOne}
use Rattle.budget.specs.Put.{Tries, StreamPut, FindsNone}
use Rattle.allocation.specs.State.{State, live_at}
use Rattle.allocation.specs.Step.{HasNone, with_live, most_live}
use Rattle.allocation.specs.Counts.{counts_of}
use Rattle.collection.specs.declared.fault.EngineFault.{EngineFault}
use Rattle.collection.specs.declared.fault.EngineFault.TheVariants.{ReadOnly, SequenceSpent, Damaged, Bus}
use Rattle.collection.specs.State.{Ram}

-- ---- live pages

-- a page in this row, if there is one, is no longer a newest one
abbrev pub one_live_less : Option ℕ → State → State
one_live_less None s = s
one_live_less (Some row) s = with_live (row / s.geometry.pages) (live_at s (row / s.geometry.pages) - 1) s

-- the newest page of a key has moved from its old row, if it had one, to the block
abbrev pub moved_live : Option ℕ → ℕ → State → State
moved_live old_row block s =
    let left : State = one_live_less old_row s in
    with_live block (min (live_at left block + 1) most_live) left

-- ---- one try

pub record FailsTry (stream : Stream) (old new : Ram) : Type 0 where
  pub counts : FailsOne stream (counts_of old.blocks) (counts_of new.blocks)
  pub next : new.next ≡ old.next + 1

pub record PassesTry (stream : Stream) (old new : Ram) : Type 0 where
  pub counts : TakesOne stream old.geometry.pages (counts_of old.blocks) (counts_of new.blocks)
  pub next : new.next ≡ old.next + 1

pub record FindsNoRow (stream : Stream) (old new : Ram) : Type 0 where
  pub none : HasNone old.blocks stream
  pub same : new ≡ old

-- what one try costs, by what it answers
abbrev pub TryCosts : Stream → Ram → Ram → Result (Option ℕ) EngineFault → Type 0
TryCosts stream old new (Ok None) = FailsTry stream old new
TryCosts stream old new (Ok (Some row)) = PassesTry stream old new
TryCosts stream old new (Err ReadOnly) = FindsNoRow stream old new
TryCosts stream old new (Err SequenceSpent) = ⊥
TryCosts stream old new (Err Damaged) = ⊥
TryCosts stream old new (Err Bus) = Unit {0}

-- ---- a page with its tries

-- each try so far failed; it took a sequence and a block, and no block was opened for the next one
pub record HasTried (stream : Stream) (old new : Ram) : Type 0 where
  pub failures : ℕ
  pub tries : Tries stream failures (counts_of old.blocks) (counts_of new.blocks)
  pub next : new.next ≡ old.next + failures

-- the page was programmed after so many failures
pub record HasPut (stream : Stream) (old new : Ram) : Type 0 where
  pub failures : ℕ
  pub put : StreamPut stream old.geometry.pages failures (counts_of old.blocks) (counts_of new.blocks)
  pub next : new.next ≡ old.next + failures + 1

-- there is a sequence for the next try, but no block is left: each that was free has failed, and the open one if there was one
pub record HasRunOut (stream : Stream) (old new : Ram) : Type 0 where
  pub failures : ℕ
  pub found : FindsNone stream failures (counts_of old.blocks) (counts_of new.blocks)
  pub none : HasNone new.blocks stream
  pub next : new.next ≡ old.next + failures
  pub sequence : new.next < 2 ^ 64 - 1

-- there is no sequence for the next try
pub record HasSpent (stream : Stream) (old new : Ram) : Type 0 where
  pub tried : HasTried stream old new
  pub last : new.next ≡ 2 ^ 64 - 1

-- what a page costs, by what it answers
abbrev pub PutCosts : Stream → Ram → Ram → Result ℕ EngineFault → Type 0
PutCosts stream old new (Ok row) = HasPut stream old new
PutCosts stream old new (Err ReadOnly) = HasRunOut stream old new
PutCosts stream old new (Err SequenceSpent) = HasSpent stream old new
PutCosts stream old new (Err Damaged) = ⊥
PutCosts stream old new (Err Bus) = Unit {0}

-- the same of a call that answers no row
abbrev pub PageCosts : Stream → Ram → Ram → Result (Unit {0}) EngineFault → Type 0
PageCosts stream old new (Ok done) = HasPut stream old new
PageCosts stream old new (Err ReadOnly) = HasRunOut stream old new
PageCosts stream old new (Err SequenceSpent) = HasSpent stream old new
PageCosts stream old new (Err Damaged) = ⊥
PageCosts stream old new (Err Bus) = Unit {0}

-- the same of a translation page that is written back: where it was damaged there was no try
abbrev pub WriteBackCosts : Ram → Ram → Result (Unit {0}) EngineFault → Type 0
WriteBackCosts old new (Ok done) = HasPut Meta old new
WriteBackCosts old new (Err ReadOnly) = HasRunOut Meta old new
WriteBackCosts old new (Err SequenceSpent) = HasSpent Meta old new
WriteBackCosts old new (Err Damaged) = new.next ≡ old.next
WriteBackCosts old new (Err Bus) = Unit {0}
