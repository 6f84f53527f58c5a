-- One change of a sector, by what its calls say of it; and calls of sectors one after another.
use Rattle.std.proofs.Common.{◌≡◌, inl, inr, ℕ, Bool, true, false, [], Result, Ok, Err, refl, subst, sym, rules}
use Rattle.page_layout.specs.View.{View}
use Rattle.promises.specs.Step.{Command}
use Rattle.file_die.specs.Store.{Held}
use Rattle.nbd_stream.specs.declared.fault.DiskFault.{DiskFault}
use Rattle.nbd_stream.specs.declared.fault.DiskFault.TheVariants as fault
use Rattle.nbd_stream.specs.declared.task.Task.TheVariants.{Flush, Trim}
use Rattle.nbd_stream.specs.declared.reply.RequestError.TheVariants.{InputOutput}
use Rattle.nbd_stream.specs.Disk.{Contents, PerformsTask, answer_from, error_for}
use Rattle.nbd_stream.specs.Through.{Through}
use Rattle.nbd_stream.proofs.ThroughLemmas.{joined, none, once}
use Rattle.ftl_device.specs.declared.device.Device.{Device}
use Rattle.disk_server.specs.Asked.{AsksPiece, FlushesIf, SetsRange, StepsTo}
use Rattle.disk_server.specs.Disk.{AsksChange, AsksClear, ChangesOne}
use Rattle.disk_server.specs.Reopened.{Reopened, AsksDevice, changes_in, changes_of, clears_of}

-- a read fails, and says no more
only_failed : (e : DiskFault) → error_for e ≡ InputOutput → e ≡ fault.Failed
only_failed fault.ReadOnly told = (let never : ⊥ = cc in absurd never)
only_failed fault.Failed told = refl
only_failed fault.NoSpace told = (let never : ⊥ = cc in absurd never)

module _ {N : Type 0} (view : View N) (old new : Device N) (n : ℕ) (result : Result (Unit {0}) DiskFault) where
  pub sets_one : (command : Command) → AsksChange view n command old result new → ChangesOne view old result new
  unfolding ChangesOne
  sets_one command asks = (n, inl (command, asks))

  pub clears_one : AsksClear view n old result new → ChangesOne view old result new
  unfolding ChangesOne
  clears_one asks = (n, inr asks)

module _ {S : Type 0} (held : S → Held) (honest full : S → Bool) (failed : S → ℕ) (old new : Reopened S) (n : ℕ) (result : Result (Unit {0}) DiskFault) where
  pub sets_in : (command : Command) → AsksDevice held honest full failed (changes_of held honest failed n command) fault.NoSpace old result new → changes_in held honest full failed old result new
  unfolding changes_in
  sets_in command asks = (n, inl (command, asks))

  pub clears_in : AsksDevice held honest full failed (clears_of held honest failed n) fault.NoSpace old result new → changes_in held honest full failed old result new
  unfolding changes_in
  clears_in asks = (n, inr asks)

module _ {S : Type 0} (reads : S → S → Type 0) (changes : S → Result (Unit {0}) DiskFault → S → Type 0) where
  abbrev Step : S → Result (Unit {0}) DiskFault → S → Type 0
  Step = AsksPiece reads changes

  abbrev Done : S → S → Type 0
  Done old new = Step old (Ok tt) new

  step_alone : (old new : S) (result : Result (Unit {0}) DiskFault) → Step old result new → StepsTo Step old result new
  step_alone old new (Ok done) is = once Done old new is
  step_alone old new (Err e) is = (old, none Done old old refl, is)

  -- steps, and then more
  pub steps_on : (old mid new : S) (result : Result (Unit {0}) DiskFault) → Through Done old mid → StepsTo Step mid result new → StepsTo Step old result new
  steps_on old mid new (Ok done) before more = joined Done old mid new before more
  steps_on old mid new (Err e) before (at, more, last) = (at, joined Done old mid at before more, last)

  -- a read of a sector that was done, and one that failed
  pub a_read : (old new : S) → reads old new → StepsTo Step old (Ok tt) new
  a_read old new is = step_alone old new (Ok tt) (inl (tt, is))

  pub a_failed_read : (old new : S) (e : DiskFault) → error_for e ≡ InputOutput → reads old new → StepsTo Step old (Err e) new
  a_failed_read old new e told is = step_alone old new (Err e) (inl (only_failed e told, is))

  -- a change of one
  pub a_change : (old new : S) (result : Result (Unit {0}) DiskFault) → changes old result new → StepsTo Step old result new
  a_change old new result is = step_alone old new result (inr is)

  -- a read, and then a change
  pub read_then_change : (old mid new : S) (result : Result (Unit {0}) DiskFault) → reads old mid → changes mid result new → StepsTo Step old result new
  read_then_change old mid new result first next = steps_on old mid new result (once Done old mid (inl (tt, first))) (a_change mid new result next)

  -- a range, with a flush behind it, without one, and one of which a sector failed
  module _ (flushes : S → Result (Unit {0}) DiskFault → S → Type 0) (durable : Bool) (old new : S) where
    pub set_and_flushed : (mid : S) (result : Result (Unit {0}) DiskFault) → durable ≡ true → StepsTo Step old (Ok tt) mid → flushes mid result new → SetsRange reads changes flushes durable old result new
    set_and_flushed mid result lasts steps flush =
        record { mid = mid; answer = Ok tt; pieces = steps; done = subst (λ b. FlushesIf flushes b mid result new) (sym lasts) flush; not_done = tt }

    pub set_alone : durable ≡ false → StepsTo Step old (Ok tt) new → SetsRange reads changes flushes durable old (Ok tt) new
    set_alone plain steps = record { mid = new; answer = Ok tt; pieces = steps; done = subst (λ b. FlushesIf flushes b new (Ok tt) new) (sym plain) (refl, refl); not_done = tt }

    pub set_stopped : (e : DiskFault) → StepsTo Step old (Err e) new → SetsRange reads changes flushes durable old (Err e) new
    set_stopped e steps = record { mid = new; answer = Err e; pieces = steps; done = tt; not_done = (refl, refl) }

-- a range that was cleared, and is then flushed, lasts
pub cleared_lasts : {S : Type 0} (contents : S → Contents) (honest calm : S → Bool) (offset count : ℕ) (old mid new : S) (result : Result (Unit {0}) DiskFault)
    → PerformsTask contents honest calm (Trim offset count false) [] old (Ok []) mid → PerformsTask contents honest calm Flush [] mid (answer_from result []) new
    → PerformsTask contents honest calm (Trim offset count true) [] old (answer_from result []) new
cleared_lasts contents honest calm offset count old mid new result first last = search rules
