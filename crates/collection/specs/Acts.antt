-- What the engine's calls say alike, whatever the die does: those that only look, those that change the die, and those that a standing fault
-- stops.
use Rattle.std.specs.Prelude.{◌≡◌, ◌≢◌, ◌⊎◌, ℕ, ◌≤◌, true, [], None, Result, Err, IfErr}
use Rattle.std.specs.Option.{ForSome}
use Rattle.page_layout.specs.View.{View}
use Rattle.page_layout.specs.Counter.{HasRisen}
use Rattle.page_layout.specs.Recording.{EndsAt}
use Rattle.page_layout.specs.OnlyReads.{OnlyReads}
use Rattle.page_layout.specs.DieCalls.{AsksOnly}
use Rattle.collection.specs.declared.engine.Engine.{Engine}
use Rattle.collection.specs.declared.fault.EngineFault.{EngineFault}
use Rattle.collection.specs.declared.fault.EngineFault.TheVariants.{Bus}
use Rattle.collection.specs.Safe.{IsSafe, ram}
use Rattle.collection.specs.Looks.{IsReadFault}
use Rattle.collection.specs.Log.{Went}
use Rattle.collection.specs.Results.{fault_after}

-- Each of them asks its die by calls of it alone.

-- A CALL THAT LOOKS: memory stays, the die is only read, and an honest one stays as it is, and so does what it tells, unless it gave a fault;
-- then it tells the same, or no more
pub record EngineLooks {A N : Type 0} (view : View N)
    (old new : Engine N) (result : Result A EngineFault) : Type 0 where
  pub safe : IsSafe view.flash new
  pub memory : ram new ≡ ram old
  pub only_reads : OnlyReads view old.nand new.nand
  pub asked : AsksOnly view.called old.nand new.nand
  pub faults : IfErr result IsReadFault
  pub rose : result ≡ Err Bus → HasRisen (view.failed old.nand) (view.failed new.nand)
  pub same : view.honest old.nand ≡ true → result ≢ Err Bus → view.flash new.nand ≡ view.flash old.nand
  pub told : view.honest old.nand ≡ true → result ≢ Err Bus → view.recorded new.nand ≡ view.recorded old.nand
  pub cut : view.honest old.nand ≡ true → result ≡ Err Bus → EndsAt [] (view.recorded old.nand) (view.recorded new.nand)

-- A CALL THAT ACTS, and notes no fault: what an honest die did is one log, unless the die gave a fault, and that is counted
pub record EngineActs {A N : Type 0} (view : View N) (old new : Engine N) (result : Result A EngineFault) : Type 0 where
  pub safe : IsSafe view.flash new
  pub fault : new.fault ≡ old.fault
  pub honest_is : view.honest new.nand ≡ view.honest old.nand
  pub calm_is : view.calm new.nand ≡ view.calm old.nand
  pub asked : AsksOnly view.called old.nand new.nand
  pub failed_is : view.failed old.nand ≤ view.failed new.nand
  pub rose : result ≡ Err Bus → HasRisen (view.failed old.nand) (view.failed new.nand)
  pub went : view.honest old.nand ≡ true → result ≢ Err Bus → Went (ram old) (view.flash old.nand) (view.recorded old.nand) (ram new) (view.flash new.nand) (view.recorded new.nand)

-- A CALL THAT A STANDING FAULT STOPS: such a fault is answered again and nothing changes; else the call acts, and a fault that it answers
-- stands from then on
pub record Stands {A N : Type 0} (view : View N) (old new : Engine N) (result : Result A EngineFault) : Type 0 where
  pub safe : IsSafe view.flash new
  pub standing : ForSome old.fault (λ fault. (result ≡ Err fault) × (new ≡ old))
  pub fault : new.fault ≡ fault_after old.fault result
  pub honest_is : view.honest new.nand ≡ view.honest old.nand
  pub calm_is : view.calm new.nand ≡ view.calm old.nand
  pub asked : AsksOnly view.called old.nand new.nand
  pub failed_is : view.failed old.nand ≤ view.failed new.nand
  pub rose : old.fault ≡ None → result ≡ Err Bus → HasRisen (view.failed old.nand) (view.failed new.nand)
  pub went : view.honest old.nand ≡ true → result ≢ Err Bus → Went (ram old) (view.flash old.nand) (view.recorded old.nand) (ram new) (view.flash new.nand) (view.recorded new.nand)

-- MAKING ROOM: nothing was done for it, or a block was erased and none is pinned
abbrev pub RestsOrErases : {N : Type 0} → (erases : N → ℕ) → (old new : Engine N) → Type 0
RestsOrErases erases old new = (new ≡ old) ⊎ (HasRisen (erases old.nand) (erases new.nand) × (new.pinned ≡ None))

-- a call that reads no page and erases no block
pub record OnlyPrograms {N : Type 0} (view : View N) (old new : N) : Type 0 where
  pub reads_are : view.reads new ≡ view.reads old
  pub erases_are : view.erases new ≡ view.erases old
