-- What a step of the pinned block leaves.
use Rattle.std.specs.Prelude.{◌≡◌, ◌≢◌, ℕ, ◌+◌, ◌-◌, ◌*◌, ◌≤◌, min, Bool, true, false, Result, Ok, Some, None, IfOk, OnOk, OnErr, MatchResult}
use Rattle.std.specs.Option.{ForSome}
use Rattle.page_layout.specs.View.{View}
use Rattle.page_layout.specs.Counter.{counted}
use Rattle.collection.specs.declared.engine.Engine.{Engine}
use Rattle.collection.specs.declared.engine.Pinned.{Pinned}
use Rattle.collection.specs.declared.engine.collect_in_turns.Step.{Step}
use Rattle.collection.specs.declared.engine.collect_in_turns.Step.TheVariants.{Copied, WroteBack, Erased}
use Rattle.collection.specs.declared.fault.EngineFault.{EngineFault}
use Rattle.collection.specs.Safe.{IsIdle, ram, image_in, page_in_buffer}
use Rattle.collection.specs.Truth.{IsTrue}
use Rattle.collection.specs.Results.{Goes, Refused}
use Rattle.collection.specs.Collect.{excess, GoesBut, KeepsKeys, Refreshes, IsReleased, IsBroughtOut, FaultCosts}
use Rattle.collection.specs.Left.{IsHalfDone, IsCalm, HasPassedNoNewest, HasStepped, StepsOn}

-- the count of erases after a step
abbrev pub erases_told : Step → ℕ → ℕ
erases_told Copied erases = erases
erases_told WroteBack erases = erases
erases_told Erased erases = counted erases

-- A STEP OF THE PINNED BLOCK, where no fault stood
pub record Advances {N : Type 0} (view : View N) (flushing : Bool) (p : Pinned) (old new : Engine N) (result : Result Step EngineFault) : Type 0 where
  pub goes : GoesBut p.block (ram old) (ram new)
  pub goes_still : result ≢ Ok Erased → Goes (ram old) (ram new)
  pub keys : KeepsKeys old.mapping new.mapping
  pub refreshes : flushing ≡ true → Refreshes (ram old) (ram new)
  -- one page at most was programmed, but for those that failed
  pub cost : MatchResult result (HasStepped flushing p (ram old) (ram new)) (FaultCosts (ram old) (ram new))
  -- the page in the buffer is the one that was brought out
  pub brought : result ≡ Ok Copied → IsBroughtOut (ram old) (ram new) (page_in_buffer new.page)
  pub stays : OnErr result ((new.pinned ≡ old.pinned) × (new.mapping ≡ old.mapping))
  pub half_done : OnOk result (ForSome (ram new).pin.block (IsHalfDone (ram new)))
  pub calm : flushing ≡ false → IsCalm (ram old) → OnOk result (IsCalm (ram new))
  pub idle : result ≡ Ok Erased → IsIdle (ram new)
  pub released : result ≡ Ok Erased → IsReleased p.block (ram old).blocks (ram new).blocks
  -- each page from the cursor on is read once at most, and so is the translation page that tells of it; and one that is written back
  pub few_reads : view.reads new.nand ≤ view.reads old.nand + (2 * (old.geometry.pages - p.first) + min (excess flushing (ram old)) 1)
  -- a page that is brought out is the last one read, from the cursor on
  pub copied_reads : result ≡ Ok Copied → (page : ℕ) × (new.pinned ≡ Some (record { block = p.block; first = page + 1 })) × (view.reads new.nand ≤ view.reads old.nand + 2 * (page + 1 - p.first))
  pub erases_are : IfOk result (λ step. view.erases new.nand ≡ erases_told step (view.erases old.nand))
  pub truth : view.honest old.nand ≡ true → IsTrue None (ram old) (image_in view.flash old) → HasPassedNoNewest (ram old) (image_in view.flash old) p
      → MatchResult result
      (StepsOn flushing p (ram old) (image_in view.flash old) (ram new) (image_in view.flash new))
      (Refused (ram old) (image_in view.flash old) (ram new) (image_in view.flash new))
