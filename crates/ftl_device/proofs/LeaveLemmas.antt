-- Calls of the engine one after another, where no fault stood.
use Rattle.std.proofs.Common.{◌≡◌, ◌≢◌, ◌<◌, ◌≤◌, ◌∙◌, true, None, Some, Result, Ok, Err, refl, ap, arith}
use Rattle.page_layout.specs.View.{View}
use Rattle.bad_blocks.specs.Table.{good_count}
use Rattle.mapping_cache.specs.Mapping.{MappingState, HasLimitsOf}
use Rattle.collection.specs.declared.engine.Engine.{Engine}
use Rattle.collection.specs.declared.fault.EngineFault.{EngineFault}
use Rattle.collection.specs.declared.fault.EngineFault.TheVariants.{ReadOnly, SequenceSpent, Damaged, Bus}
use Rattle.collection.specs.State.{Ram}
use Rattle.collection.specs.Safe.{IsSafe, ram, image_in}
use Rattle.collection.specs.Stops.{CutsSafely, StopsSafely}
use Rattle.collection.specs.Left.{IsCalm}
use Rattle.budget.specs.declared.stream.Stream.{Stream}
use Rattle.allocation.specs.State.{free_count}
use Rattle.collection.specs.Acts.{Stands}
use Rattle.collection.specs.Cost.{PageCosts, WriteBackCosts}
use Rattle.collection.specs.Results.{fault_after}
use Rattle.collection.proofs.Acts.{acts_same, acts_end, acts_noted}
use Rattle.collection.proofs.Costs.{risen_over}
use Rattle.collection.proofs.Logs.{went_same, went_then}
use Rattle.ftl_device.specs.declared.fault.CallFault.{CallFault}
use Rattle.ftl_device.specs.declared.fault.CallFault.TheVariants as call
use Rattle.ftl_device.specs.Calls.{TellsByMemory, CallTells, standing_after, Knows, CallRefused}
use Rattle.ftl_device.specs.Changes.{EngineLeaves, EndsCall, EndsKept}
use Rattle.ftl_device.proofs.DieLemmas.{die_same, die_then, die_of}
use Rattle.ftl_device.proofs.EndLemmas.{call_of}
use Rattle.ftl_device.proofs.StoppedLemmas.{KeepsOn, cuts_on, stops_same, stops_still, stops_on}

pub tells_then : {B : Type 0} (a b c : Ram) (result : Result B EngineFault) → good_count b.blocks.table ≤ good_count a.blocks.table → TellsByMemory b c result → TellsByMemory a c result
tells_then a b c (Ok answer) fewer h = omega (arith, fewer, h)
tells_then a b c (Err ReadOnly) fewer h = (h.0, omega (arith, fewer, h.1))
tells_then a b c (Err SequenceSpent) fewer h = h
tells_then a b c (Err Damaged) fewer h = tt
tells_then a b c (Err Bus) fewer h = tt

fault_noted : {A : Type 0} (result : Result A EngineFault) (old new : Ram) → old.fault ≡ None → new.fault ≡ fault_after old.fault result → new.fault ≡ fault_after None result
fault_noted (Ok answer) old new none is = is ∙ none
fault_noted (Err fault) old new none is = is

call_fault : (result : Result (Unit {0}) EngineFault) (r : Ram) → r.fault ≡ fault_after None result → r.fault ≡ standing_after (call_of result)
call_fault (Ok done) r is = is
call_fault (Err fault) r is = is

pub call_bus : (result : Result (Unit {0}) EngineFault) → call_of result ≡ Err (call.Engine Bus) → result ≡ Err Bus
call_bus (Ok done) e = (let no : ⊥ = cc in absurd no)
call_bus (Err fault) e = (let same : fault ≡ Bus = cc in ap Err same)

call_tells : (result : Result (Unit {0}) EngineFault) (a b : Ram) → TellsByMemory a b result → CallTells a b (call_of result)
call_tells (Ok done) a b h = h
call_tells (Err ReadOnly) a b h = h
call_tells (Err SequenceSpent) a b h = h
call_tells (Err Damaged) a b h = tt
call_tells (Err Bus) a b h = tt

refused_tells : (A B : Type 0) (fault : EngineFault) (a b : Ram) → TellsByMemory {A = A} a b (Err fault) → TellsByMemory {A = B} a b (Err fault)
refused_tells A B ReadOnly a b h = h
refused_tells A B SequenceSpent a b h = h
refused_tells A B Damaged a b h = tt
refused_tells A B Bus a b h = tt

-- a fault of the engine as the answer of a call that may want memory too
abbrev ended : EngineFault → Result (Unit {0}) CallFault
ended fault = Err (call.Engine fault)

module _ {N : Type 0} (view : View N) where
  -- a call that the engine's standing fault would have stopped
  pub leaves_by : {A : Type 0} (old new : Engine N) (result : Result A EngineFault) → old.fault ≡ None → Stands view old new result → new.geometry ≡ old.geometry → TellsByMemory (ram old) (ram new) result
      → (view.honest old.nand ≡ true → Knows (ram old) (image_in view.flash old) → result ≢ Err Bus → StopsSafely view old new)
      → (view.honest old.nand ≡ true → Knows (ram old) (image_in view.flash old) → result ≡ Err Bus → CutsSafely view old new) → EngineLeaves view old result new
  leaves_by old new result none s same tells stops cut = record {
    safe = s.safe;
    fault = fault_noted result (ram old) (ram new) none s.fault;
    geometry = same;
    die = die_of view old new result s;
    rose = s.rose none;
    tells = tells;
    went = s.went;
    stops = stops;
    cut = cut;
  }

  -- nothing was asked
  pub leaves_same : (e : Engine N) → IsSafe view.flash e → e.fault ≡ None → EngineLeaves {A = Unit {0}} view e (Ok tt) e
  leaves_same e safe none = record {
    safe = safe;
    fault = none;
    geometry = refl;
    die = die_same view e.nand;
    rose = λ bus. (let no : ⊥ = cc in absurd no);
    tells = omega arith;
    went = λ is_honest ne. went_same (ram e) (view.flash e.nand) (view.recorded e.nand);
    stops = λ is_honest k ne. stops_same view e safe k.truth;
    cut = λ is_honest k bus. (let no : ⊥ = cc in absurd no);
  }

  -- nothing was asked, and too few blocks are free
  pub leaves_scarce : (e : Engine N) → IsSafe view.flash e → e.fault ≡ None → free_count (ram e).blocks < 5 → EngineLeaves {A = Unit {0}} view e (Err ReadOnly) (record e { fault = Some ReadOnly })
  leaves_scarce e safe none scarce = leaves_by e (record e { fault = Some ReadOnly }) (Err ReadOnly) none
      (acts_noted e e (Err ReadOnly) none (acts_end e e tt ReadOnly (λ bus. (let no : ⊥ = cc in no)) (acts_same e safe))) refl (scarce, omega arith)
      (λ is_honest k ne. stops_still view e e (record e { fault = Some ReadOnly }) refl refl (stops_same view e safe k.truth))
      (λ is_honest k bus. (let no : ⊥ = cc in absurd no))

  -- one after another, the first done
  pub leaves_then : {A B : Type 0} (old mid new : Engine N) (done : A) (result : Result B EngineFault) → KeepsOn view old mid
      → HasLimitsOf old.mapping mid.mapping → EngineLeaves view old (Ok done) mid
      → EngineLeaves view mid result new → EngineLeaves view old result new
  leaves_then old mid new done result keeps limits first next = record {
    safe = next.safe;
    fault = next.fault;
    geometry = next.geometry ∙ first.geometry;
    die = die_then view old.nand mid.nand new.nand first.die next.die;
    rose = λ bus. risen_over (view.failed old.nand) (view.failed mid.nand) (view.failed new.nand) first.die.failed_is (next.rose bus);
    tells = tells_then (ram old) (ram mid) (ram new) result first.tells next.tells;
    went = λ is_honest ne. went_then (ram old) (ram mid) (ram new) _ _ _ _ _ _ first.geometry (first.went is_honest (λ bus. (let no : ⊥ = cc in no))) (next.went (first.die.honest_is ∙ is_honest) ne);
    stops = λ is_honest k ne.
        let kept = keeps is_honest k in
        stops_on view old mid new first.geometry limits kept.array (first.stops is_honest k (λ bus. (let no : ⊥ = cc in no))) (next.stops (first.die.honest_is ∙ is_honest) kept.truth ne);
    cut = λ is_honest k bus.
        let kept = keeps is_honest k in
        cuts_on view old mid new first.geometry limits kept.array (first.stops is_honest k (λ none. (let no : ⊥ = cc in no))) (next.cut (first.die.honest_is ∙ is_honest) kept.truth bus);
  }

  -- a refusal, whatever the call would have given
  pub leaves_refused : (A B : Type 0) (old new : Engine N) (fault : EngineFault) → EngineLeaves {A = A} view old (Err fault) new → EngineLeaves {A = B} view old (Err fault) new
  leaves_refused A B old new fault l = record {
    safe = l.safe;
    fault = l.fault;
    geometry = l.geometry;
    die = l.die;
    rose = λ bus. l.rose (let same : fault ≡ Bus = cc in ap Err same);
    tells = refused_tells A B fault (ram old) (ram new) l.tells;
    went = λ is_honest ne. l.went is_honest (λ bus. ne (let same : fault ≡ Bus = cc in ap Err same));
    stops = λ is_honest k ne. l.stops is_honest k (λ bus. ne (let same : fault ≡ Bus = cc in ap Err same));
    cut = λ is_honest k bus. l.cut is_honest k (let same : fault ≡ Bus = cc in ap Err same);
  }

  -- and as the end of the part of a device's call that asks the die
  pub leaves_ends : (old new : Engine N) (result : Result (Unit {0}) EngineFault) → EngineLeaves view old result new
      → HasLimitsOf old.mapping new.mapping → (new.fault ≡ None → IsCalm (ram new))
      → EndsCall view old (call_of result) new
  leaves_ends old new result l limits calm_now = record {
    safe = l.safe;
    fault = call_fault result (ram new) l.fault;
    geometry = l.geometry;
    die = l.die;
    rose = λ bus. l.rose (call_bus result bus);
    limits = limits;
    calm_memory = calm_now;
    tells = call_tells result (ram old) (ram new) l.tells;
    went = λ is_honest ne. l.went is_honest (λ bus. ne (ap call_of bus));
    stops = λ is_honest k ne. l.stops is_honest k (λ bus. ne (ap call_of bus));
  }

  -- where it was refused the fault stands, and nothing more is said of what waits in memory
  pub leaves_stuck : {A : Type 0} (old new : Engine N) (fault : EngineFault) → EngineLeaves {A = A} view old (Err fault) new → HasLimitsOf old.mapping new.mapping → EndsCall view old (Err (call.Engine fault)) new
  leaves_stuck old new fault l limits = leaves_ends old new (Err fault) (leaves_refused _ _ old new fault l) limits (λ none. (let stands : new.fault ≡ Some fault = l.fault in let no : ⊥ = cc in absurd no))

  -- and where the die gave the fault
  pub leaves_cut : {A : Type 0} (old new : Engine N) (fault : EngineFault) → EngineLeaves {A = A} view old (Err fault) new → view.honest old.nand ≡ true → Knows (ram old) (image_in view.flash old) → ended fault ≡ ended Bus → CutsSafely view old new
  leaves_cut old new fault l is_honest k bus = l.cut is_honest k (let same : fault ≡ Bus = cc in ap Err same)

  -- and both, where what the refusal says of the image is so
  pub kept_stuck : (old new : Engine N) (fault : EngineFault) → EngineLeaves {A = Unit {0}} view old (Err fault) new → HasLimitsOf old.mapping new.mapping
      → (view.honest old.nand ≡ true → Knows (ram old) (image_in view.flash old) → CallRefused old.geometry (image_in view.flash old) (ram new) (image_in view.flash new) (call.Engine fault))
      → EndsKept view old (Err (call.Engine fault)) new
  kept_stuck old new fault leaves limits truth = record { ends = leaves_stuck old new fault leaves limits; cut = leaves_cut old new fault leaves; truth = truth }

  -- what was done gives what it likes
  pub leaves_done : {A B : Type 0} (old new : Engine N) (a : A) (b : B) → EngineLeaves view old (Ok a) new → EngineLeaves view old (Ok b) new
  leaves_done old new a b l = record {
    safe = l.safe;
    fault = l.fault;
    geometry = l.geometry;
    die = l.die;
    rose = λ bus. (let no : ⊥ = cc in absurd no);
    tells = l.tells;
    went = λ is_honest ne. l.went is_honest (λ bus. (let no : ⊥ = cc in no));
    stops = λ is_honest k ne. l.stops is_honest k (λ bus. (let no : ⊥ = cc in no));
    cut = λ is_honest k bus. (let no : ⊥ = cc in absurd no);
  }

-- ---- what stays of the memory

pub limits_same : (a b : MappingState) → b ≡ a → HasLimitsOf a b
limits_same a b is = record { geometry = ap (λ (m : MappingState). m.geometry) is; capacity = ap (λ (m : MappingState). m.capacity) is; share = ap (λ (m : MappingState). m.share) is }

-- ---- what the engine's answers cost, as what the memory tells

pub page_told : (stream : Stream) (result : Result (Unit {0}) EngineFault) (a b : Ram) → PageCosts stream a b result → TellsByMemory a b result
page_told stream (Ok done) a b h = omega (arith, h.put.good)
page_told stream (Err ReadOnly) a b h = (omega (arith, h.none.none_free), omega (arith, h.found.good))
page_told stream (Err SequenceSpent) a b h = h.last
page_told stream (Err Damaged) a b h = tt
page_told stream (Err Bus) a b h = tt

pub back_told : (result : Result (Unit {0}) EngineFault) (a b : Ram) → WriteBackCosts a b result → TellsByMemory a b result
back_told (Ok done) a b h = omega (arith, h.put.good)
back_told (Err ReadOnly) a b h = (omega (arith, h.none.none_free), omega (arith, h.found.good))
back_told (Err SequenceSpent) a b h = h.last
back_told (Err Damaged) a b h = tt
back_told (Err Bus) a b h = tt
