-- Calls of the engine that make a sector ready and program a page of it.
use Rattle.std.proofs.Common.{◌≡◌, ◌≢◌, ℕ, ◌≤◌, ◌∙◌, true, None, Option, Some, Result, Ok, Err, sym, ap, subst, arith}
use Rattle.std.specs.Map.{keys_of}
use Rattle.page_layout.specs.View.{View}
use Rattle.page_layout.specs.Counter.{HasRisen}
use Rattle.bad_blocks.specs.Table.{good_count}
use Rattle.budget.specs.declared.stream.Stream.TheVariants.{Data}
use Rattle.mapping_cache.specs.Mapping.{HasLimitsOf, loaded}
use Rattle.collection.specs.declared.engine.Engine.{Engine}
use Rattle.collection.specs.declared.fault.EngineFault.{EngineFault}
use Rattle.collection.specs.declared.fault.EngineFault.TheVariants.{ReadOnly, SequenceSpent, Damaged, Bus}
use Rattle.collection.specs.State.{Ram}
use Rattle.collection.specs.Safe.{IsSafe, ram, image_in, page_in_buffer}
use Rattle.collection.specs.Left.{IsCalm, LeavesPin}
use Rattle.collection.specs.Settle.{HasNoMore}
use Rattle.collection.specs.Cost.{HasPut, PageCosts}
use Rattle.collection.specs.Log.{Went}
use Rattle.collection.specs.Truth.{IsTrue}
use Rattle.collection.specs.Stops.{StopsSafely}
use Rattle.collection.specs.Results.{Goes, fault_after}
use Rattle.collection.proofs.Costs.{risen_over}
use Rattle.collection.proofs.Logs.{went_then}
use Rattle.ftl_device.specs.declared.fault.CallFault.{CallFault}
use Rattle.ftl_device.specs.declared.fault.CallFault.TheVariants as call
use Rattle.ftl_device.specs.Calls.{TellsByMemory, CallTells, HasMadeRoomAndPlace, standing_after, Knows}
use Rattle.collection.specs.Settle.{HasSettled}
use Rattle.ftl_device.specs.Read.{IsLookedUp}
use Rattle.ftl_device.specs.Shortage.{HasFunds}
use Rattle.ftl_device.specs.Changes.{StaysDie, EndsCall, Readies, HasLookedUp}
use Rattle.ftl_device.proofs.DieLemmas.{die_then}
use Rattle.ftl_device.proofs.ReadyLemmas.{recent_kept}
use Rattle.collection.proofs.Lefts.{calm_law}
use Rattle.ftl_device.proofs.PrepareLemmas.{beside_now, limits_loaded, went_loaded}
use Rattle.ftl_device.proofs.CostLemmas.{page_tells}
use Rattle.ftl_device.proofs.FlushLoops.{limits_then}
use Rattle.ftl_device.proofs.StoppedLemmas.{KeepsOn, stops_still, stops_on}
use Rattle.ftl_device.proofs.SpentLemmas.{room_page, page_refused, call_kept}

-- the fault of a call as that of one that may want memory too
pub call_tells : (fault : EngineFault) (a b : Ram) → TellsByMemory {A = Option ℕ} a b (Err fault) → CallTells {A = Unit {0}} a b (Err (call.Engine fault))
call_tells ReadOnly a b h = h
call_tells SequenceSpent a b h = h
call_tells Damaged a b h = tt
call_tells Bus a b h = tt

-- an answer of the engine as one of such a call
abbrev pub call_of : Result (Unit {0}) EngineFault → Result (Unit {0}) CallFault
call_of (Ok done) = Ok tt
call_of (Err fault) = Err (call.Engine fault)

abbrev ended : CallFault → Result (Unit {0}) CallFault
ended fault = Err fault

module _ {N : Type 0} (view : View N) where
  -- ---- nothing was made ready

  pub ends_refused : (old new : Engine N) (fault : EngineFault) → IsSafe view.flash new → new.fault ≡ Some fault → new.geometry ≡ old.geometry → StaysDie view old.nand new.nand
      → (fault ≡ Bus → HasRisen (view.failed old.nand) (view.failed new.nand)) → HasLimitsOf old.mapping new.mapping → TellsByMemory {A = Option ℕ} (ram old) (ram new) (Err fault)
      → (view.honest old.nand ≡ true → fault ≢ Bus → Went (ram old) (view.flash old.nand) (view.recorded old.nand) (ram new) (view.flash new.nand) (view.recorded new.nand))
      → (view.honest old.nand ≡ true → Knows (ram old) (image_in view.flash old) → fault ≢ Bus → StopsSafely view old new) → EndsCall view old (Err (call.Engine fault)) new
  ends_refused old new fault safe stands geometry die rose limits tells went stops = record {
    safe = safe;
    fault = stands;
    geometry = geometry;
    die = die;
    rose = λ e. rose (let is : ended (call.Engine fault) ≡ ended (call.Engine Bus) = e in cc);
    limits = limits;
    calm_memory = λ none. (let no : Some fault ≡ None = sym stands ∙ none in let never : ⊥ = cc in absurd never);
    tells = call_tells fault (ram old) (ram new) tells;
    went = λ is_honest ne. went is_honest (λ same. ne (ap (λ f. ended (call.Engine f)) same));
    stops = λ is_honest k ne. stops is_honest k (λ same. ne (ap (λ f. ended (call.Engine f)) same));
  }

  -- ---- a sector was made ready, and then cached or not

  module _ (old mid : Engine N) (safe : IsSafe view.flash mid) (going : mid.fault ≡ None) (geometry : mid.geometry ≡ old.geometry) (die : StaysDie view old.nand mid.nand) (limits : HasLimitsOf old.mapping mid.mapping) (calm_mid : IsCalm (ram mid)) (fewer : good_count (ram mid).blocks.table ≤ good_count (ram old).blocks.table)
      (went : view.honest old.nand ≡ true → Went (ram old) (view.flash old.nand) (view.recorded old.nand) (ram mid) (view.flash mid.nand) (view.recorded mid.nand))
      (stops : view.honest old.nand ≡ true → Knows (ram old) (image_in view.flash old) → StopsSafely view old mid) where
    pub ends_memory : (new : Engine N) → new ≡ mid → EndsCall view old (Err call.OutOfMemory) new
    ends_memory new same = subst (λ e. EndsCall view old (Err call.OutOfMemory) e) (sym same) (record {
      safe = safe;
      fault = going;
      geometry = geometry;
      die = die;
      rose = λ e. (let is : ended call.OutOfMemory ≡ ended (call.Engine Bus) = e in let no : ⊥ = cc in absurd no);
      limits = limits;
      calm_memory = λ none. calm_mid;
      tells = tt;
      went = λ is_honest ne. went is_honest;
      stops = λ is_honest k ne. stops is_honest k;
    })

    pub ends_loaded : (new : Engine N) (n : ℕ) (row : Option ℕ) → new ≡ record mid { mapping = loaded mid.mapping n row } → IsSafe view.flash new → EndsCall view old (Ok tt) new
    ends_loaded new n row is safe' = record {
      safe = safe';
      fault = ap (λ (e : Engine N). e.fault) is ∙ going;
      geometry = ap (λ (e : Engine N). e.geometry) is ∙ geometry;
      die = subst (λ (e : Engine N). StaysDie view old.nand e.nand) (sym is) die;
      rose = λ e. (let no : ⊥ = cc in absurd no);
      limits = limits_loaded mid new n row is old.mapping limits;
      calm_memory = λ none. calm_law (ram mid) (ram new) (beside_now mid new n row is) calm_mid;
      tells = subst (λ (e : Engine N). good_count (ram e).blocks.table ≤ good_count (ram old).blocks.table) (sym is) fewer;
      went = λ is_honest ne. went_loaded mid new n row is view (ram old) (view.flash old.nand) (view.recorded old.nand) (went is_honest);
      stops = λ is_honest k ne. stops_still view old mid new (ap (λ (e : Engine N). view.flash e.nand) is) (ap (λ (e : Engine N). view.recorded e.nand) is) (stops is_honest k);
    }

  -- ---- a page of it comes after

  module _ (old mid new : Engine N) (made : Unit {0}) (before : EndsCall view old (Ok made) mid) (safe : IsSafe view.flash new) (goes : Goes (ram mid) (ram new)) (die : StaysDie view mid.nand new.nand) (beside : LeavesPin (ram mid) (ram new)) (no_more : HasNoMore mid.mapping new.mapping) where
    ended_fault : (answer : Result (Unit {0}) EngineFault) → new.fault ≡ fault_after mid.fault answer → new.fault ≡ standing_after (call_of answer)
    ended_fault (Ok done) is = is ∙ before.fault
    ended_fault (Err fault) is = is

    ended_rose : (answer : Result (Unit {0}) EngineFault) → (answer ≡ Err Bus → HasRisen (view.failed mid.nand) (view.failed new.nand)) → call_of answer ≡ Err (call.Engine Bus) → HasRisen (view.failed mid.nand) (view.failed new.nand)
    ended_rose (Ok done) rose e = (let no : ⊥ = cc in absurd no)
    ended_rose (Err fault) rose e = (let same : fault ≡ Bus = cc in rose (ap Err same))

    ended_tells : (answer : Result (Unit {0}) EngineFault) → PageCosts Data (ram mid) (ram new) answer → CallTells (ram old) (ram new) (call_of answer)
    ended_tells (Ok done) p = omega (arith, p.put.good, before.tells)
    ended_tells (Err fault) p = page_tells fault (ram old) (ram mid) (ram new) before.tells p

    ended_went : (answer : Result (Unit {0}) EngineFault) → (answer ≢ Err Bus → Went (ram mid) (view.flash mid.nand) (view.recorded mid.nand) (ram new) (view.flash new.nand) (view.recorded new.nand)) → view.honest old.nand ≡ true → call_of answer ≢ Err (call.Engine Bus)
        → Went (ram old) (view.flash old.nand) (view.recorded old.nand) (ram new) (view.flash new.nand) (view.recorded new.nand)
    ended_went answer went is_honest ne = went_then (ram old) (ram mid) (ram new) _ _ _ _ _ _ before.geometry (before.went is_honest (λ e. (let no : ⊥ = cc in no))) (went (λ bus. ne (ap call_of bus)))

    pub ends_page : (answer : Result (Unit {0}) EngineFault) → new.fault ≡ fault_after mid.fault answer → (mid.fault ≡ None → answer ≡ Err Bus → HasRisen (view.failed mid.nand) (view.failed new.nand)) → (mid.fault ≡ None → PageCosts Data (ram mid) (ram new) answer)
        → (view.honest mid.nand ≡ true → answer ≢ Err Bus → Went (ram mid) (view.flash mid.nand) (view.recorded mid.nand) (ram new) (view.flash new.nand) (view.recorded new.nand)) → KeepsOn view old mid
        → (view.honest mid.nand ≡ true → mid.fault ≡ None → IsTrue None (ram mid) (image_in view.flash mid) → answer ≢ Err Bus → StopsSafely view mid new) → EndsCall view old (call_of answer) new
    ends_page answer fault rose cost went keeps stops = record {
      safe = safe;
      fault = ended_fault answer fault;
      geometry = goes.geometry ∙ before.geometry;
      die = die_then view old.nand mid.nand new.nand before.die die;
      rose = λ e. risen_over (view.failed old.nand) (view.failed mid.nand) (view.failed new.nand) before.die.failed_is (ended_rose answer (rose before.fault) e);
      limits = limits_then old.mapping mid.mapping new.mapping before.limits no_more.limits;
      calm_memory = λ none. calm_law (ram mid) (ram new) beside (before.calm_memory before.fault);
      tells = ended_tells answer (cost before.fault);
      went = λ is_honest ne. ended_went answer (went (before.die.honest_is ∙ is_honest)) is_honest ne;
      stops = λ is_honest k ne.
          let kept = keeps is_honest k in
          stops_on view old mid new before.geometry before.limits kept.array (before.stops is_honest k (λ e. (let no : ⊥ = cc in no))) (stops (before.die.honest_is ∙ is_honest) before.fault kept.truth.truth (λ bus. ne (ap call_of bus)));
    }

module _ {N : Type 0} (view : View N) (n : ℕ) where
  -- what it may cost with a page of the sector
  pub readies_kept : (old new : Engine N) (fault : CallFault) → Readies view n 1 old (Err fault) new → Readies view n 2 old (Err fault) new
  readies_kept old new fault r = record {
    recent = tt;
    keys = tt;
    unwritten = r.unwritten;
    same_keys = r.same_keys;
    cached = r.cached;
    costs = call_kept (HasFunds (view.honest old.nand) (ram old) (image_in view.flash old)) fault (ram old) (ram new) r.costs;
    pins = r.pins;
  }

  module _ (old mid new : Engine N) (same : mid.geometry ≡ old.geometry) (made : Unit {0}) (before : Readies view n 1 old (Ok made) mid) (pin : new.pinned ≡ mid.pinned) (keys : keys_of new.mapping.cached ≡ keys_of mid.mapping.cached) where
    pub readies_page : (answer : Result (Unit {0}) EngineFault) → PageCosts Data (ram mid) (ram new) answer → Readies view n 2 old (call_of answer) new
    readies_page (Ok done) p = record {
      recent = recent_kept n mid.mapping new.mapping keys before.recent;
      keys = keys ∙ before.keys;
      unwritten = λ e. (let no : ⊥ = cc in absurd no);
      same_keys = λ e. (let no : ⊥ = cc in absurd no);
      cached = λ some e. (let no : ⊥ = cc in absurd no);
      costs = room_page (HasFunds (view.honest old.nand) (ram old) (image_in view.flash old)) (ram old) (ram mid) (ram new) same before.costs p;
      pins = λ none. pin ∙ before.pins none;
    }
    readies_page (Err fault) p = record {
      recent = tt;
      keys = tt;
      unwritten = λ e. (let no : ⊥ = cc in absurd no);
      same_keys = λ e. (let no : ⊥ = cc in absurd no);
      cached = λ some e. (let no : ⊥ = cc in absurd no);
      costs = page_refused (HasFunds (view.honest old.nand) (ram old) (image_in view.flash old)) fault (ram old) (ram mid) (ram new) same before.costs p;
      pins = tt;
    }

-- the page buffer that the look-up left is as it was
pub looked_up_before : {N : Type 0} (old mid new : Engine N) (n : ℕ) → HasMadeRoomAndPlace n (ram old) (ram mid)
    → IsLookedUp n (ram old) (ram mid) (page_in_buffer mid.scratch) → new.scratch ≡ mid.scratch → HasPut Data (ram mid) (ram new)
    → HasSettled n (ram mid) (ram new) → HasLookedUp n (ram old) (ram new) (page_in_buffer new.scratch)
looked_up_before old mid new n ready looked same page settled = record { mid = ram mid; ready = ready; looked_up = subst (λ b. IsLookedUp n (ram old) (ram mid) (page_in_buffer b)) (sym same) looked; put = page; settled = settled }
