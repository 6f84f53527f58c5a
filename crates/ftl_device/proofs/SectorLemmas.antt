-- A sector is changed: it is made ready, and a page of it comes after.
use Rattle.std.proofs.Common.{◌≡◌, ◌≢◌, ◌∙◌, ℕ, true, List, None, Result, Ok, Err, OnOk, MatchResult, ap, subst}
use Rattle.std.specs.Map.{keys_of}
use Rattle.page_layout.specs.View.{View}
use Rattle.page_layout.specs.declared.record.Kind.{Kind}
use Rattle.page_layout.specs.declared.record.Key.TheVariants.{Sector}
use Rattle.page_layout.specs.Key.{key_from}
use Rattle.page_layout.specs.Page.{Image}
use Rattle.page_layout.specs.Array.{content_of_kind, zeros}
use Rattle.page_layout.specs.declared.geometry.Geometry.{Geometry}
use Rattle.budget.specs.declared.stream.Stream.TheVariants.{Data}
use Rattle.promises.specs.Step.{Command}
use Rattle.collection.specs.declared.engine.Engine.{Engine}
use Rattle.collection.specs.declared.fault.EngineFault.{EngineFault}
use Rattle.collection.specs.declared.fault.EngineFault.TheVariants.{Bus}
use Rattle.collection.specs.Safe.{ram, image_in, page_in_buffer}
use Rattle.collection.specs.Truth.{IsTrue}
use Rattle.collection.specs.Left.{LeavesPin}
use Rattle.collection.specs.Acts.{Stands}
use Rattle.collection.specs.Cost.{PageCosts}
use Rattle.collection.specs.Settle.{HasNoMore, HasSettled}
use Rattle.collection.specs.Results.{Goes, IsLastPage, IsWritten, Refused}
use Rattle.collection.specs.Stops.{Cuts, IsPutByStop, StopsSafely}
use Rattle.collection.proofs.Beside.{beside_same}
use Rattle.ftl_device.specs.declared.fault.CallFault.{CallFault}
use Rattle.ftl_device.specs.Calls.{KeepsArray, ChangesOneSector, CallRefused, HasMadeRoomAndPlace, HasCost, HasPage, HasPageOf, IsLastOf}
use Rattle.ftl_device.specs.Read.{IsLookedUp}
use Rattle.ftl_device.specs.Changes.{EndsKept, EndsChange, Readies, HasLookedUp}
use Rattle.ftl_device.proofs.DieLemmas.{die_of}
use Rattle.ftl_device.proofs.CostLemmas.{cost_of}
use Rattle.ftl_device.proofs.ReadyLemmas.{written_ready}
use Rattle.ftl_device.proofs.FlushLoops.{engine_refused}
use Rattle.ftl_device.proofs.FlushStepLemmas.{page_held}
use Rattle.ftl_device.proofs.StoppedLemmas.{puts_none, puts_on}
use Rattle.ftl_device.proofs.EndLemmas.{call_of, ends_page, readies_kept, readies_page, looked_up_before}
use Rattle.ftl_device.proofs.LeaveLemmas.{call_bus}

-- what is so where the engine's call was done
on_call : {P Q : Type 0} (answer : Result (Unit {0}) EngineFault) → (P → Q) → OnOk answer P → OnOk (call_of answer) Q
on_call (Ok done) f p = f p
on_call (Err fault) f p = tt

module _ {N : Type 0} (view : View N) (kind : Kind) (n : ℕ) (body : List ℕ) (command : Command) (old : Engine N) where
  -- it was not made ready
  pub change_unready : (new : Engine N) (fault : CallFault) → EndsKept view old (Err fault) new → Readies view n 1 old (Err fault) new → EndsChange view kind n body command old (Err fault) new
  change_unready new fault kept readies = record {
    ends = kept.ends;
    cut = λ is_honest k bus. puts_none view kind n body old new (kept.cut is_honest k bus);
    readies = readies_kept view n old new fault readies;
    cost = tt;
    checked = tt;
    page = tt;
    newest = λ is_honest k. tt;
    truth = kept.truth;
  }

  -- it was, and then a page of it was programmed, or refused
  module _ (mid new : Engine N) (made : Unit {0}) (kept : EndsKept view old (Ok made) mid) (readies : Readies view n 1 old (Ok made) mid) (ready : HasMadeRoomAndPlace n (ram old) (ram mid)) (looked : IsLookedUp n (ram old) (ram mid) (page_in_buffer mid.scratch))
      (goes : Goes (ram mid) (ram new)) (pin : (ram new).pin ≡ (ram mid).pin) (keys : keys_of new.mapping.cached ≡ keys_of mid.mapping.cached) (no_more : HasNoMore mid.mapping new.mapping) (moved : new.mapping.moved ≡ mid.mapping.moved)
      (scratch : new.scratch ≡ mid.scratch) (of_kind : key_from kind n ≡ Sector n) (gives : content_of_kind old.geometry kind body ≡ body) where
    beside : LeavesPin (ram mid) (ram new)
    beside = beside_same (ram mid) (ram new) pin goes moved no_more.limits

    costs : (answer : Result (Unit {0}) EngineFault) → PageCosts Data (ram mid) (ram new) answer → OnOk (call_of answer) (HasCost n (ram old) (ram new))
    costs (Ok done) cost = cost_of n (ram old) (ram mid) (ram new) ready cost
    costs (Err fault) cost = tt

    checks : (answer : Result (Unit {0}) EngineFault) → PageCosts Data (ram mid) (ram new) answer → OnOk answer (HasSettled n (ram mid) (ram new)) → OnOk (call_of answer) (HasLookedUp n (ram old) (ram new) (page_in_buffer new.scratch))
    checks (Ok done) cost settled = looked_up_before old mid new n ready looked scratch cost settled
    checks (Err fault) cost settled = tt

    holds : (answer : Result (Unit {0}) EngineFault) → Stands view mid new answer → KeepsArray old.geometry (image_in view.flash old) (ram mid) (image_in view.flash mid)
        → MatchResult answer (λ done. IsWritten kind n body (ram mid) (image_in view.flash mid) (ram new) (image_in view.flash new)) (Refused (ram mid) (image_in view.flash mid) (ram new) (image_in view.flash new))
        → MatchResult (call_of answer) (λ done. ChangesOneSector old.geometry n body (image_in view.flash old) (ram new) (image_in view.flash new)) (CallRefused old.geometry (image_in view.flash old) (ram new) (image_in view.flash new))
    holds (Ok done) stands before written = subst (λ bytes. ChangesOneSector old.geometry n bytes (image_in view.flash old) (ram new) (image_in view.flash new)) gives
        (written_ready old.geometry n kind body (ram mid) (ram new) (image_in view.flash old) (image_in view.flash mid) (image_in view.flash new) kept.ends.geometry kept.ends.safe.memory stands.safe.memory beside before written)
    holds (Err fault) stands before refused = engine_refused old.geometry (ram mid) (ram new) (image_in view.flash old) (image_in view.flash mid) (image_in view.flash new) fault kept.ends.geometry kept.ends.safe.memory stands.safe.memory beside before refused

    pages : (answer : Result (Unit {0}) EngineFault) → ((image : Image) → HasPage kind n body (ram new) image → HasPageOf old.geometry command (ram new) image)
        → MatchResult answer (λ done. IsWritten kind n body (ram mid) (image_in view.flash mid) (ram new) (image_in view.flash new)) (Refused (ram mid) (image_in view.flash mid) (ram new) (image_in view.flash new))
        → OnOk (call_of answer) (HasPageOf old.geometry command (ram new) (image_in view.flash new))
    pages (Ok done) of_command written = of_command (image_in view.flash new) (page_held kind n body (ram mid) (image_in view.flash mid) (ram new) (image_in view.flash new) of_kind written)
    pages (Err fault) of_command refused = tt

    pub change_page : (answer : Result (Unit {0}) EngineFault) → Stands view mid new answer → OnOk answer (HasSettled n (ram mid) (ram new)) → OnOk answer (IsLastPage kind n (ram new) (page_in_buffer new.page))
        → (mid.fault ≡ None → new.page.body.items ≡ body) → (mid.fault ≡ None → PageCosts Data (ram mid) (ram new) answer)
        → (view.honest mid.nand ≡ true → mid.fault ≡ None → IsTrue None (ram mid) (image_in view.flash mid)
        → MatchResult answer (λ done. IsWritten kind n body (ram mid) (image_in view.flash mid) (ram new) (image_in view.flash new)) (Refused (ram mid) (image_in view.flash mid) (ram new) (image_in view.flash new)))
        → (view.honest mid.nand ≡ true → mid.fault ≡ None → IsTrue None (ram mid) (image_in view.flash mid) → answer ≢ Err Bus → StopsSafely view mid new)
        → (view.honest mid.nand ≡ true → mid.fault ≡ None → IsTrue None (ram mid) (image_in view.flash mid) → answer ≡ Err Bus → Cuts view (IsPutByStop kind n body (ram mid) (image_in view.flash mid)) mid new)
        → (IsLastPage kind n (ram new) (page_in_buffer new.page) → new.page.body.items ≡ body → IsLastOf old.geometry command (ram new) (page_in_buffer new.page))
        → ((image : Image) → HasPage kind n body (ram new) image → HasPageOf old.geometry command (ram new) image)
        → EndsChange view kind n body command old (call_of answer) new
    change_page answer stands settled programmed written cost truth stops cut last of_command = record {
      ends = ends_page view old mid new made kept.ends stands.safe goes (die_of view mid new answer stands) beside no_more answer stands.fault stands.rose cost stands.went kept.truth stops;
      cut = λ is_honest k bus.
          let before : KeepsArray old.geometry (image_in view.flash old) (ram mid) (image_in view.flash mid) = kept.truth is_honest k in
          puts_on view old mid new kept.ends.geometry kept.ends.limits before.array (kept.ends.stops is_honest k (λ e. (let no : ⊥ = cc in no))) kind n body
          (cut (kept.ends.die.honest_is ∙ is_honest) kept.ends.fault before.truth.truth (call_bus answer bus));
      readies = readies_page view n old mid new kept.ends.geometry made readies (ap (λ p. p.block) pin) keys answer (cost kept.ends.fault);
      cost = costs answer (cost kept.ends.fault);
      checked = checks answer (cost kept.ends.fault) settled;
      page = on_call answer (λ its. last its (written kept.ends.fault)) programmed;
      newest = λ is_honest k.
          let before : KeepsArray old.geometry (image_in view.flash old) (ram mid) (image_in view.flash mid) = kept.truth is_honest k in
          pages answer of_command (truth (kept.ends.die.honest_is ∙ is_honest) kept.ends.fault before.truth.truth);
      truth = λ is_honest k.
          let before : KeepsArray old.geometry (image_in view.flash old) (ram mid) (image_in view.flash mid) = kept.truth is_honest k in
          holds answer stands before (truth (kept.ends.die.honest_is ∙ is_honest) kept.ends.fault before.truth.truth);
    }

-- 00h bytes, as many as a geometry says that is the same
pub change_sized : {N : Type 0} (view : View N) (kind : Kind) (n : ℕ) (command : Command) (old new : Engine N) (result : Result (Unit {0}) CallFault) (g h : Geometry) → h ≡ g
    → EndsChange view kind n (zeros h) command old result new → EndsChange view kind n (zeros g) command old result new
change_sized view kind n command old new result g h same k = subst (λ x. EndsChange view kind n (zeros x) command old result new) same k
