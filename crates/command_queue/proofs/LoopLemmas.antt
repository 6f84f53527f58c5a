-- A list of calls is told one after another.
use Rattle.std.proofs.Common.{◌≡◌, ℕ, zero, suc, ◌+◌, ◌<◌, ◌≤◌, List, [], ◌∷◌, ◌++◌, length, map, take, set, slice_get, Some, None, IsSome}
use Rattle.std.proofs.Common.{Result, Ok, unwrap_or, refl, sym, ap, subst, ◌∙◌, arith}
use Rattle.std.specs.List.{AllByRecursion}
use Rattle.std.proofs.lemmas.List.{take_more_set, take_all, map-append}
use Rattle.page_layout.specs.View.{View}
use Rattle.page_layout.specs.declared.geometry.Geometry.{Geometry}
use Rattle.ftl_device.specs.declared.device.Device.{Device}
use Rattle.ftl_device.specs.declared.fault.DeviceFault.{DeviceFault}
use Rattle.command_queue.specs.declared.command.Call.{Call}
use Rattle.ftl_device.specs.Device.{IsDevice}
use Rattle.command_queue.specs.Commands.{promised_command, told_command, HasDataArea, IsCallWhole, AreWhole, AreAnswered, KeepsBytes, HasKept}
use Rattle.command_queue.specs.Exchanges.{Exchange, exchange_of, exchanges_of}
use Rattle.command_queue.specs.Commands.{HaveKept}
use Rattle.command_queue.specs.Tells.{Tells}
use Rattle.command_queue.specs.Told.{WasTold}
use Rattle.command_queue.proofs.ToldLemmas.{all_more, told_none, told_more}

-- ---- lists

module _ {X : Type 0} (P : X → Type 0) where
  all_set : (xs : List X) (i : ℕ) (x : X) → P x → AllByRecursion P xs → AllByRecursion P (set xs i x)
  all_set [] i x new all = tt
  all_set (y ∷ ys) zero x new all = (new, all.1)
  all_set (y ∷ ys) (suc i) x new all = (all.0, all_set ys i x new all.1)

map_set : {X Y : Type 0} (f : X → Y) (xs : List X) (i : ℕ) (old new : X) → slice_get xs i ≡ Some old → f new ≡ f old → map f (set xs i new) ≡ map f xs
map_set f [] i old new at same = refl
map_set f (y ∷ ys) zero old new at same = (let here : y ≡ old = cc in ap (λ z. z ∷ map f ys) (same ∙ ap f (sym here)))
map_set f (y ∷ ys) (suc i) old new at same = ap (λ zs. f y ∷ zs) (map_set f ys i old new at same)

-- so many of the calls were told, and the others are as they were
pub HaveKeptSo : ℕ → List Call → List Call → Type 0
HaveKeptSo zero before calls = calls ≡ before
HaveKeptSo (suc done) [] [] = Unit {0}
HaveKeptSo (suc done) [] (n ∷ ns) = ⊥
HaveKeptSo (suc done) (o ∷ os) [] = ⊥
HaveKeptSo (suc done) (o ∷ os) (n ∷ ns) = HasKept o n × HaveKeptSo done os ns

kept_more : (done : ℕ) (before calls : List Call) (call after : Call) → slice_get calls done ≡ Some call → HasKept call after → HaveKeptSo done before calls → HaveKeptSo (suc done) before (set calls done after)
unfolding HaveKeptSo
kept_more done before [] call after at has kept = absurd (let no : None ≡ Some call = at in cc)
kept_more zero before (n ∷ ns) call after at has kept =
    let here : n ≡ call = cc in
    subst (λ (os : List Call). HaveKeptSo 1 os (after ∷ ns)) kept (subst (λ c. HasKept c after) (sym here) has, refl)
kept_more (suc done) [] (n ∷ ns) call after at has kept = kept
kept_more (suc done) (o ∷ os) (n ∷ ns) call after at has kept = (kept.0, kept_more done os ns call after at has kept.1)

kept_all : (done : ℕ) (before calls : List Call) → length calls ≤ done → HaveKeptSo done before calls → HaveKept before calls
unfolding HaveKeptSo
kept_all zero before [] all kept = subst (λ (os : List Call). HaveKept os []) kept tt
kept_all zero before (n ∷ ns) all kept = absurd (omega (arith, all))
kept_all (suc done) [] [] all kept = tt
kept_all (suc done) [] (n ∷ ns) all kept = kept
kept_all (suc done) (o ∷ os) [] all kept = kept
kept_all (suc done) (o ∷ os) (n ∷ ns) all kept = (kept.0, kept_all done os ns (omega (arith, all)) kept.1)

-- ---- the loop

-- so many calls were told
pub record IsRunning {N : Type 0} (view : View N) (old now : Device N) (before calls : List Call) (done : ℕ) : Type 0 where
  pub was_told : WasTold view old (exchanges_of (take done calls)) now
  pub whole : AreWhole old.engine.geometry calls
  pub told_is : map told_command calls ≡ map told_command before
  pub answered : AreAnswered (take done calls)
  pub kept : HaveKeptSo done before calls

pub running_none : {N : Type 0} (view : View N) (old : Device N)
    (calls : List Call) → IsDevice view.flash old → AreWhole old.engine.geometry calls
    → IsRunning view old old calls calls 0
unfolding HaveKeptSo
running_none view old calls device whole = record {
  was_told = told_none view old device;
  whole = whole;
  told_is = refl;
  answered = tt;
  kept = refl;
}

module _ {N : Type 0} (view : View N) (old now new : Device N) (before calls : List Call) (done : ℕ) (call after : Call) (result : Result (Unit {0}) DeviceFault)
    (safe : IsDevice view.flash old) (running : IsRunning view old now before calls done) (at : slice_get calls done ≡ Some call) (below : done < length calls)
    (command_is : after.command ≡ call.command) (replied : after.reply ≡ Some result)
    (bytes : List ℕ) (bytes_are : after.bytes.items ≡ bytes) (room : HasDataArea now.engine.geometry after.command bytes)
    (tells : Tells view now (record { command = told_command after; result = result; bytes = bytes }) new)
    (kept : KeepsBytes (told_command after) result call.bytes.items bytes) where
  its_take : take (done + 1) (set calls done after) ≡ take done calls ++ after ∷ []
  its_take = take_more_set calls done after below

  its_exchange : exchange_of after ≡ record { command = told_command after; result = result; bytes = bytes }
  its_exchange =
      let make : Result (Unit {0}) DeviceFault → List ℕ → Exchange = λ r bs. record { command = told_command after; result = r; bytes = bs } in
      ap (λ o. make (unwrap_or o (Ok tt)) after.bytes.items) replied ∙ ap (make result) bytes_are

  told_on : WasTold view old (exchanges_of (take done calls ++ after ∷ [])) new
  told_on =
      subst (λ xs. WasTold view old xs new) (sym (map-append exchange_of (take done calls) (after ∷ [])))
      (told_more view old now new (exchanges_of (take done calls)) (exchange_of after) safe running.was_told (subst (λ x. Tells view now x new) (sym its_exchange) tells))

  its_bytes : HasKept call after
  its_bytes r is =
      let same : r ≡ result = (let both : Some r ≡ Some result = sym is ∙ replied in cc) in
      subst (λ bs. KeepsBytes (told_command after) r call.bytes.items bs) (sym bytes_are) (subst (λ x. KeepsBytes (told_command after) x call.bytes.items bytes) (sym same) kept)

  pub running_more : IsRunning view old new before (set calls done after) (done + 1)
  running_more = record {
    was_told = subst (λ (cs : List Call). WasTold view old (exchanges_of cs) new) (sym its_take) told_on;
    whole = all_set (IsCallWhole old.engine.geometry) calls done after (subst (λ bs. HasDataArea old.engine.geometry after.command bs) (sym bytes_are) (subst (λ (g : Geometry). HasDataArea g after.command bytes) running.was_told.calls.sized room)) running.whole;
    told_is = map_set told_command calls done call after at (ap promised_command command_is) ∙ running.told_is;
    answered = subst AreAnswered (sym its_take) (all_more (λ (c : Call). IsSome c.reply) (take done calls) after running.answered (subst IsSome (sym replied) refl));
    kept = subst (λ n. HaveKeptSo n before (set calls done after)) (let on : suc done ≡ done + 1 = omega arith in on) (kept_more done before calls call after at its_bytes running.kept);
  }

module _ {N : Type 0} (view : View N) (old now : Device N)
    (before calls : List Call) (done : ℕ) (all : length calls ≤ done)
    (running : IsRunning view old now before calls done) where
  pub all_told : WasTold view old (exchanges_of calls) now
  all_told = subst (λ (cs : List Call). WasTold view old (exchanges_of cs) now) (take_all done calls all) running.was_told

  pub all_answered : AreAnswered calls
  all_answered = subst AreAnswered (take_all done calls all) running.answered

  pub all_kept : HaveKept before calls
  all_kept = kept_all done before calls all running.kept
