-- Calls are told one after another.
use Rattle.std.proofs.Common.{◌≡◌, ◌≢◌, ◌⊎◌, inl, inr, ℕ, ◌-◌, ◌^◌, ◌<◌, ◌≤◌, true, List, [], ◌∷◌, ◌++◌, Option, Some, None, Result, Ok, Err}
use Rattle.std.proofs.Common.{refl, sym, ap, subst, ◌∙◌, arith, append_assoc}
use Rattle.std.specs.Prelude.{IfErr}
use Rattle.std.specs.Option.{ForSome}
use Rattle.std.specs.List.{AllByRecursion}
use Rattle.std.proofs.lemmas.List.{append-nil}
use Rattle.std.proofs.Math.Nat.{eq-or-lt_of_le}
use Rattle.page_layout.specs.View.{View}
use Rattle.page_layout.specs.Counter.{HasRisen}
use Rattle.mapping_cache.specs.Mapping.{MappingState, HasLimitsOf}
use Rattle.promises.specs.Step as step
use Rattle.collection.proofs.Costs.{risen_over}
use Rattle.ftl_device.specs.declared.device.Device.{Device}
use Rattle.ftl_device.specs.declared.fault.DeviceFault.{DeviceFault}
use Rattle.ftl_device.specs.declared.fault.DeviceFault.TheVariants.{OutOfRange, ReadOnly, SequenceSpent, OutOfMemory, Damaged, BusFault}
use Rattle.ftl_device.specs.Device.{IsDevice}
use Rattle.ftl_device.specs.Calls.{stop_of, IsWell}
use Rattle.command_queue.specs.Exchanges.{Exchange, IsKnown, AreKnown, StopsDevice, AreRefused, StaysStopped}
use Rattle.command_queue.specs.Run.{Ran}
use Rattle.command_queue.specs.Tells.{Tells, ToldEach}
use Rattle.command_queue.specs.Told.{AreTold, WasTold, AreHalted, EndsByOneCall, Until, RunsTo}
use Rattle.command_queue.proofs.RunLemmas.{ran_none, ran_more}

-- ---- lists

module _ {X : Type 0} (P : X → Type 0) where
  pub all_more : (xs : List X) (x : X) → AllByRecursion P xs → P x → AllByRecursion P (xs ++ x ∷ [])
  all_more [] x all last = (last, tt)
  all_more (y ∷ ys) x all last = (all.0, all_more ys x all.1 last)

  pub all_less : (xs : List X) (x : X) → AllByRecursion P (xs ++ x ∷ []) → AllByRecursion P xs × P x
  all_less [] x all = (tt, all.0)
  all_less (y ∷ ys) x all = (let rest = all_less ys x all.1 in ((all.0, rest.0), rest.1))

limits_then : (a b c : MappingState) → HasLimitsOf a b → HasLimitsOf b c → HasLimitsOf a c
limits_then a b c first second = record { geometry = second.geometry ∙ first.geometry; capacity = second.capacity ∙ first.capacity; share = second.share ∙ first.share }

-- ---- a device that is stopped

halted_still : (stop stop' : Option DeviceFault) (xs : List Exchange) → ((fault : DeviceFault) → stop ≡ Some fault → stop' ≡ Some fault) → AreHalted stop xs → AreHalted stop' xs
halted_still stop stop' [] still halted = tt
halted_still stop stop' (x ∷ xs) still halted = ((λ fault is stops. still fault (halted.0 fault is stops)), halted_still stop stop' xs still halted.1)

stays_more : (stop : Option DeviceFault) (xs : List Exchange) (x : Exchange) → ((fault : DeviceFault) → stop ≡ Some fault → x.result ≡ Err fault) → AreHalted stop xs → StaysStopped xs → StaysStopped (xs ++ x ∷ [])
stays_more stop [] x refuses halted stays = ((λ fault is stops. tt), tt)
stays_more stop (y ∷ ys) x refuses halted stays =
    ((λ fault is stops. all_more (λ (z : Exchange). z.result ≡ Err fault) ys x (stays.0 fault is stops) (refuses fault (halted.0 fault is stops))), stays_more stop ys x refuses halted.1 stays.1)

-- ---- the die's fault

bus_or : (result : Result (Unit {0}) DeviceFault) → (result ≡ Err BusFault) ⊎ (result ≢ Err BusFault)
bus_or (Ok done) = inr (λ e. let no : ⊥ = cc in no)
bus_or (Err OutOfRange) = inr (λ e. let no : ⊥ = cc in no)
bus_or (Err (ReadOnly good wanted failed)) = inr (λ e. let no : ⊥ = cc in no)
bus_or (Err SequenceSpent) = inr (λ e. let no : ⊥ = cc in no)
bus_or (Err OutOfMemory) = inr (λ e. let no : ⊥ = cc in no)
bus_or (Err Damaged) = inr (λ e. let no : ⊥ = cc in no)
bus_or (Err BusFault) = inl refl

risen_by : (a b c : ℕ) → a ≤ b → b ≤ c → b ≡ 2 ^ 64 - 1 → (a ≡ c) ⊎ (a < c) → HasRisen a c
risen_by a b c low high top (inl same) = inr (omega arith)
risen_by a b c low high top (inr lt) = inl lt

risen_on : (a b c : ℕ) → a ≤ b → b ≤ c → HasRisen a b → HasRisen a c
risen_on a b c low high (inl lt) = inl (omega arith)
risen_on a b c low high (inr top) = risen_by a b c low high top (eq-or-lt_of_le (omega arith))

-- ---- up to the first fault of the bus

-- the fault stops the device after any command
pub bus_stops : (command : step.Command) → StopsDevice command BusFault
bus_stops (step.Read sector) = tt
bus_stops (step.Write sector body) = tt
bus_stops (step.Trim sector) = tt
bus_stops step.Flush = tt
bus_stops step.Turn = tt

known_at : (before rest : List Exchange) (x : Exchange) → AreKnown (before ++ x ∷ rest) → x.result ≢ Err BusFault
known_at [] rest x known = known.0
known_at (y ∷ before) rest x known = known_at before rest x known.1

module _ {S : Type 0} (Runs : List Exchange → S → Type 0) (Fails : S → Exchange → S → Type 0) (xs : List Exchange) (new : S) where
  all_before : (before rest : List Exchange) (mid : S) → xs ≡ before ++ rest → AreRefused BusFault rest → Runs before mid → EndsByOneCall Fails mid rest new → AreKnown xs → Runs xs new
  all_before before [] mid joined refused runs ends known = subst (λ ys. Runs ys new) (sym (joined ∙ append-nil before)) (subst (Runs before) (sym ends) runs)
  all_before before (x ∷ rest) mid joined refused runs ends known = absurd (known_at before rest x (subst AreKnown joined known) refused.0)

  -- with no fault all of them are a run
  pub until_known : Until Runs Fails xs new → AreKnown xs → Runs xs new
  until_known u = all_before u.before u.rest u.mid u.joined u.refused u.runs u.fails

-- the same of what the calls lead to, in other words
module _ {S T : Type 0} (of : S → T) (Runs : List Exchange → S → Type 0) (Runs' : List Exchange → T → Type 0) (Fails : S → Exchange → S → Type 0) (Fails' : T → Exchange → T → Type 0) (xs : List Exchange) (new : S)
    (runs_so : (before : List Exchange) (mid : S) → Runs before mid → Runs' before (of mid))
    (fails_so : (before : List Exchange) (mid : S) (x : Exchange) → AreKnown before → Runs before mid → x.result ≡ Err BusFault → Fails mid x new → Fails' (of mid) x (of new)) where
  ends_so : (before rest : List Exchange) (mid : S) → AreKnown before → Runs before mid → AreRefused BusFault rest → EndsByOneCall Fails mid rest new → EndsByOneCall Fails' (of mid) rest (of new)
  ends_so before [] mid known runs refused ends = ap of ends
  ends_so before (x ∷ rest) mid known runs refused fails = fails_so before mid x known runs refused.0 fails

  pub until_so : Until Runs Fails xs new → Until Runs' Fails' xs (of new)
  until_so u = record {
    before = u.before;
    rest = u.rest;
    joined = u.joined;
    known = u.known;
    refused = u.refused;
    mid = of u.mid;
    runs = runs_so u.before u.mid u.runs;
    fails = ends_so u.before u.rest u.mid u.known u.runs u.refused u.fails;
  }

-- of a device that the bus had not failed before, the count rose in that call
module _ {N : Type 0} (view : View N) (old new : Device N)
    (x : Exchange) (tells : Tells view old x new) (ne : stop_of old.engine.fault ≢ Some BusFault)
    (bus : x.result ≡ Err BusFault) where
  was_going : (o : Option DeviceFault) → stop_of old.engine.fault ≡ o → o ≡ None
  was_going None is = refl
  was_going (Some fault) is =
      let same : fault ≡ BusFault = (let both : Err fault ≡ Err BusFault = sym (tells.stopped fault is).0 ∙ bus in cc) in
      absurd (ne (is ∙ ap Some same))

  pub fault_rose : HasRisen (view.failed old.engine.nand) (view.failed new.engine.nand)
  fault_rose = tells.rose (was_going (stop_of old.engine.fault) refl) bus

-- ---- none, and one more

chain_more : {N : Type 0} (view : View N) (old now new : Device N)
    (xs : List Exchange) (x : Exchange) → ToldEach view old xs now
    → Tells view now x new → ToldEach view old (xs ++ x ∷ []) new
chain_more view old now new [] x each tells = (new, subst (λ d. Tells view d x new) each tells, refl)
chain_more view old now new (y ∷ xs) x each tells = (each.0, each.1, chain_more view each.0 now new xs x each.2 tells)

calls_none : {N : Type 0} (view : View N) (old : Device N) → IsDevice view.flash old → AreTold view old [] old
calls_none view old device = record {
  device = device;
  sized = refl;
  limits = record { geometry = refl; capacity = refl; share = refl };
  honest_is = refl;
  failed_is = omega arith;
  stopped = λ fault is. (tt, refl);
  halted = tt;
  stays = tt;
  going = λ none known e. (let no : ⊥ = cc in no);
  rose = λ none. inl tt;
  each = refl;
}

pub told_none : {N : Type 0} (view : View N) (old : Device N) → IsDevice view.flash old → WasTold view old [] old
told_none view old device = record {
  calls = calls_none view old device;
  until = record {
    before = [];
    rest = [];
    joined = refl;
    known = tt;
    refused = tt;
    mid = old;
    runs = (calls_none view old device, λ is_honest well. (well, ran_none view old));
    fails = refl;
  };
}

module _ {N : Type 0} (view : View N) (old now new : Device N) (xs : List Exchange) (x : Exchange)
    (safe : IsDevice view.flash old) (so_far : AreTold view old xs now) (tells : Tells view now x new) where
  ran_on : view.honest old.engine.nand ≡ true → IsWell view.flash old → IsWell view.flash now × Ran view old xs now → x.result ≢ Err BusFault → IsWell view.flash new × Ran view old (xs ++ x ∷ []) new
  ran_on is_honest well before ne =
      let still : view.honest now.engine.nand ≡ true = so_far.honest_is ∙ is_honest in
      let now_well : IsWell view.flash new = tells.well still before.0 ne in (
        now_well,
        ran_more view old now new xs x so_far.sized tells.sized so_far.device.engine.geometry
            tells.device.engine.geometry (limits_then old.engine.mapping now.engine.mapping new.engine.mapping so_far.limits tells.limits)
            well.truth.worn.most safe.engine.memory so_far.limits so_far.device.engine.memory tells.device.engine.memory now_well before.1 tells
            (tells.happened still before.0 ne),
      )

  its_stop : (fault : DeviceFault) → x.result ≡ Err fault → StopsDevice x.command fault → stop_of new.engine.fault ≡ Some fault
  its_stop fault is there = subst (λ r. IfErr r (λ f. StopsDevice x.command f → stop_of new.engine.fault ≡ Some f)) is tells.stops there

  stopped_on : ForSome (stop_of old.engine.fault) (λ fault. AreRefused fault (xs ++ x ∷ []) × (new ≡ old))
  stopped_on fault is =
      let before = so_far.stopped fault is in
      let still = tells.stopped fault (ap (λ (d : Device N). stop_of d.engine.fault) before.1 ∙ is) in
      (all_more (λ (y : Exchange). y.result ≡ Err fault) xs x before.0 still.0, still.1 ∙ before.1)

  halted_on : AreHalted (stop_of new.engine.fault) (xs ++ x ∷ [])
  halted_on =
      all_more (λ (y : Exchange). (fault : DeviceFault) → y.result ≡ Err fault → StopsDevice y.command fault → stop_of new.engine.fault ≡ Some fault) xs x
      (halted_still (stop_of now.engine.fault) (stop_of new.engine.fault) xs (λ fault is. ap (λ (d : Device N). stop_of d.engine.fault) (tells.stopped fault is).1 ∙ is) so_far.halted) its_stop

  abbrev RoseBy : List Exchange → Type 0
  RoseBy ys = AreKnown ys ⊎ HasRisen (view.failed old.engine.nand) (view.failed new.engine.nand)

  rose_by : stop_of now.engine.fault ≢ Some BusFault → AreKnown xs → (x.result ≡ Err BusFault) ⊎ (x.result ≢ Err BusFault) → RoseBy (xs ++ x ∷ [])
  rose_by going known (inl bus) = inr (risen_over (view.failed old.engine.nand) (view.failed now.engine.nand) (view.failed new.engine.nand) so_far.failed_is (fault_rose view now new x tells going bus))
  rose_by going known (inr ne) = inl (all_more IsKnown xs x known ne)

  rose_on : stop_of old.engine.fault ≡ None → AreKnown xs ⊎ HasRisen (view.failed old.engine.nand) (view.failed now.engine.nand) → RoseBy (xs ++ x ∷ [])
  rose_on none (inl known) = rose_by (so_far.going none known) known (bus_or x.result)
  rose_on none (inr risen) = inr (risen_on (view.failed old.engine.nand) (view.failed now.engine.nand) (view.failed new.engine.nand) so_far.failed_is tells.failed_is risen)

  calls_more : AreTold view old (xs ++ x ∷ []) new
  calls_more = record {
    device = tells.device;
    sized = tells.sized ∙ so_far.sized;
    limits = limits_then old.engine.mapping now.engine.mapping new.engine.mapping so_far.limits tells.limits;
    honest_is = tells.honest_is ∙ so_far.honest_is;
    failed_is = omega (arith, so_far.failed_is, tells.failed_is);
    stopped = stopped_on;
    halted = halted_on;
    stays = stays_more (stop_of now.engine.fault) xs x (λ fault is. (tells.stopped fault is).0) so_far.halted so_far.stays;
    going = λ none known e. (all_less IsKnown xs x known).1 (tells.standing BusFault e);
    rose = λ none. rose_on none (so_far.rose none);
    each = chain_more view old now new xs x so_far.each tells;
  }

  -- after a fault of the bus the device answers it again, and is as it was
  again : (mid : Device N) (y : Exchange) → y.result ≡ Err BusFault → Tells view mid y now → (x.result ≡ Err BusFault) × (new ≡ now)
  again mid y bus its = tells.stopped BusFault (subst (λ r. IfErr r (λ fault. StopsDevice y.command fault → stop_of now.engine.fault ≡ Some fault)) bus its.stops (bus_stops y.command))

  until_on : (before rest : List Exchange) (mid : Device N) → xs ≡ before ++ rest → AreKnown before → AreRefused BusFault rest
      → RunsTo view old before mid → EndsByOneCall (Tells view) mid rest now
      → (x.result ≡ Err BusFault) ⊎ (x.result ≢ Err BusFault)
      → Until (RunsTo view old) (Tells view) (xs ++ x ∷ []) new
  until_on before [] mid joined known refused runs ends (inl bus) = record {
    before = before;
    rest = x ∷ [];
    joined = ap (λ l. l ++ x ∷ []) (joined ∙ append-nil before);
    known = known;
    refused = (bus, tt);
    mid = mid;
    runs = runs;
    fails = subst (λ d. Tells view d x new) ends tells;
  }
  until_on before [] mid joined known refused runs ends (inr ne) =
      let all : xs ≡ before = joined ∙ append-nil before in
      let here : RunsTo view old xs now = subst (λ d. RunsTo view old xs d) (sym ends) (subst (λ l. RunsTo view old l mid) (sym all) runs) in
      record {
        before = xs ++ x ∷ [];
        rest = [];
        joined = sym (append-nil (xs ++ x ∷ []));
        known = all_more IsKnown xs x (subst AreKnown (sym all) known) ne;
        refused = tt;
        mid = new;
        runs = (calls_more, λ is_honest well. ran_on is_honest well (here.1 is_honest well) ne);
        fails = refl;
      }
  until_on before (y ∷ rest) mid joined known refused runs ends which =
      let still = again mid y refused.0 ends in
      record {
        before = before;
        rest = y ∷ (rest ++ x ∷ []);
        joined = ap (λ l. l ++ x ∷ []) joined ∙ append_assoc before (y ∷ rest) (x ∷ []);
        known = known;
        refused = (refused.0, all_more (λ (z : Exchange). z.result ≡ Err BusFault) rest x refused.1 still.0);
        mid = mid;
        runs = runs;
        fails = subst (λ d. Tells view mid y d) (sym still.1) ends;
      }

-- one call more
pub told_more : {N : Type 0} (view : View N)
    (old now new : Device N) (xs : List Exchange) (x : Exchange) → IsDevice view.flash old → WasTold view old xs now
    → Tells view now x new → WasTold view old (xs ++ x ∷ []) new
told_more view old now new xs x safe so_far tells =
    let u = so_far.until in
    record {
      calls = calls_more view old now new xs x safe so_far.calls tells;
      until = until_on view old now new xs x safe so_far.calls tells u.before u.rest u.mid u.joined u.known u.refused u.runs u.fails (bus_or x.result);
    }
