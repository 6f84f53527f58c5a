-- A step of the pinned block, as a turn takes it.
use Rattle.std.proofs.Common.{◌≡◌, ◌≢◌, ◌⊎◌, ℕ, ◌+◌, ◌-◌, ◌^◌, ◌<◌, ◌≤◌, ◌==◌, ◌&&◌, ◌||◌, ◌∙◌, inl, inr, not, Bool, true, false, length, min, IsSome, None, Option, Some, Result, Ok, Err, OnOk, MatchResult, MatchOption, refl, sym, ap, subst, arith}
use Rattle.std.proofs.lemmas.Bool.{cases_lt}
use Rattle.page_layout.specs.View.{View}
use Rattle.page_layout.specs.Counter.{counted, HasRisen}
use Rattle.page_layout.specs.declared.geometry.Geometry.{Geometry}
use Rattle.page_layout.specs.Page.{Image}
use Rattle.page_layout.specs.Geometry.{vmax_at}
use Rattle.budget.proofs.CopyLemmas.{copies_fit_at}
use Rattle.page_layout.specs.Array.{marks, array_of}
use Rattle.page_layout.specs.Version.{AddsNoOld}
use Rattle.bad_blocks.specs.Table.{is_good_at, good_count}
use Rattle.budget.specs.declared.stream.Stream.TheVariants.{Meta}
use Rattle.allocation.specs.State.{State, is_closed, is_open, pointer_at, live_at, free_count}
use Rattle.collection.specs.declared.engine.Engine.{Engine}
use Rattle.collection.specs.declared.engine.Pinned.{Pinned}
use Rattle.collection.specs.declared.engine.collect_in_turns.Step.{Step}
use Rattle.collection.specs.declared.engine.collect_in_turns.Step.TheVariants.{Copied, WroteBack, Erased}
use Rattle.collection.specs.declared.fault.EngineFault.{EngineFault}
use Rattle.collection.specs.declared.fault.EngineFault.TheVariants.{ReadOnly, SequenceSpent, Damaged, Bus}
use Rattle.collection.specs.State.{Ram}
use Rattle.collection.specs.Safe.{IsSafe, IsRam, is_shut, ram, image_in}
use Rattle.collection.specs.Truth.{IsTrue}
use Rattle.collection.specs.Results.{Refused}
use Rattle.collection.specs.Collect.{waiting, GoesBut, GoesOn, FaultCosts, IsRearranged, HasAiling, HasNoneAiling}
use Rattle.collection.specs.Left.{IsCalm, IsHalfDone, PinIsFew, PinHasPassed, StepsOn, StepSpends, HasStepped, PinsOn, left, left_to_program, left_by_pin}
use Rattle.collection.specs.Turns.{erases_told}
use Rattle.collection.specs.declared.engine.room.Reserve.TheVariants as reserve
use Rattle.collection.specs.Room.{IsMade, IsWorth, wanted}
use Rattle.collection.specs.Acts.{RestsOrErases}
use Rattle.ftl_device.specs.declared.fault.CallFault.TheVariants.{Engine as OfEngine}
use Rattle.ftl_device.specs.Calls.{TellsByMemory, Knows, KeepsArray, CallRefused, HasWorked, KeepsBad, HasLess, HasFallen, IsQuiet}
use Rattle.ftl_device.specs.Shortage.{StepCounts, HasUsed}
use Rattle.ftl_device.proofs.SpentLemmas.{used_put, failed_at}
use Rattle.collection.proofs.Lefts.{left_law, pin_law}
use Rattle.mapping_cache.specs.Mapping.{HasLimitsOf}
use Rattle.collection.proofs.Rooms.{shut_fewer, on_same}
use Rattle.collection.proofs.Logs.{went_same}
use Rattle.bad_blocks.specs.Table.{is_good}
use Rattle.collection.specs.State.{Pin}
use Rattle.collection.specs.Results.{Goes}
use Rattle.collection.specs.Collect.{RoomCounts, IsAiling, RescueCosts, IsRescued}
use Rattle.ftl_device.specs.declared.fault.CallFault.{CallFault}
use Rattle.ftl_device.specs.Calls.{HasMadeRoom, HasRescued}
use Rattle.ftl_device.specs.Shortage.{LacksGood, CallShort}
use Rattle.ftl_device.proofs.ShortageLemmas.{leaves_five}
use Rattle.ftl_device.specs.Changes.{EngineLeaves, CollectsOn}
use Rattle.ftl_device.proofs.DieLemmas.{die_same}
use Rattle.ftl_device.proofs.LeaveLemmas.{leaves_same, leaves_then}
use Rattle.ftl_device.proofs.StoppedLemmas.{stops_same}
use Rattle.ftl_device.proofs.RoomLemmas.{not_ailing, good_fewer, rescue_worked}
use Rattle.ftl_device.proofs.PinLemmas.{unpinned_moved}

-- ---- the pinned block is closed

closed_good : (s : State) (block : ℕ) → is_closed s block ≡ true → is_good_at s.table block ≡ true
closed_good s block closed = at (is_good_at s.table block) refl
  where
    at : (g : Bool) → is_good_at s.table block ≡ g → is_good_at s.table block ≡ true
    at true e = e
    at false e = (let no : false ≡ true = sym (ap (λ g. g && not (pointer_at s block == 0) && not (is_open s block)) e) ∙ closed in let never : ⊥ = cc in absurd never)

bad_shut : (s : State) (block : ℕ) → is_good_at s.table block ≡ false → is_shut s block ≡ true
bad_shut s block bad = ap (λ g. not g || is_closed s block) bad

closed_shut : (s : State) (block : ℕ) → is_closed s block ≡ true → is_shut s block ≡ true
closed_shut s block closed = at (not (is_good_at s.table block)) (is_closed s block) closed
  where
    at : (a b : Bool) → b ≡ true → (a || b) ≡ true
    at true b e = refl
    at false b e = e

pub some_pin : (o : Option Pinned) → IsSome o → (p : Pinned) × (o ≡ Some p)
some_pin None some = (let no : ⊥ = cc in absurd no)
some_pin (Some p) some = (p, refl)

pub pinned_half : (r : Ram) (p : Pinned) → IsCalm r → r.pin.block ≡ Some p → IsHalfDone r p
pinned_half r p calm is = subst (λ o. MatchOption o (length r.mapping.moved ≤ waiting r) (IsHalfDone r)) is calm.pinned

-- bad blocks stay as they are
pub step_goes_on : (p : Pinned) (a b : Ram) → IsHalfDone a p → GoesBut p.block a b → GoesOn a b
step_goes_on p a b half goes = record {
  geometry = goes.geometry;
  next = goes.next;
  bad = λ k within bad. goes.shut k within (λ same. (let good : is_good_at a.blocks.table k ≡ true = ap (is_good_at a.blocks.table) same ∙ closed_good a.blocks p.block half.closed in let no : ⊥ = cc in no)) (bad_shut a.blocks k bad);
}

-- ---- what it costs

pub step_told : (p : Pinned) (a b : Ram) (fault : EngineFault) → good_count b.blocks.table ≤ good_count a.blocks.table → FaultCosts a b fault → TellsByMemory {A = Step} a b (Err fault)
step_told p a b ReadOnly le h = (omega (arith, h.out.none.none_free), le)
step_told p a b SequenceSpent le h = h.spent.last
step_told p a b Damaged le h = tt
step_told p a b Bus le h = tt

pub step_counted : (p : Pinned) (a b : Ram) (step : Step) → StepSpends false p a b step → StepCounts a b (Ok tt)
step_counted p a b Copied c = inl (used_put c.stream 1 a b (omega arith) c.put)
step_counted p a b WroteBack c = inl (used_put Meta 1 a b (omega arith) c.put)
step_counted p a b Erased c = inr (omega (arith, c.counts.good, c.counts.free))

pub step_stuck : (a b : Ram) (fault : EngineFault) → FaultCosts a b fault → StepCounts a b (Err fault)
step_stuck a b ReadOnly h = failed_at 0 h.stream a b h.out
step_stuck a b SequenceSpent h = tt
step_stuck a b Damaged h = tt
step_stuck a b Bus h = tt

risen_counted : (n m : ℕ) → m ≡ counted n → HasRisen n m
risen_counted n m e = elim (cases_lt n (2 ^ 64 - 1)) [ inl lt ↦ inl (omega (arith, e)) | inr ge ↦ inr (omega (arith, e)) ]

still_risen : (before n m : ℕ) → m ≡ counted n → HasRisen before n → HasRisen before m
still_risen before n m e (inl lt) = elim (cases_lt n (2 ^ 64 - 1)) [ inl small ↦ inl (omega (arith, e)) | inr ge ↦ inr (omega (arith, e)) ]
still_risen before n m e (inr top) = inr (omega (arith, e, top))

pub risen_told : (before n m : ℕ) (step : Step) → m ≡ erases_told step n → HasRisen before n → HasRisen before m
risen_told before n m Copied e r = subst (HasRisen before) (sym e) r
risen_told before n m WroteBack e r = subst (HasRisen before) (sym e) r
risen_told before n m Erased e r = still_risen before n m e r

pub step_worked : (p : Pinned) (a b : Ram) (step : Step) (n m : ℕ) → StepSpends false p a b step → m ≡ erases_told step n → HasWorked a b n m
step_worked p a b Copied n m c e = inl (omega (arith, c.put.next))
step_worked p a b WroteBack n m c e = inl (omega (arith, c.put.next))
step_worked p a b Erased n m c e = inr (risen_counted n m e)

-- ---- where the die is honest

-- the block stays pinned, unless it was erased
stays_pinned : (p : Pinned) (pages : ℕ) (pin : Option Pinned) (step : Step) → PinsOn pages p pin step → step ≢ Erased → (first : ℕ) × (pin ≡ Some (record { block = p.block; first = first }))
stays_pinned p pages pin Copied next ne = (next.0 + 1, next.3)
stays_pinned p pages pin WroteBack next ne = (pages, next)
stays_pinned p pages pin Erased next ne = absurd (ne refl)

-- it has erased, or less is left
pub step_less : (p : Pinned) (a b : Ram) (x y : Image) (step : Step) (n m : ℕ) → IsRam a → Knows a x → a.pin.block ≡ Some p → HasStepped false p a b step → m ≡ erases_told step n → StepsOn false p a x b y step → HasRisen n m ⊎ (left b y < left a x)
step_less p a b x y step n m safe k at h e s = by step refl
  where
    now : step ≢ Erased → left b y < left a x
    now ne =
        let was : left a x ≡ min (left_to_program false a x p.block) (a.geometry.pages - 1) = ap (λ o. left_by_pin o a x) at in
        let below = left_law a x p safe k.truth (k.few p at) in
        let pin = stays_pinned p a.geometry.pages b.pin.block step h.next ne in
        let l : left b y ≡ min (left_to_program false b y p.block) (b.geometry.pages - 1) = ap (λ o. left_by_pin o b y) pin.1 in
        omega (arith, l, was, below, s.left ne)

    by : (its : Step) → step ≡ its → HasRisen n m ⊎ (left b y < left a x)
    by Copied is = inr (now (λ no. (let same : Copied ≡ Erased = sym is ∙ no in let never : ⊥ = cc in never)))
    by WroteBack is = inr (now (λ no. (let same : WroteBack ≡ Erased = sym is ∙ no in let never : ⊥ = cc in never)))
    by Erased is = inl (risen_counted n m (e ∙ ap (λ t. erases_told t n) is))

module _ (p : Pinned) (a b : Ram) (x y : Image) (s : IsRam a) (t : IsRam b) (same : b.geometry ≡ a.geometry) (k : Knows a x) (at : a.pin.block ≡ Some p) where
  pub step_keeps : (step : Step) → IsCalm b → StepsOn false p a x b y step → KeepsArray a.geometry x b y
  step_keeps step calm on = record { truth = record { truth = on.same.truth; calm = calm; passed = on.passed; few = on.few (k.few p at) }; array = on.same.array; versions = on.same.leaves.versions }

  pub step_bad : IsTrue None b y → Rattle.collection.specs.Results.LeavesNewest a x y → KeepsBad a b
  step_bad truth leaves = λ j within bad. shut_fewer a b x y j s t same k.truth truth leaves within (bad_shut a.blocks j bad)

  few_refused : b.pin.block ≡ a.pin.block → b.mapping ≡ a.mapping → IsTrue None b y → Rattle.collection.specs.Results.LeavesNewest a x y → PinIsFew 1 b
  few_refused pin mapping truth leaves q is =
      let was : a.pin.block ≡ Some q = sym pin ∙ is in
      let half = pinned_half a q k.calm was in
      let few = k.few q was in
      let fewer = shut_fewer a b x y q.block s t same k.truth truth leaves half.within (closed_shut a.blocks q.block half.closed) in
      let v : vmax_at b.geometry b.mapping.share ≡ vmax_at a.geometry a.mapping.share = rw (same, mapping) refl in
      let w : waiting b ≡ waiting a = rw (same, mapping) refl in
      let m : length b.mapping.moved ≡ length a.mapping.moved = ap (λ (z : Rattle.mapping_cache.specs.Mapping.MappingState). length z.moved) mapping in
      record { within = (let lt = few.within in rw same lt); small = omega (arith, fewer, few.small, v); moved = omega (arith, fewer, few.moved, v, w, m) }

  pub step_refused : (fault : EngineFault) → b.pin.block ≡ a.pin.block → b.mapping ≡ a.mapping → Refused a x b y fault → CallRefused a.geometry x b y (OfEngine fault)
  step_refused ReadOnly pin mapping r = record { truth = r.truth; array = r.array; versions = r.leaves.versions }
  step_refused SequenceSpent pin mapping r = record { truth = r.truth; array = r.array; versions = r.leaves.versions; few = few_refused pin mapping r.truth r.leaves }
  step_refused Damaged pin mapping r = r
  step_refused Bus pin mapping r = tt

pub ok_map : {P Q : Type 0} (result : Result (Unit {0}) EngineFault) → (P → Q) → OnOk result P → OnOk result Q
ok_map (Ok done) f h = f h
ok_map (Err fault) f h = tt

-- ---- a collection begins

-- one is pinned, of a victim worth it
module _ {N : Type 0} (view : View N) (e f : Engine N) (block : ℕ) (is : f ≡ record e { pinned = Some (record { block = block; first = 0 }) }) where
  pub knows_pinned : (many : ℕ) → IsRam (ram e) → IsCalm (ram f) → PinHasPassed (ram f) (image_in view.flash f) → IsWorth many (ram e) block → length e.mapping.moved ≤ waiting (ram e) → Knows (ram e) (image_in view.flash e) → Knows (ram f) (image_in view.flash f)
  knows_pinned many s calm passed worth none k = record {
    truth =
        (let P : Engine N → Type 0 = λ z. IsTrue None (ram z) (image_in view.flash z) in subst P (sym is)
        (record {
          whole = k.truth.whole;
          one = k.truth.one;
          below = k.truth.below;
          filled = k.truth.filled;
          live = k.truth.live;
          worn =
              k.truth.worn;
          tables = k.truth.tables;
          maps = k.truth.maps;
        }));
    calm = calm;
    passed = passed;
    few = (let P : Engine N → Type 0 = λ z. PinIsFew 0 (ram z) in subst P (sym is) (λ p at.
        let its : Rattle.collection.specs.Left.IsFew 0 (ram (record e { pinned = Some (record { block = block; first = 0 }) }))
        (record { block = block; first = 0 }) = pin_law (ram (record e { pinned = Some (record { block = block; first = 0 }) }))
        (record { block = block; first = 0 })
        (let lt = worth.victim.within in let many = ap (λ (g : Geometry). g.blocks) s.blocks_of in omega (arith, lt, many)) none worth.small in
        let same : Some (record { block = block; first = 0 }) ≡ Some p = at in
        subst (λ q. Rattle.collection.specs.Left.IsFew 0 (ram (record e { pinned = Some (record { block = block; first = 0 }) })) q) (some_same _ p same) its));
  }
    where
      some_same : (p q : Pinned) → Some p ≡ Some q → p ≡ q
      some_same p q e = cc

  -- it has less to do than is said where none is pinned
  pub less_pinned : (new : Engine N) → e.pinned ≡ None → IsRam (ram f) → IsHalfDone (ram f) (record { block = block; first = 0 }) → Knows (ram f) (image_in view.flash f) → HasLess view f new → HasLess view e new
  less_pinned new none safe half k (inl rose) = inl (subst (λ n. HasRisen n (view.erases new.nand)) (ap (λ (z : Engine N). view.erases z.nand) is) rose)
  less_pinned new none safe half k (inr less) =
      let at : f.pinned ≡ Some (record { block = block; first = 0 }) = ap (λ (z : Engine N). z.pinned) is in
      let l : left (ram f) (image_in view.flash f) ≡ min (left_to_program false (ram f) (image_in view.flash f) block) (f.geometry.pages - 1) = ap (λ o. left_by_pin o (ram f) (image_in view.flash f)) at in
      let g : f.geometry ≡ e.geometry = ap (λ (z : Engine N). z.geometry) is in
      let pages : f.geometry.pages ≡ e.geometry.pages = ap (λ (h : Geometry). h.pages) g in
      let was : left (ram e) (image_in view.flash e) ≡ e.geometry.pages - 1 = ap (λ o. left_by_pin o (ram e) (image_in view.flash e)) none in
      inr (omega (arith, less, l, pages, was))

  pub goes_pinned : (new : Engine N) → GoesOn (ram f) (ram new) → GoesOn (ram e) (ram new)
  goes_pinned new g = (let P : Engine N → Type 0 = λ z. GoesOn (ram z) (ram new) → GoesOn (ram e) (ram new) in subst P (sym is) (λ h. record { geometry = h.geometry; next = h.next; bad = h.bad }) g)

  pub bad_pinned : (new : Engine N) → KeepsBad (ram f) (ram new) → KeepsBad (ram e) (ram new)
  bad_pinned new g = (let P : Engine N → Type 0 = λ z. KeepsBad (ram z) (ram new) → KeepsBad (ram e) (ram new) in subst P (sym is) (λ h. h) g)

  counts_rebuilt : (r : Ram) (result : Result (Unit {0}) EngineFault) → StepCounts (ram (record e { pinned = Some (record { block = block; first = 0 }) })) r result → StepCounts (ram e) r result
  counts_rebuilt r (Ok done) (inl u) = inl (record { data_pages = u.data_pages; meta_pages = u.meta_pages; few = u.few; account = u.account })
  counts_rebuilt r (Ok done) (inr le) = inr le
  counts_rebuilt r (Err ReadOnly) h = record { mid = h.mid; geometry = h.geometry; used = record { data_pages = h.used.data_pages; meta_pages = h.used.meta_pages; few = h.used.few; account = h.used.account }; stream = h.stream; out = h.out }
  counts_rebuilt r (Err SequenceSpent) h = tt
  counts_rebuilt r (Err Damaged) h = tt
  counts_rebuilt r (Err Bus) h = tt

  pub counts_pinned : (r : Ram) (result : Result (Unit {0}) EngineFault) → StepCounts (ram f) r result → StepCounts (ram e) r result
  counts_pinned r result h = (let P : Engine N → Type 0 = λ z. StepCounts (ram z) r result → StepCounts (ram e) r result in subst P (sym is) (counts_rebuilt r result) h)

  pub truth_pinned : (result : Result (Unit {0}) EngineFault) (r : Ram) (y : Image)
      → MatchResult result (λ done. KeepsArray f.geometry (image_in view.flash f) r y)
      (λ fault. CallRefused f.geometry (image_in view.flash f) r y (OfEngine fault))
      → MatchResult result (λ done. KeepsArray e.geometry (image_in view.flash e) r y)
      (λ fault. CallRefused e.geometry (image_in view.flash e) r y (OfEngine fault))
  truth_pinned result r y h = (let P : Engine N → Type 0 = λ z. MatchResult result (λ done. KeepsArray z.geometry (image_in view.flash z) r y) (λ fault. CallRefused z.geometry (image_in view.flash z) r y (OfEngine fault)) in subst P is h)

  pub worked_pinned : (new : Engine N) → HasWorked (ram f) (ram new) (view.erases f.nand) (view.erases new.nand) → HasWorked (ram e) (ram new) (view.erases e.nand) (view.erases new.nand)
  worked_pinned new h = (let P : Engine N → Type 0 = λ z. HasWorked (ram z) (ram new) (view.erases z.nand) (view.erases new.nand) in subst P is h)

  leaves_pinned : IsSafe view.flash e → IsSafe view.flash f → e.fault ≡ None → EngineLeaves {A = Unit {0}} view e (Ok tt) f
  leaves_pinned was safe none = (let P : Engine N → Type 0 = λ z. IsSafe view.flash z → EngineLeaves {A = Unit {0}} view e (Ok tt) z in subst P (sym is) (λ s. record {
    safe = s;
    fault = none;
    geometry = refl;
    die = die_same view e.nand;
    rose = λ bus. (let no : ⊥ = cc in absurd no);
    tells = omega arith;
    went = λ is_honest ne. (let w = went_same (ram e) (view.flash e.nand) (view.recorded e.nand) in record { log = w.log; leads = w.leads; records = w.records; follows = w.follows; next = w.next; wears = w.wears; numbers = w.numbers });
    stops = λ is_honest k ne. stops_same view e was k.truth;
    cut = λ is_honest k bus. (let no : ⊥ = cc in absurd no);
  }) safe)

  -- the step after it is one of the engine before
  pub collects_pinned : (new : Engine N) (result : Result (Unit {0}) EngineFault) → IsSafe view.flash e → IsSafe view.flash f → e.fault ≡ None
      → (Knows (ram e) (image_in view.flash e) → Knows (ram f) (image_in view.flash f))
      → CollectsOn view f result new → CollectsOn view e result new
  collects_pinned new result was safe going begun k = record {
    leaves = leaves_then view e f new tt result (λ known w. keeps_pinned (begun w)) limits_pinned (leaves_pinned was safe going) k.leaves;
    limits = (let P : Engine N → Type 0 = λ z. HasLimitsOf z.mapping new.mapping in subst P is k.limits);
    calm_memory = k.calm_memory;
    goes = goes_pinned new k.goes;
    counts = counts_pinned (ram new) result k.counts;
    risen = (let P : Engine N → Type 0 = λ z. OnOk result ((before : ℕ) → HasRisen before (view.erases z.nand) → HasRisen before (view.erases new.nand)) in subst P is k.risen);
    bad = λ known w. ok_map result (bad_pinned new) (k.bad (honest_pinned ∙ known) (begun w));
    truth = λ known w. truth_pinned result (ram new) (image_in view.flash new) (k.truth (honest_pinned ∙ known) (begun w));
  }
    where
      honest_pinned : view.honest f.nand ≡ view.honest e.nand
      honest_pinned = ap (λ (z : Engine N). view.honest z.nand) is

      keeps_pinned : Knows (ram f) (image_in view.flash f) → KeepsArray e.geometry (image_in view.flash e) (ram f) (image_in view.flash f)
      keeps_pinned k = record {
        truth = k;
        array = ap (λ (z : Engine N). array_of e.geometry (image_in view.flash z)) is;
        versions = subst (λ (z : Engine N). AddsNoOld e.geometry (image_in view.flash e) (image_in view.flash z)) (sym is) (λ two key row at. at);
      }

      limits_pinned : HasLimitsOf e.mapping f.mapping
      limits_pinned = subst (λ (z : Engine N). HasLimitsOf e.mapping z.mapping) (sym is) (record { geometry = refl; capacity = refl; share = refl })

-- none begins
pub collects_none : {N : Type 0} (view : View N) (e : Engine N) → IsSafe view.flash e → e.fault ≡ None → IsCalm (ram e) → CollectsOn view e (Ok tt) e
collects_none view e safe going calm_now = record {
  leaves = leaves_same view e safe going;
  limits = record { geometry = refl; capacity = refl; share = refl };
  calm_memory = λ none. calm_now;
  goes = on_same (ram e);
  counts = inr (omega arith);
  risen = λ before r. r;
  bad = λ known w k within bad. omega arith;
  truth = λ known w. record { truth = w; array = refl; versions = λ two key row at. at };
}

-- no block is worth it, or so many are free
pub quiet_none : {N : Type 0} (erases : N → ℕ) (e : Engine N) (x : Image) → IsMade (wanted reserve.Turn (ram e)) (ram e) → IsTrue None (ram e) x → IsQuiet erases e e
quiet_none erases e x made w = inr (λ good. made.enough (marks x) w.live (omega (arith, good)))

-- ---- after room was made

-- a turn that made room first
pub worked_then : {N : Type 0} (erases : N → ℕ) (a b c : Engine N) → RestsOrErases erases a b
    → ((before : ℕ) → HasRisen before (erases b.nand) → HasRisen before (erases c.nand))
    → HasWorked (ram b) (ram c) (erases b.nand) (erases c.nand) → HasWorked (ram a) (ram c) (erases a.nand) (erases c.nand)
worked_then {N} erases a b c (inl same) risen w = (let P : Engine N → Type 0 = λ z. HasWorked (ram z) (ram c) (erases z.nand) (erases c.nand) in subst P same w)
worked_then erases a b c (inr rose) risen w = inr (risen (erases a.nand) rose.0)

pub quiet_then : {N : Type 0} (erases : N → ℕ) (a b c : Engine N) → RestsOrErases erases a b → ((before : ℕ) → HasRisen before (erases b.nand) → HasRisen before (erases c.nand)) → IsQuiet erases b c → IsQuiet erases a c
quiet_then erases a b c or risen (inl w) = inl (worked_then erases a b c or risen w)
quiet_then erases a b c or risen (inr q) = inr q

pub fallen_then : {N : Type 0} (view : View N) (a b c : Engine N) → RestsOrErases view.erases a b → ((before : ℕ) → HasRisen before (view.erases b.nand) → HasRisen before (view.erases c.nand)) → HasFallen view b c → HasFallen view a c
fallen_then {N} view a b c (inl same) risen h = (let P : Engine N → Type 0 = λ z. HasFallen view z c in subst P same h)
fallen_then view a b c (inr rose) risen h = inr (inl (risen (view.erases a.nand) rose.0))

-- with as many free blocks as a turn wants and nothing pinned nothing is done for room, and no page is rescued that was in no bad block
pub no_rescue : {N : Type 0} (a b : Engine N) → b ≡ a → HasNoneAiling (ram a).blocks → HasAiling (ram b).blocks → ⊥
no_rescue {N} a b same none some = not_ailing (ram b).blocks (let P : Engine N → Type 0 = λ z. HasNoneAiling (ram z).blocks in subst P (sym same) none) some

pub resting : {N : Type 0} (a b : Engine N) → b ≡ a → a.pinned ≡ None → wanted reserve.Turn (ram a) ≤ free_count (ram a).blocks → (b.pinned ≡ None) × (wanted reserve.Turn (ram b) ≤ free_count (ram b).blocks)
resting {N} a b same none enough = (let P : Engine N → Type 0 = λ z. (z.pinned ≡ None) × (wanted reserve.Turn (ram z) ≤ free_count (ram z).blocks) in subst P (sym same) (none, enough))

-- a bad block had one before and has none now: it was collected, or its last newest page has left it
pub none_worked : {N : Type 0} (erases : N → ℕ) (a b c : Engine N) → RestsOrErases erases a b
    → ((before : ℕ) → HasRisen before (erases b.nand) → HasRisen before (erases c.nand)) → HasNoneAiling (ram b).blocks → HasAiling (ram a).blocks
    → HasWorked (ram a) (ram c) (erases a.nand) (erases c.nand)
none_worked {N} erases a b c (inl same) risen none some = absurd (not_ailing (ram b).blocks none (let P : Engine N → Type 0 = λ z. HasAiling (ram z).blocks in subst P (sym same) some))
none_worked erases a b c (inr rose) risen none some = inr (risen (erases a.nand) rose.0)

-- the rescue of a turn: where nothing was done for room, a bad block had a page as the turn began
pub rescue_falls : {N : Type 0} (view : View N) (a b c : Engine N) → RestsOrErases view.erases a b → view.erases c.nand ≡ view.erases b.nand → HasAiling (ram b).blocks → HasNoneAiling (ram a).blocks → HasFallen view a c
rescue_falls {N} view a b c (inl same) e some none = absurd (not_ailing (ram b).blocks (let P : Engine N → Type 0 = λ z. HasNoneAiling (ram z).blocks in subst P (sym same) none) some)
rescue_falls view a b c (inr rose) e some none = inr (inl (subst (HasRisen (view.erases a.nand)) (sym e) rose.0))

pub risen_same : (n m : ℕ) → m ≡ n → (before : ℕ) → HasRisen before n → HasRisen before m
risen_same n m e before r = subst (HasRisen before) (sym e) r

-- ---- the count after room was made

used_more : (j k : ℕ) (a b : Ram) → j ≤ k → HasUsed j a b → HasUsed k a b
used_more j k a b le u = record { data_pages = u.data_pages; meta_pages = u.meta_pages; few = omega (arith, u.few); account = u.account }

abbrev of_call : Result (Unit {0}) CallFault → Result (Unit {0}) CallFault
of_call r = r

module _ (a b c : Ram) (s : IsRam a) (t : IsRam b) (u : IsRam c) (room : HasMadeRoom 9 false a b) (goes : GoesOn b c) (nine : RoomCounts 9 0 a b (Ok tt)) where
  pub step_short : StepCounts b c (Ok tt) → LacksGood a c ⊎ (5 ≤ free_count c.blocks)
  step_short counts =
      let less = good_fewer b c t u goes in
      let before = good_fewer a b s t room.goes in
      elim nine.wanted [
        | inl few ↦ inl (inl (omega (arith, few, less)))
        | inr free ↦ elim counts [
          | inl used ↦ elim (leaves_five b c (of_call (Ok tt)) t free (used_more 1 2 b c (omega arith) used)) [ inl five ↦ inr five | inr three ↦ inl (inr (omega (arith, before))) ]
          | inr given ↦ elim (cases_lt (free_count c.blocks) 5) [ inl few ↦ inl (inr (omega (arith, before, given))) | inr five ↦ inr five ]
        ]
      ]

  pub step_short_of : (fault : EngineFault) → StepCounts b c (Err fault) → CallShort a c (Err (OfEngine fault))
  step_short_of ReadOnly h =
      let less = good_fewer b c t u goes in
      let before = good_fewer a b s t room.goes in
      elim nine.wanted [
        | inl few ↦ inl (omega (arith, few, less))
        | inr free ↦ (let three = leaves_five b c (of_call (Err (OfEngine ReadOnly))) t free (record { mid = h.mid; geometry = h.geometry; used = used_more 0 1 b h.mid (omega arith) h.used; stream = h.stream; out = h.out }) in inr (omega (arith, before, three)))
      ]
  step_short_of SequenceSpent h = tt
  step_short_of Damaged h = tt
  step_short_of Bus h = tt

-- ---- a rescue beside a pinned block

vmax_less : (g : Geometry) (share : ℕ) → vmax_at g share < g.pages
vmax_less g share = (let fits = copies_fit_at g share (vmax_at g share) (omega arith) in omega arith)

-- fewer sectors are moved than may wait, and one for each page of a block
pub moved_less : (r : Ram) (x : Image) → Knows r x → length r.mapping.moved < waiting r + r.geometry.pages
moved_less r x k = at r.pin.block refl
  where
    at : (o : Option Pinned) → r.pin.block ≡ o → length r.mapping.moved < waiting r + r.geometry.pages
    at None is = (let few = unpinned_moved r k.calm is in omega (arith, few, r.geometry.limits.page_count.least))
    at (Some p) is = (let few = k.few p is in omega (arith, few.moved, vmax_less r.geometry r.mapping.share))

module _ (b c : Ram) (y z : Image) (s : IsRam b) (t : IsRam c) (goes : Goes b c) (share : c.mapping.share ≡ b.mapping.share) (pin : c.pin ≡ b.pin) (more : length c.mapping.moved ≤ length b.mapping.moved + 1) (k : Knows b y) where
  few_rescued : IsTrue None c z → Rattle.collection.specs.Results.LeavesNewest b y z → PinIsFew 1 c
  few_rescued truth leaves q is =
      let was : b.pin.block ≡ Some q = sym (ap (λ (x : Pin). x.block) pin) ∙ is in
      let half = pinned_half b q k.calm was in
      let few = k.few q was in
      let fewer = shut_fewer b c y z q.block s t goes.geometry k.truth truth leaves half.within (closed_shut b.blocks q.block half.closed) in
      let v : vmax_at c.geometry c.mapping.share ≡ vmax_at b.geometry b.mapping.share = rw (goes.geometry, share) refl in
      let w : waiting c ≡ waiting b = rw (goes.geometry, share) refl in
      record { within = (let lt = few.within in rw goes.geometry lt); small = omega (arith, fewer, few.small, v); moved = omega (arith, fewer, few.moved, v, w, more) }

  pub rescue_refused : (fault : EngineFault) → Refused b y c z fault → CallRefused b.geometry y c z (OfEngine fault)
  rescue_refused ReadOnly r = record { truth = r.truth; array = r.array; versions = r.leaves.versions }
  rescue_refused SequenceSpent r = record { truth = r.truth; array = r.array; versions = r.leaves.versions; few = few_rescued r.truth r.leaves }
  rescue_refused Damaged r = r
  rescue_refused Bus r = tt

-- ---- no bad block has more newest pages, and none has one

pub collected_rescued : (a b c : Ram) (x y : Image) → IsRam a → IsRam b → IsRam c → GoesOn a b → GoesOn b c → IsRearranged a x b y → HasNoneAiling b.blocks → KeepsBad b c → HasRescued a c
collected_rescued a b c x y s t u first then r none keeps = record {
  bad = λ k within was. omega (arith, r.bad k within was, keeps k (in_b k within) (still k within was));
  fewer = λ same some. (some.0, some.1, less some.0 some.1);
}
  where
    in_b : (k : ℕ) → k < a.geometry.blocks → k < b.geometry.blocks
    in_b k within = (let e : b.geometry.blocks ≡ a.geometry.blocks = ap (λ (g : Geometry). g.blocks) first.geometry in omega arith)

    still : (k : ℕ) → k < a.geometry.blocks → is_good_at a.blocks.table k ≡ false → is_good_at b.blocks.table k ≡ false
    still k within was = ap is_good (first.bad k within was).row ∙ was

    less : (k : ℕ) → IsAiling a.blocks k → live_at c.blocks k < live_at a.blocks k
    less k ailing =
        let many : a.blocks.geometry.blocks ≡ a.geometry.blocks = ap (λ (g : Geometry). g.blocks) s.blocks_of in
        let within : k < a.geometry.blocks = (let w = ailing.within in omega (arith, w, many)) in
        let there : k < b.geometry.blocks = in_b k within in
        let bad : is_good_at b.blocks.table k ≡ false = still k within ailing.bad in
        let own : b.blocks.geometry.blocks ≡ b.geometry.blocks = ap (λ (g : Geometry). g.blocks) t.blocks_of in
        let zero : live_at b.blocks k ≡ 0 = none k (omega (arith, there, own)) bad in
        omega (arith, keeps k there bad, zero, ailing.some)

-- a page was rescued, so it has programmed
pub rescue_works : {N : Type 0} (erases : N → ℕ) (a b c : Engine N) (y z : Image) (found : Bool) → IsRam (ram b) → IsRam (ram c)
    → HasAiling (ram b).blocks → RestsOrErases erases a b → erases c.nand ≡ erases b.nand → Goes (ram b) (ram c)
    → RescueCosts (ram b) (ram c) (Ok found) → IsRescued (ram b) y (ram c) z found → IsQuiet erases a c
rescue_works {N} erases a b c y z found t u some (inl still) same goes cost d =
    let was : HasAiling (ram a).blocks = (let P : Engine N → Type 0 = λ e. HasAiling (ram e).blocks in subst P still some) in
    inl (rescue_worked erases a b c y z found t u was (inl still) same goes cost d)
rescue_works erases a b c y z found t u some (inr rose) same goes cost d = inl (inr (subst (HasRisen (erases a.nand)) (sym same) rose.0))
