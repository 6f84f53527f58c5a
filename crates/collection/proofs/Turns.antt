-- A step of the pinned block, and what is pinned after it.
use Rattle.std.proofs.Common.{◌≡◌, ◌≢◌, ℕ, ◌+◌, ◌-◌, ◌*◌, ◌/◌, ◌<◌, ◌≤◌, Bool, true, false, List, [], length, replicate, Option, Some, None, MatchOption, Result, Ok, Err, refl, ap, sym, ◌∙◌, subst, arith}
use Rattle.std.specs.Option.{ForSome}
use Rattle.std.proofs.lemmas.Nat.{div-mul-add}
use Rattle.page_layout.specs.View.{View}
use Rattle.page_layout.specs.declared.geometry.Geometry.{Geometry}
use Rattle.page_layout.specs.declared.record.Record.{Record}
use Rattle.page_layout.specs.Page.{Page, Image}
use Rattle.page_layout.specs.Geometry.{translation_pages, vmax_at}
use Rattle.page_layout.specs.Change.{HoldsNone}
use Rattle.allocation.specs.State.{live_at, is_closed}
use Rattle.collection.specs.declared.engine.Engine.{Engine}
use Rattle.collection.specs.declared.engine.Pinned.{Pinned}
use Rattle.collection.specs.declared.engine.collect_steps.Progress.{Progress}
use Rattle.collection.specs.declared.engine.collect_steps.Progress.TheVariants as step
use Rattle.collection.specs.declared.engine.collect_in_turns.Step.{Step}
use Rattle.collection.specs.declared.engine.collect_in_turns.Step.TheVariants.{Copied, Erased}
use Rattle.collection.specs.declared.fault.EngineFault.{EngineFault}
use Rattle.collection.specs.declared.fault.EngineFault.TheVariants.{ReadOnly, SequenceSpent, Damaged, Bus}
use Rattle.collection.specs.State.{Ram}
use Rattle.collection.specs.Safe.{IsRam, IsIdle, ram, is_shut}
use Rattle.collection.specs.Truth.{IsTrue}
use Rattle.collection.specs.Live.{HoldsNoneIn, IsLivePage, FindsFirst, IsFirstLive}
use Rattle.collection.specs.Results.{Goes, fault_after}
use Rattle.collection.specs.Collect.{waiting, HasBroughtOut, IsBroughtOut, HasWritten, HasErased, Refreshes, StepCosts, FaultCosts, IsStepped}
use Rattle.collection.specs.Whole.{erases_after}
use Rattle.collection.specs.Left.{IsHalfDone, IsCalm, IsFew, HasPassedNoNewest, TouchesNoMore, HasStepped, StepsOn, told, pin_after, pinned_to}
use Rattle.collection.specs.Turns.{Advances, erases_told}
use Rattle.collection.proofs.Gates.{goes_noted, refused_noted}
use Rattle.collection.proofs.Noted.{but_noted, fresh_noted}
use Rattle.collection.proofs.Lowest.{shut_closed, holds_none}
use Rattle.collection.proofs.Lefts.{copy_law, write_law}
use Rattle.collection.proofs.Ledgers.{brings_share, waiting_same}

some_same : {A : Type 0} (x y : A) → Some x ≡ Some y → x ≡ y
some_same x y e = cc

-- ---- a step, and the pin after it

module _ (r b : Ram) (to : Option Pinned) where
  pub refreshes_pinned : Refreshes r b → Refreshes r (pinned_to to b)
  refreshes_pinned f = record { each = f.each }

  pub half_pinned : (q : Pinned) → IsHalfDone b q → IsHalfDone (pinned_to to b) q
  half_pinned q h = record { within = h.within; closed = h.closed; passed = h.passed; on_die = h.on_die }

-- what a step cost is the same of a memory with another pin
module _ (flushing : Bool) (block first : ℕ) (r b : Ram) (to : Option Pinned) where
  copied_pinned : HasBroughtOut flushing r b → HasBroughtOut flushing r (pinned_to to b)
  copied_pinned c = record { stream = c.stream; put = record { failures = c.put.failures; put = c.put.put; next = c.put.next }; key = c.key; row = c.row; sets = c.sets; moved = c.moved; due = c.due }

  pub page_pinned : (p : Page) → IsBroughtOut r b p → IsBroughtOut r (pinned_to to b) p
  page_pinned p c = record { its = c.its; last = record { its = c.last.its; sound = c.last.sound; of_kind = c.last.of_kind; of_number = c.last.of_number; last = c.last.last }; row = c.row; sets = c.sets }

  written_pinned : HasWritten flushing r b → HasWritten flushing r (pinned_to to b)
  written_pinned c = record { put = record { failures = c.put.failures; put = c.put.put; next = c.put.next }; page = c.page; lowest = c.lowest; of_moved = c.of_moved; mapping = c.mapping; moved = c.moved; many = c.many; due = c.due; owed = c.owed }

  erased_pinned : HasErased block r b → HasErased block r (pinned_to to b)
  erased_pinned c = record { spent = c.spent; failures = c.failures; counts = c.counts; blocks = c.blocks; geometry = c.geometry; directory = c.directory; mapping = c.mapping; next = c.next; fault = c.fault }

  pub cost_pinned : (done : Progress) → StepCosts flushing block first r b (Ok done) → StepCosts flushing block first r (pinned_to to b) (Ok done)
  cost_pinned (step.Copied page) (low, high, c, f) = (low, high, copied_pinned c, f)
  cost_pinned step.WroteBack c = written_pinned c
  cost_pinned step.Erased (none, c) = (none, erased_pinned c)

  pub touches_pinned : (x y : Image) → TouchesNoMore flushing block r x b y → TouchesNoMore flushing block r x (pinned_to to b) y
  touches_pinned x y t = record { pages = t.pages; share = t.share; moves = t.moves }

-- the block is still closed, and no more sectors are moved than pages were passed
pub half_on : (flushing : Bool) (r b : Ram) (p : Pinned) (done : Progress) → IsHalfDone r p → (done ≢ step.Erased → Goes r b) → StepCosts flushing p.block p.first r b (Ok done) → ForSome (pin_after p.block r.geometry.pages done) (IsHalfDone b)
half_on flushing r b p (step.Copied page) h goes (low, high, c, f) = λ q is.
    let g : Goes r b = goes (λ e. (let no : ⊥ = cc in no)) in
    let next : Pinned = record { block = p.block; first = page + 1 } in
    let half : IsHalfDone b next = record {
      within = rw g.geometry h.within;
      closed = (g.shut p.block h.within (shut_closed r.blocks p.block h.closed)).closed ∙ h.closed;
      passed = (let m = c.moved in let q = h.passed in let may = waiting_same r b g.geometry (brings_share c.key c.row r.mapping b.mapping c.sets) in omega arith);
      on_die = rw g.geometry (omega (arith, high));
    } in
    subst (IsHalfDone b) (some_same next q is) half
half_on flushing r b p step.WroteBack h goes c = λ q is.
    let g : Goes r b = goes (λ e. (let no : ⊥ = cc in no)) in
    let next : Pinned = record { block = p.block; first = r.geometry.pages } in
    let half : IsHalfDone b next = record {
      within = rw g.geometry h.within;
      closed = (g.shut p.block h.within (shut_closed r.blocks p.block h.closed)).closed ∙ h.closed;
      passed = (let m = c.moved in let q = h.passed in let d = h.on_die in let may = waiting_same r b g.geometry (ap (λ m. m.share) c.mapping) in omega arith);
      on_die = rw g.geometry (omega arith);
    } in
    subst (IsHalfDone b) (some_same next q is) half
half_on flushing r b p step.Erased h goes c = λ q is. (let no : ⊥ = cc in absurd no)

-- ---- the page that was found is brought out

pub touched_from : (flushing : Bool) (r r1 r2 : Ram) (x x1 x2 : Image) (block first page row : ℕ) (found : Record) (body : List ℕ)
    (live : Option (ℕ × Record)) → IsTrue None r x → r1 ≡ r → x1 ≡ x → row ≡ block * r1.geometry.pages + page → page < r.geometry.pages
    → FindsFirst r.geometry.pages block first body x live → live ≡ Some (page, found)
    → is_closed r.blocks block ≡ true
    → (IsTrue None r1 x1 → is_shut r1.blocks (row / r1.geometry.pages) ≡ true → IsLivePage row body found x1 → TouchesNoMore flushing (row / r1.geometry.pages) r1 x1 r2 x2)
    → TouchesNoMore flushing block r x r2 x2
touched_from flushing r r1 r2 x x1 x2 block first page row found body live w same still at lt finds is closed call =
    let f : IsFirstLive r.geometry.pages block first page body found x = (let P : Option (ℕ × Record) → Type 0 = λ o. FindsFirst r.geometry.pages block first body x o in subst P is finds) in
    let here : row ≡ block * r.geometry.pages + page = at ∙ ap (λ (z : Ram). block * z.geometry.pages + page) same in
    let of_block : row / r1.geometry.pages ≡ block = ap (λ (z : Ram). row / z.geometry.pages) same ∙ (ap (λ k. k / r.geometry.pages) here ∙ div-mul-add block r.geometry.pages page lt) in
    let live_page : IsLivePage row body found x = (let P : ℕ → Type 0 = λ q. IsLivePage q body found x in subst P (sym here) f.live) in
    let here_shut : is_shut r.blocks (row / r1.geometry.pages) ≡ true = ap (is_shut r.blocks) of_block ∙ shut_closed r.blocks block closed in
    let P : Ram → Type 0 = λ z. is_shut z.blocks (row / r1.geometry.pages) ≡ true in
    let touched : TouchesNoMore flushing (row / r1.geometry.pages) r1 x1 r2 x2 = call (rw (same, still) w) (subst P (sym same) here_shut) (rw still live_page) in
    let P : ℕ → Type 0 = λ k. TouchesNoMore flushing k r1 x1 r2 x2 in
    let Q : Image → Type 0 = λ i. TouchesNoMore flushing block r1 i r2 x2 in
    let R : Ram → Type 0 = λ z. TouchesNoMore flushing block z x r2 x2 in
    subst R same (subst Q still (subst P of_block touched))

-- ---- how a step is told

told_erased : (done : Progress) → told done ≡ Erased → done ≡ step.Erased
told_erased (step.Copied page) is = (let no : ⊥ = cc in absurd no)
told_erased step.WroteBack is = (let no : ⊥ = cc in absurd no)
told_erased step.Erased is = refl

-- an answer of a step
abbrev pub ok_as : (A : Type 0) → A → Result A EngineFault
ok_as A x = Ok x

pub ok_told : (done : Progress) → ok_as Progress done ≡ ok_as Progress step.Erased → ok_as Step (told done) ≡ ok_as Step Erased
ok_told done is = (let same : done ≡ step.Erased = cc in ap (λ d. ok_as Step (told d)) same)

pub ok_erased : (done : Progress) → ok_as Step (told done) ≡ ok_as Step Erased → ok_as Progress done ≡ ok_as Progress step.Erased
ok_erased done is = (let same : told done ≡ Erased = cc in ap (ok_as Progress) (told_erased done same))

pub told_erases : (done : Progress) (count : ℕ) → erases_after done count ≡ erases_told (told done) count
told_erases (step.Copied page) count = refl
told_erases step.WroteBack count = refl
told_erases step.Erased count = refl

-- a copy tells its page by what is pinned then
pub copied_told : (pin : Option Pinned) (block pages first before after : ℕ) (done : Progress) → pin ≡ pin_after block pages done
    → ((page : ℕ) → ok_as Progress done ≡ ok_as Progress (step.Copied page) → after ≤ before + 2 * (page + 1 - first))
    → ok_as Step (told done) ≡ ok_as Step Copied
    → (page : ℕ) × (pin ≡ Some (record { block = block; first = page + 1 })) × (after ≤ before + 2 * (page + 1 - first))
copied_told pin block pages first before after (step.Copied page) next reads is = (page, next, reads page refl)
copied_told pin block pages first before after step.WroteBack next reads is = (let no : ⊥ = cc in absurd no)
copied_told pin block pages first before after step.Erased next reads is = (let no : ⊥ = cc in absurd no)

pub brought_told : (P : Type 0) (done : Progress) → ((page : ℕ) → ok_as Progress done ≡ ok_as Progress (step.Copied page) → P) → ok_as Step (told done) ≡ ok_as Step Copied → P
brought_told P (step.Copied page) brought is = brought page refl
brought_told P step.WroteBack brought is = (let no : ⊥ = cc in absurd no)
brought_told P step.Erased brought is = (let no : ⊥ = cc in absurd no)

-- ---- what a step leaves

none_erased : (block pages : ℕ) (done : Progress) → pin_after block pages done ≡ None → done ≡ step.Erased
none_erased block pages (step.Copied page) is = (let no : ⊥ = cc in absurd no)
none_erased block pages step.WroteBack is = (let no : ⊥ = cc in absurd no)
none_erased block pages step.Erased is = refl

pub calm_on : (r b : Ram) (block pages : ℕ) (done : Progress) → b.geometry ≡ r.geometry → b.pin.marks ≡ replicate (translation_pages r.geometry) false → b.pin.block ≡ pin_after block pages done → ForSome b.pin.block (IsHalfDone b) → (done ≡ step.Erased → IsIdle b) → IsCalm b
calm_on r b block pages done same unmarked next half idle = record {
  unmarked = unmarked ∙ ap (λ g. replicate (translation_pages g) false) (sym same);
  pinned = by b.pin.block refl;
}
  where
    by : (o : Option Pinned) → b.pin.block ≡ o → MatchOption o (length b.mapping.moved ≤ waiting b) (IsHalfDone b)
    by None is = (idle (none_erased block pages done (sym next ∙ is))).moved
    by (Some q) is = half q is

pub stepped_on : (flushing : Bool) (p : Pinned) (r b : Ram) (done : Progress) → StepCosts flushing p.block p.first r b (Ok done) → b.pin.block ≡ pin_after p.block r.geometry.pages done → HasStepped flushing p r b (told done)
stepped_on flushing p r b (step.Copied page) (low, high, c, f) next = record { cost = c; next = (page, low, high, next) }
stepped_on flushing p r b step.WroteBack c next = record { cost = c; next = next }
stepped_on flushing p r b step.Erased (none, c) next = record { cost = c; next = next }

few_on : (r b : Ram) (p q : Pinned) → q.block ≡ p.block → b.geometry ≡ r.geometry → b.mapping.share ≡ r.mapping.share
    → live_at b.blocks p.block ≤ live_at r.blocks p.block → live_at b.blocks p.block + length b.mapping.moved ≤ live_at r.blocks p.block + length r.mapping.moved
    → IsFew 0 r p → IsFew 0 b q
few_on r b p q at same share fewer sum few =
    let small = few.small in
    let moved = few.moved in
    let size : vmax_at b.geometry b.mapping.share ≡ vmax_at r.geometry r.mapping.share = rw (same, share) refl in
    let may = waiting_same r b same share in
    let live : live_at b.blocks q.block ≡ live_at b.blocks p.block = ap (live_at b.blocks) at in
    record { within = (let lt = few.within in rw (same, at) lt); small = omega arith; moved = omega arith }

-- a block without newest pages has none among its first
none_in : (pages block : ℕ) (image : Image) → HoldsNone pages block image → HoldsNoneIn pages block 0 pages image
none_in pages block image h = record { none = λ p ge lt key is. h.none key (block * pages + p) is (div-mul-add block pages p lt) }

pub steps_on : (flushing : Bool) (p : Pinned) (r b : Ram) (x y : Image) (done : Progress) → IsRam b → IsHalfDone r p → b.geometry ≡ r.geometry
    → StepCosts flushing p.block p.first r b (Ok done) → b.pin.block ≡ pin_after p.block r.geometry.pages done → IsStepped p.block r x b y done
    → ((page : ℕ) → done ≡ step.Copied page → TouchesNoMore flushing p.block r x b y) → StepsOn flushing p r x b y (told done)
steps_on flushing p r b x y (step.Copied page) s' h same (low, high, c, f) next s touched =
    let to : Pinned = record { block = p.block; first = page + 1 } in
    let passed : HasPassedNoNewest b y to = (let P : Geometry → Type 0 = λ g. HoldsNoneIn g.pages p.block 0 (page + 1) y in subst P (sym same) s.none) in
    let fewer = s.fewer in
    let moved = c.moved in
    record {
      same = s.same;
      fewer = λ is. fewer;
      none = λ ne. absurd (ne refl);
      passed = λ q is. subst (HasPassedNoNewest b y) (some_same to q (sym next ∙ is)) passed;
      left = λ ne. copy_law flushing r b x y p.block h.within h.closed same s.same.leaves (touched page refl) fewer;
      few = λ few q is. subst (IsFew 0 b) (some_same to q (sym next ∙ is)) (few_on r b p to refl same (touched page refl).share (omega arith) (omega arith) few);
    }
steps_on flushing p r b x y step.WroteBack s' h same c next s touched =
    let to : Pinned = record { block = p.block; first = r.geometry.pages } in
    let within : p.block < b.geometry.blocks = (let e = h.within in rw same e) in
    let all : HoldsNoneIn b.geometry.pages p.block 0 b.geometry.pages y = none_in b.geometry.pages p.block y (holds_none b y p.block s' s.same.truth within s.none) in
    let passed : HasPassedNoNewest b y to = (let P : Geometry → Type 0 = λ g. HoldsNoneIn b.geometry.pages p.block 0 g.pages y in subst P same all) in
    let none = s.none in
    let moved = c.moved in
    record {
      same = s.same;
      fewer = λ is. (let no : ⊥ = cc in absurd no);
      none = λ ne. none;
      passed = λ q is. subst (HasPassedNoNewest b y) (some_same to q (sym next ∙ is)) passed;
      left = λ ne. write_law flushing r b x y p.block s' s.same.truth h.within same none c;
      few = λ few q is. subst (IsFew 0 b) (some_same to q (sym next ∙ is)) (few_on r b p to refl same (ap (λ m. m.share) c.mapping) (omega arith) (omega arith) few);
    }
steps_on flushing p r b x y step.Erased s' h same c next s touched = record {
  same = s.same;
  fewer = λ is. (let no : ⊥ = cc in absurd no);
  none = λ ne. s.none;
  passed = λ q is. (let e : None ≡ Some q = sym next ∙ is in let no : ⊥ = cc in absurd no);
  left = λ ne. absurd (ne refl);
  few = λ few q is. (let e : None ≡ Some q = sym next ∙ is in let no : ⊥ = cc in absurd no);
}

-- what holds of the block that is pinned
pub of_pinned : (P : Pinned → Type 0) (o : Option Pinned) (p : Pinned) → o ≡ Some p → P p → ForSome o P
of_pinned P o p is h = λ q at. subst P (some_same p q (sym is ∙ at)) h

-- ---- a fault of it is noted

fault_noted : (a b : Ram) (fault : Option EngineFault) (f : EngineFault) → FaultCosts a b f → FaultCosts a (record b { fault = fault }) f
fault_noted a b fault ReadOnly k = record { stream = k.stream; out = record { failures = k.out.failures; found = k.out.found; none = k.out.none; next = k.out.next; sequence = k.out.sequence } }
fault_noted a b fault SequenceSpent k = record { stream = k.stream; spent = record { tried = record { failures = k.spent.tried.failures; tries = k.spent.tried.tries; next = k.spent.tried.next }; last = k.spent.last } }
fault_noted a b fault Damaged k = k
fault_noted a b fault Bus k = tt

module _ {N : Type 0} {view : View N} (flushing : Bool) (p : Pinned) where
  pub advances_noted : (a b : Engine N) (result : Result Step EngineFault) → Advances view flushing p a b result → Advances view flushing p a (record b { fault = fault_after b.fault result }) result
  advances_noted a b (Ok done) k = k
  advances_noted a b (Err f) k = record {
    goes = but_noted (Some f) p.block (ram a) (ram b) k.goes;
    goes_still = λ ne. goes_noted (Some f) (ram a) (ram b) (k.goes_still ne);
    keys = k.keys;
    refreshes = λ on. fresh_noted (Some f) (ram a) (ram b) (k.refreshes on);
    cost = fault_noted (ram a) (ram b) (Some f) f k.cost;
    brought = λ is. (let no : ⊥ = cc in absurd no);
    stays = k.stays;
    half_done = tt;
    calm = λ off calm. tt;
    idle = λ is. (let no : ⊥ = cc in absurd no);
    released = λ is. (let no : ⊥ = cc in absurd no);
    few_reads = k.few_reads;
    copied_reads = λ is. (let no : ⊥ = cc in absurd no);
    erases_are = tt;
    truth = λ known w passed. refused_noted (Some f) (ram a) (ram b) _ _ f (k.truth known w passed);
  }
