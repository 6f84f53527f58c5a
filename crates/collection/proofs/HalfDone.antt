-- A half-done collection: what is due at first is no more than the sectors that are moved.
use Rattle.std.proofs.Common.{◌≡◌, ◌≢◌, ◌⊎◌, inl, inr, ℕ, ◌+◌, ◌/◌, ◌<◌, ◌≤◌, ◌==◌, ◌&&◌, ◌||◌, Bool, true, false, List, [], ◌∷◌, length, replicate, get_or, count_by, Option, Some, None, refl, ap, sym, ◌∙◌, subst, arith, Result, Ok, Err, MatchOption}
use Rattle.std.specs.Map.{keys_of}
use Rattle.std.proofs.lemmas.Bool.{cases_lt}
use Rattle.std.proofs.lemmas.List.{get_or-replicate, get_or_past, length-replicate}
use Rattle.page_layout.specs.View.{View}
use Rattle.page_layout.specs.Geometry.{translation_pages, vmax_at}
use Rattle.page_layout.specs.Page.{Image}
use Rattle.budget.proofs.CopyLemmas.{touched_pages}
use Rattle.mapping_cache.specs.Mapping.{per_page, moved_in}
use Rattle.allocation.specs.State.{live_at, is_closed, free_count}
use Rattle.allocation.specs.Counts.{counts_of}
use Rattle.budget.specs.Spending.{IsFunded}
use Rattle.page_layout.specs.Flash.{Flash}
use Rattle.page_layout.specs.Recording.{Recording}
use Rattle.page_layout.specs.Counter.{counted}
use Rattle.page_layout.specs.declared.record.Key.{Key}
use Rattle.std.specs.Prelude.{IfErr, OnOk, MatchResult}
use Rattle.collection.specs.declared.engine.Pinned.{Pinned}
use Rattle.collection.specs.declared.engine.collect_steps.Progress.{Progress}
use Rattle.collection.specs.declared.engine.collect_steps.Progress.TheVariants as step_is
use Rattle.collection.specs.declared.engine.collect_in_turns.Step.{Step}
use Rattle.collection.specs.declared.engine.collect_in_turns.Step.TheVariants as steps
use Rattle.collection.specs.declared.fault.EngineFault.{EngineFault}
use Rattle.collection.specs.declared.fault.EngineFault.TheVariants.{ReadOnly, SequenceSpent, Damaged, Bus}
use Rattle.collection.specs.State.{Ram}
use Rattle.collection.specs.declared.engine.Engine.{Engine}
use Rattle.collection.specs.Safe.{IsRam, IsIdle}
use Rattle.collection.specs.Acts.{EngineActs, RestsOrErases}
use Rattle.collection.specs.Log.{Went}
use Rattle.collection.specs.Room.{IsFundedOn, IsWorth, Collects}
use Rattle.collection.specs.Truth.{IsTrue}
use Rattle.collection.specs.Results.{IsSame, Refused}
use Rattle.collection.specs.Collect.{is_over, is_translation_marked, is_due, due_count, waiting, GoesBut, Refreshes, LeadTo, Ledger, CollectCosts, HasCollected, CollectsFew, CollectCounts, IsEmptied, IsRearranged, RoomRefused, RoomTells, RoomCounts}
use Rattle.collection.specs.Whole.{next_of}
use Rattle.collection.specs.Left.{IdleLaw, IsHalfDone, IsCalm, IsFew, HasPassedNoNewest, PinIsFew, pin_after, pinned_to}
use Rattle.std.proofs.lemmas.Bool.{ltb-true}
use Rattle.collection.proofs.Dues.{moved_count, length_keys}
use Rattle.collection.proofs.Lowest.{shut_closed}
use Rattle.collection.proofs.Rooms.{shut_fewer, on_same, erased_more, room_tells, rearranged_same, rearranged_then, room_refused, funded_same, funded_then, refused_room}
use Rattle.collection.proofs.Finds.{none_yet}
use Rattle.collection.proofs.Acts.{acts_but}

-- ---- what is due at first

unmarked_at : (r : Ram) (t : ℕ) → r.pin.marks ≡ replicate (translation_pages r.geometry) false → is_translation_marked r t ≡ false
unmarked_at r t unmarked = ap (λ l. get_or l t false) unmarked ∙ elim (cases_lt t (translation_pages r.geometry)) [
  | inl below ↦ get_or-replicate (translation_pages r.geometry) t false false below
  | inr past ↦ get_or_past (replicate (translation_pages r.geometry) false) t false (omega (arith, length-replicate (translation_pages r.geometry) false))
]

due_moved : (a flushing m : Bool) → m ≡ false → (a || (flushing && m)) ≡ true → a ≡ true
due_moved true flushing m none is = refl
due_moved false true m none is = (let no : ⊥ = cc in absurd no)
due_moved false false m none is = is

-- each translation page that is due has a moved sector of its own
pub due_few : (flushing : Bool) (r : Ram) → r.pin.marks ≡ replicate (translation_pages r.geometry) false → due_count flushing r ≤ length r.mapping.moved
due_few flushing r unmarked =
    let has : (t : ℕ) → t < translation_pages r.geometry → is_due flushing r t ≡ true → 0 < count_by (λ n. n / per_page r.mapping == t) (keys_of r.mapping.moved) = λ t below is.
    let over : is_over r.mapping t ≡ true = due_moved (is_over r.mapping t) flushing (is_translation_marked r t) (unmarked_at r t unmarked) is in
    let some : r.mapping.share < length (moved_in (per_page r.mapping) t r.mapping.moved) = ltb-true _ _ over in
    omega (arith, some, moved_count (per_page r.mapping) t r.mapping.moved) in
    let e = touched_pages (per_page r.mapping) (translation_pages r.geometry) (keys_of r.mapping.moved) (is_due flushing r) has in
    omega (arith, e, length_keys r.mapping.moved)

pub idle_law : IdleLaw
idle_law flushing r idle = record { few = idle.moved; unmarked = λ on t lt. unmarked_at r t idle.unmarked }

-- ---- the pin after a step

pub pin_next : (block pages next : ℕ) (done : Progress) → next_of pages done ≡ Some next → pin_after block pages done ≡ Some (record { block = block; first = next })
pin_next block pages next (step_is.Copied page) is = (let e : page + 1 ≡ next = cc in ap (λ n. Some (record { block = block; first = n })) e)
pin_next block pages next step_is.WroteBack is = (let e : pages ≡ next = cc in ap (λ n. Some (record { block = block; first = n })) e)
pin_next block pages next step_is.Erased is = (let no : ⊥ = cc in absurd no)

pub pin_erased : (block pages : ℕ) (done : Progress) → done ≡ step_is.Erased → pin_after block pages done ≡ None
pin_erased block pages done is = ap (pin_after block pages) is

-- nothing is pinned
pub unpinned_few : (r : Ram) → r.pin.block ≡ None → PinIsFew 0 r
unpinned_few r none = λ p is. (let e : None ≡ Some p = sym none ∙ is in let no : ⊥ = cc in absurd no)

-- ---- at first, and where a step was refused

pub due_first : (flushing : Bool) (r : Ram) (p : Pinned) → r.pin.marks ≡ replicate (translation_pages r.geometry) false → r.mapping.share ≡ 0 → IsHalfDone r p → due_count flushing r ≤ p.first
due_first flushing r p unmarked unshared half = (let few = due_few flushing r unmarked in let passed = half.passed in let may : waiting r ≡ 0 = rw unshared (omega arith) in omega arith)

-- a step that was refused leaves few pages
pub few_left : (old now new : Ram) (p : Pinned) (first : ℕ) (y z : Image) (fault : EngineFault) → IsRam now → IsRam new → now.geometry ≡ old.geometry
    → new.geometry ≡ now.geometry → p.block < old.geometry.blocks → is_closed now.blocks p.block ≡ true
    → new.mapping ≡ now.mapping → now.mapping.share ≡ old.mapping.share → new.pin.block ≡ Some (record { block = p.block; first = first }) → IsFew 0 old p
    → IsTrue None now y → (copies : ℕ) → copies + live_at now.blocks p.block ≤ live_at old.blocks p.block
    → live_at now.blocks p.block + length now.mapping.moved ≤ live_at old.blocks p.block + length old.mapping.moved → Refused now y new z fault
    → fault ≢ Bus → PinIsFew 0 new
few_left old now new p first y z fault s s' same still within closed kept share pin few w copies left fewer refused ne = λ q is.
    let less : live_at new.blocks p.block ≤ live_at now.blocks p.block = refused_fewer now new p.block y z fault s s' still w (rw same within) closed refused ne in
    let e : q ≡ record { block = p.block; first = first } = (let e2 : Some (record { block = p.block; first = first }) ≡ Some q = sym pin ∙ is in let f : record { block = p.block; first = first } ≡ q = cc in sym f) in
    let at : IsFew 0 new (record { block = p.block; first = first }) = record {
      within = rw (still, same) within;
      small = rw (still, same, kept, share) (omega (arith, less, left, few.small));
      moved = rw (still, same, kept, share) (omega (arith, less, fewer, few.moved));
    } in
    subst (IsFew 0 new) (sym e) at
  where
    refused_fewer : (now new : Ram) (block : ℕ) (y z : Image) (fault : EngineFault) → IsRam now → IsRam new → new.geometry ≡ now.geometry
        → IsTrue None now y → block < now.geometry.blocks → is_closed now.blocks block ≡ true → Refused now y new z fault → fault ≢ Bus
        → live_at new.blocks block ≤ live_at now.blocks block
    refused_fewer now new block y z ReadOnly s s' same w lt closed k ne = shut_fewer now new y z block s s' same w k.truth k.leaves lt (shut_closed now.blocks block closed)
    refused_fewer now new block y z SequenceSpent s s' same w lt closed k ne = shut_fewer now new y z block s s' same w k.truth k.leaves lt (shut_closed now.blocks block closed)
    refused_fewer now new block y z Damaged s s' same w lt closed k ne = absurd k
    refused_fewer now new block y z Bus s s' same w lt closed k ne = absurd (ne refl)

-- ---- what is pinned is of no account

module _ (a b : Ram) (to : Option Pinned) where
  pub true_from : (but : Option Key) (x : Image) → IsTrue but a x → IsTrue but (pinned_to to a) x
  true_from but x w = record { whole = w.whole; one = w.one; below = w.below; filled = w.filled; live = w.live; worn = w.worn; tables = w.tables; maps = w.maps }

  pub but_from : (block : ℕ) → GoesBut block (pinned_to to a) b → GoesBut block a b
  but_from block g = record { geometry = g.geometry; next = g.next; shut = g.shut }

  pub refreshes_from : Refreshes (pinned_to to a) b → Refreshes a b
  refreshes_from f = record { each = f.each }

  lead_from : (flushing : Bool) (taken : List Step) (now : Ram) → LeadTo flushing (pinned_to to a) taken now → LeadTo flushing a taken now
  lead_from flushing [] now l = l
  lead_from flushing (steps.Copied ∷ before) now l = (l.0, lead_from flushing before l.0 l.1, l.2)
  lead_from flushing (steps.WroteBack ∷ before) now l = (l.0, lead_from flushing before l.0 l.1, l.2)
  lead_from flushing (steps.Erased ∷ before) now l = l

  abbrev ledger_from : (flushing : Bool) → Ledger flushing (pinned_to to a) b → Ledger flushing a b
  ledger_from flushing l = record {
    steps_taken = l.steps_taken;
    lead = lead_from flushing l.steps_taken b l.lead;
    copies_are = l.copies_are;
    written_are = l.written_are;
    copies = l.copies;
    written = l.written;
    data_pages = l.data_pages;
    meta_pages = l.meta_pages;
    pages = l.pages;
    programmed = record { account = l.programmed.account; next = l.programmed.next };
    account = record { flushed = l.account.flushed; share = l.account.share; moved = l.account.moved; last = l.account.last; once = l.account.once };
  }

  same_from : (x y : Image) → IsSame (pinned_to to a) x b y → IsSame a x b y
  same_from x y k = record { truth = k.truth; array = k.array; leaves = record { each = k.leaves.each; versions = k.leaves.versions } }

  refused_from : (x y : Image) (fault : EngineFault) → Refused (pinned_to to a) x b y fault → Refused a x b y fault
  refused_from x y ReadOnly k = same_from x y k
  refused_from x y SequenceSpent k = same_from x y k
  refused_from x y Damaged k = k
  refused_from x y Bus k = k

  pub emptied_from : (block : ℕ) (x y : Image) (result : Result (Unit {0}) EngineFault) → MatchResult result (λ u. IsEmptied block (pinned_to to a) x b y) (Refused (pinned_to to a) x b y) → MatchResult result (λ u. IsEmptied block a x b y) (Refused a x b y)
  emptied_from block x y (Ok u) k = record { same = same_from x y k.same; none = k.none }
  emptied_from block x y (Err fault) k = refused_from x y fault k

  pub counts_from : (result : Result (Unit {0}) EngineFault) → CollectCounts (pinned_to to a) b result → CollectCounts a b result
  counts_from (Ok u) k = k
  counts_from (Err ReadOnly) k = k
  counts_from (Err SequenceSpent) k = k
  counts_from (Err Damaged) k = k
  counts_from (Err Bus) k = k

  pub went_from : (x y : Flash) (told told' : Option Recording) → Went (pinned_to to a) x told b y told' → Went a x told b y told'
  went_from x y told told' w = record { log = w.log; leads = w.leads; records = w.records; follows = w.follows; next = w.next; wears = w.wears; numbers = w.numbers }

pub cost_from : (a b : Ram) (to : Option Pinned) (flushing : Bool) (block : ℕ) (result : Result (Unit {0}) EngineFault) → CollectCosts flushing block (pinned_to to a) b result → CollectCosts flushing block a b result
cost_from a b to flushing block (Ok u) k = record { mid = k.mid; ledger = ledger_from a k.mid to flushing k.ledger; none = k.none; erase = k.erase }
cost_from a b to flushing block (Err ReadOnly) k = record { mid = k.mid; ledger = ledger_from a k.mid to flushing k.ledger; out = k.out }
cost_from a b to flushing block (Err SequenceSpent) k = record { mid = k.mid; ledger = ledger_from a k.mid to flushing k.ledger; out = k.out }
cost_from a b to flushing block (Err Damaged) k = k
cost_from a b to flushing block (Err Bus) k = k

pub sparing_from : (a b : Ram) (to : Option Pinned) (flushing : Bool) (block : ℕ) (result : Result (Unit {0}) EngineFault) → OnOk result (CollectsFew flushing block (pinned_to to a) b) → OnOk result (CollectsFew flushing block a b)
sparing_from a b to flushing block (Ok u) k =
    let c = k.collected in
    record {
      collected = record { mid = c.mid; ledger = ledger_from a c.mid to flushing c.ledger; none = c.none; erase = c.erase };
      copies = k.copies;
      written = k.written;
    }
sparing_from a b to flushing block (Err fault) k = tt

pub acts_from : {A N : Type 0} {view : View N} (a b : Engine N)
    (to : Option Pinned) (result : Result A EngineFault) → EngineActs view (record a { pinned = to }) b result
    → EngineActs view a b result
acts_from a b to result p = acts_but a b a.page to b.pinned b.marks result result p.safe (λ is. is) (λ ne. ne) p

-- ---- a block is pinned

pub idle_half : (r : Ram) (block : ℕ) (to : Option Pinned) → IsIdle r → block < r.geometry.blocks → is_closed r.blocks block ≡ true → IsHalfDone (pinned_to to r) (record { block = block; first = 0 })
idle_half r block to idle lt closed = record { within = lt; closed = closed; passed = (let few = idle.moved in omega arith); on_die = omega arith }

pub passed_none : (r : Ram) (x : Image) (block : ℕ) → HasPassedNoNewest r x (record { block = block; first = 0 })
passed_none r x block = none_yet r.geometry.pages block x 0

pub idle_few : (r : Ram) (block : ℕ) (to : Option Pinned) → block < r.geometry.blocks → IsIdle r → live_at r.blocks block ≤ vmax_at r.geometry r.mapping.share → IsFew 0 (pinned_to to r) (record { block = block; first = 0 })
idle_few r block to lt idle small = record { within = lt; small = small; moved = (let few = idle.moved in omega arith) }

-- ---- between calls

pub calm_half : (r : Ram) (p : Pinned) → IsCalm r → r.pin.block ≡ Some p → IsHalfDone r p
calm_half r p calm is = (let P : Option Pinned → Type 0 = λ o. MatchOption o (length r.mapping.moved ≤ waiting r) (IsHalfDone r) in subst P is calm.pinned)

pub calm_by : (r : Ram) → IsIdle r → r.pin.block ≡ None → IsCalm r
calm_by r idle none = record { unmarked = idle.unmarked; pinned = (let P : Option Pinned → Type 0 = λ o. MatchOption o (length r.mapping.moved ≤ waiting r) (IsHalfDone r) in subst P (sym none) idle.moved) }

pub calm_ok : (r : Ram) (result : Result (Unit {0}) EngineFault) → OnOk result (IsIdle r) → OnOk result (r.pin.block ≡ None) → OnOk result (IsCalm r)
calm_ok r (Ok u) idle none = calm_by r idle none
calm_ok r (Err fault) idle none = tt

pub unpinned_idle : (r : Ram) → IsCalm r → r.pin.block ≡ None → IsIdle r
unpinned_idle r calm none = record { moved = (let P : Option Pinned → Type 0 = λ o. MatchOption o (length r.mapping.moved ≤ waiting r) (IsHalfDone r) in subst P none calm.pinned); unmarked = calm.unmarked }

pub calm_idle : (many : ℕ) (r : Ram) → IsCalm r → (many ≤ free_count r.blocks) ⊎ (r.pin.block ≡ None) → free_count r.blocks < many → IsIdle r
calm_idle many r calm (inl enough) few = absurd (omega (arith, enough, few))
calm_idle many r calm (inr none) few = unpinned_idle r calm none

-- ---- the pinned block is finished

pub finished_unpinned : (many : ℕ) (r : Ram) (result : Result (Unit {0}) EngineFault) → OnOk result (r.pin.block ≡ None) → OnOk result ((many ≤ free_count r.blocks) ⊎ (r.pin.block ≡ None))
finished_unpinned many r (Ok u) none = inr none
finished_unpinned many r (Err fault) none = tt

pub finished_erases : {N : Type 0} (erases : N → ℕ) (a c : Engine N) (result : Result (Unit {0}) EngineFault) → OnOk result (erases c.nand ≡ counted (erases a.nand)) → OnOk result (c.pinned ≡ None) → OnOk result (RestsOrErases erases a c)
finished_erases erases a c (Ok u) is none = erased_more erases a a c (inl refl) is none
finished_erases erases a c (Err fault) is none = tt

pub finished_tells : (flushing : Bool) (block : ℕ) (a c : Ram) (result : Result (Unit {0}) EngineFault) → CollectCosts flushing block a c result → IfErr result (RoomTells c)
finished_tells flushing block a c (Ok u) cost = tt
finished_tells flushing block a c (Err fault) cost = room_tells flushing block a c fault cost

-- with fewer free blocks than are wanted none is pinned once that one is finished
pub unpinned_now : (many : ℕ) (r : Ram) → (many ≤ free_count r.blocks) ⊎ (r.pin.block ≡ None) → free_count r.blocks < many → r.pin.block ≡ None
unpinned_now many r (inl enough) few = absurd (omega (arith, enough, few))
unpinned_now many r (inr none) few = none

-- one block more
pub collects_more : (many : ℕ) (flushing : Bool) (block : ℕ) (a b c : Ram) → (blocks : List ℕ) × Collects many flushing a blocks b → b.pin.block ≡ None → IsWorth many b block → HasCollected flushing block b c → (blocks : List ℕ) × Collects many flushing a blocks c
collects_more many flushing block a b c before none worth cost =
    (let P : Option Pinned → Type 0 = λ o. MatchOption o (IsWorth many b block) (λ q. q.block ≡ block) in
    (block ∷ before.0, (b, before.1, record { scarce = worth.scarce; which = subst P (sym none) worth }, cost)))

pub finished_collects : (many : ℕ) (flushing : Bool) (p : Pinned) (a c : Ram) (result : Result (Unit {0}) EngineFault) → a.pin.block ≡ Some p → free_count a.blocks < many → CollectCosts flushing p.block a c result → OnOk result ((blocks : List ℕ) × Collects many flushing a blocks c)
finished_collects many flushing p a c (Ok u) is scarce cost = (let P : Option Pinned → Type 0 = λ o. MatchOption o (IsWorth many a p.block) (λ q. q.block ≡ p.block) in (p.block ∷ [], (a, refl, record { scarce = scarce; which = subst P (sym is) refl }, cost)))
finished_collects many flushing p a c (Err fault) is scarce cost = tt

pub finished_truth : (block : ℕ) (a c : Ram) (x z : Image) (result : Result (Unit {0}) EngineFault) → IsRam a → IsRam c → c.geometry ≡ a.geometry
    → IsTrue None a x → MatchResult result (λ u. IsEmptied block a x c z) (Refused a x c z)
    → MatchResult result (λ u. IsRearranged a x c z) (RoomRefused a x c z)
finished_truth block a c x z (Ok u) s s' same w k = rearranged_then a a c x x z s s' (on_same a) same (rearranged_same a x w) k.same
finished_truth block a c x z (Err fault) s s' same w k = room_refused a a c x x z fault s s' (on_same a) same (rearranged_same a x w) k

pub finished_counts : (many failures : ℕ) (a c : Ram) (result : Result (Unit {0}) EngineFault) → IsRam a
    → IsFunded a.geometry.pages failures (counts_of a.blocks) → CollectCounts a c result
    → MatchResult result (λ u. IsFundedOn failures a c) (λ fault. RoomCounts many failures a c (Err fault))
finished_counts many failures a c (Ok u) s funded k = funded_then failures a a c refl (funded_same failures a funded) k
finished_counts many failures a c (Err fault) s funded k = refused_room many failures a a c fault s refl (funded_same failures a funded) k
