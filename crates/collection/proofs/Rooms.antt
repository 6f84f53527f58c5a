-- Collections one after another, until there is room.
use Rattle.std.proofs.Common.{◌≡◌, ◌≢◌, ◌⊎◌, inl, inr, ℕ, zero, suc, ◌&&◌, ◌==◌, length, ◌+◌, ◌/◌, ◌<◌, ◌≤◌, ◌^◌, Bool, true, false, not, ◌||◌, List, [], ◌∷◌, count_by, Option}
use Rattle.std.proofs.Common.{Some, None, Result, Ok, Err, MatchOption, refl, ap, sym, ◌∙◌, subst, arith}
use Rattle.std.proofs.lemmas.Bool.{cases_lt, eqb-true}
use Rattle.std.specs.Prelude.{IfErr, MatchResult}
use Rattle.page_layout.specs.declared.geometry.Geometry.{Geometry}
use Rattle.page_layout.specs.declared.record.Key.{Key}
use Rattle.page_layout.specs.Geometry.{need_at, vmax_at, flush_blocks_at}
use Rattle.page_layout.specs.Page.{Image}
use Rattle.page_layout.specs.Counter.{counted, HasRisen}
use Rattle.page_layout.specs.Array.{marks, array_of}
use Rattle.page_layout.specs.Live.{live, keys, is_in_block}
use Rattle.page_layout.specs.Newest.{newest}
use Rattle.page_layout.proofs.CountLemmas.{bit, count_by-cons, count_by_none, count_in_range}
use Rattle.bad_blocks.specs.Table.{is_good, is_good_at, good_count}
use Rattle.page_layout.specs.declared.record.Record.{Record}
use Rattle.budget.specs.Counts.{FitsGoodBlocks}
use Rattle.budget.specs.Spending.{Collected, IsFunded}
use Rattle.budget.proofs.RoomLemmas.{collected_funded, never_stuck, free_at}
use Rattle.allocation.specs.State.{State, live_at, pointer_at, is_open_block, free_count, is_free, is_closed}
use Rattle.allocation.proofs.TallyLemmas.{good_by_number}
use Rattle.page_layout.specs.Count.{blocks_that}
use Rattle.std.specs.List.{range_with_len}
use Rattle.allocation.specs.Step.{IsVictim}
use Rattle.allocation.specs.Counts.{counts_of, IsLiveExact}
use Rattle.allocation.specs.Laws.{IsLeftButLive}
use Rattle.allocation.proofs.SafeLemmas.{closed_parts}
use Rattle.collection.specs.declared.fault.EngineFault.{EngineFault}
use Rattle.collection.specs.declared.fault.EngineFault.TheVariants.{ReadOnly, SequenceSpent, Damaged, Bus}
use Rattle.collection.specs.State.{Ram}
use Rattle.collection.specs.Safe.{IsRam, is_shut}
use Rattle.collection.specs.Pages.{newest_row}
use Rattle.collection.specs.Truth.{IsTrue}
use Rattle.collection.specs.Results.{IsSame, LeavesNewest, Refused}
use Rattle.page_layout.specs.Sound.{version_for}
use Rattle.collection.specs.Collect.{GoesOn, GoesBut, CollectCosts, CollectCounts, HasNoneWorth, RoomTells, IsRearranged, RoomRefused}
use Rattle.collection.specs.declared.engine.Engine.{Engine}
use Rattle.collection.specs.Acts.{RestsOrErases}
use Rattle.collection.specs.Collect.{HasRegained, LacksBlocks, RoomCounts}
use Rattle.collection.specs.Room.{IsMade, IsWorth, IsFundedOn}
use Rattle.collection.proofs.Blocks.{left_then}
use Rattle.collection.proofs.Copies.{exact_at}
use Rattle.collection.proofs.Ledgers.{fit}

-- ---- the next victim

pub none_worth_none : (r : Ram) → IsRam r → ((b : ℕ) → b < r.blocks.geometry.blocks → is_closed r.blocks b ≡ false) → HasNoneWorth r
none_worth_none r s none = record { none = λ b lt closed. (let f : is_closed r.blocks b ≡ false = none b (rw s.blocks_of lt) in let no : true ≡ false = sym closed ∙ f in let never : ⊥ = cc in absurd never) }

pub none_worth_large : (r : Ram) (v : ℕ) → IsRam r → IsVictim r.blocks r.blocks.geometry.blocks v → vmax_at r.geometry r.mapping.share < live_at r.blocks v → HasNoneWorth r
none_worth_large r v s w large = record { none = λ b lt closed. (let l = w.live_least b (rw s.blocks_of lt) closed in omega arith) }

-- a good block is free, open or closed
part_of : (x z d m : Bool) → bit x ≤ bit (x && z) + bit d + bit m + bit (x && not z && not (d || m))
part_of false z d m = omega arith
part_of true true d m = omega arith
part_of true false true m = omega arith
part_of true false false true = omega arith
part_of true false false false = omega arith

parts_at : (s : State) (b : ℕ) → bit (is_good_at s.table b) ≤ bit (is_free s b) + bit (is_open_block s.data_open b) + bit (is_open_block s.meta_open b) + bit (is_closed s b)
parts_at s b = part_of (is_good_at s.table b) (pointer_at s b == 0) (is_open_block s.data_open b) (is_open_block s.meta_open b)

count_four : (good p q r t : ℕ → Bool) (a n : ℕ) → ((b : ℕ) → bit (good b) ≤ bit (p b) + bit (q b) + bit (r b) + bit (t b))
    → count_by good (range_with_len a n) ≤ count_by p (range_with_len a n) + count_by q (range_with_len a n) + count_by r (range_with_len a n) +
    count_by t (range_with_len a n)
count_four good p q r t a zero le = omega arith
count_four good p q r t a (suc n) le =
    omega (
      arith,
      count_by-cons good a (range_with_len (a + 1) n),
      count_by-cons p a (range_with_len (a + 1) n),
      count_by-cons q a
          (range_with_len (a + 1) n),
      count_by-cons r a (range_with_len (a + 1) n),
      count_by-cons t a (range_with_len (a + 1) n),
      le a,
      count_four
          good p q r t (a + 1) n le,
    )

held_most : (o : Option ℕ) (n : ℕ) → count_by (is_open_block o) (range_with_len 0 n) ≤ 1
held_most None n = omega (arith, count_by_none (is_open_block None) (range_with_len 0 n) (λ b. refl))
held_most (Some b) n = count_in_range b 0 n

good_most : (s : State) → length s.table ≡ s.geometry.blocks → good_count s.table ≤ free_count s + (count_by (is_open_block s.data_open) (range_with_len 0 s.geometry.blocks) + count_by (is_open_block s.meta_open) (range_with_len 0 s.geometry.blocks)) + blocks_that s.geometry (is_closed s)
good_most s whole =
    let four = count_four (is_good_at s.table) (is_free s) (is_open_block s.data_open) (is_open_block s.meta_open) (is_closed s) 0 s.geometry.blocks (parts_at s) in
    let all : count_by (is_good_at s.table) (range_with_len 0 s.geometry.blocks) ≡ good_count s.table = ap (λ n. count_by (is_good_at s.table) (range_with_len 0 n)) (sym whole) ∙ good_by_number s.table in
    omega (arith, four, all)

none_enough : (many : ℕ) (r : Ram) → IsRam r → HasNoneWorth r → (ms : List (Option Record)) → IsLiveExact r.blocks ms
    → need_at r.geometry r.mapping.share + many ≤ good_count r.blocks.table + (9 + flush_blocks_at r.geometry r.mapping.share) → many ≤ free_count r.blocks
none_enough many r safe none ms exact enough =
    let s : State = r.blocks in
    let asked : need_at s.geometry r.mapping.share + many ≤ good_count s.table + (9 + flush_blocks_at s.geometry r.mapping.share) = rw safe.blocks_of enough in
    free_at s.geometry r.mapping.share ms (is_closed s) many (free_count s)
    (count_by (is_open_block s.data_open) (range_with_len 0 s.geometry.blocks) + count_by (is_open_block s.meta_open) (range_with_len 0 s.geometry.blocks))
    (omega (arith, good_most s safe.blocks.table_whole, asked))
    (omega (arith, held_most s.data_open s.geometry.blocks, held_most s.meta_open s.geometry.blocks)) (λ b lt closed.
    let below : b < r.geometry.blocks = (let P : Geometry → Type 0 = λ g. b < g.blocks in subst P safe.blocks_of lt) in
    let large : vmax_at s.geometry r.mapping.share < live_at s b = (let P : Geometry → Type 0 = λ g. vmax_at g r.mapping.share < live_at s b in subst P (sym safe.blocks_of) (none.none b below closed)) in
    omega (arith, large, exact b lt))

pub made_free : (many : ℕ) (r : Ram) → many ≤ free_count r.blocks → IsMade many r
made_free many r free = record { room = inl free; enough = λ ms exact asked. free }

pub made_none_worth : (many : ℕ) (r : Ram) → IsRam r → HasNoneWorth r → IsMade many r
made_none_worth many r s none = record { room = inr none; enough = none_enough many r s none }

-- ---- blocks

pub bad_shut : (s : State) (k : ℕ) → is_good_at s.table k ≡ false → is_shut s k ≡ true
bad_shut s k bad = ap (λ b. not b || is_closed s k) bad

bad_not_closed : (s : State) (k block : ℕ) → is_good_at s.table k ≡ false → is_closed s block ≡ true → k ≢ block
bad_not_closed s k block bad closed same = (let g : is_good_at s.table k ≡ true = ap (is_good_at s.table) same ∙ (closed_parts s block closed).good in let no : true ≡ false = sym g ∙ bad in let never : ⊥ = cc in never)

pub on_same : (r : Ram) → GoesOn r r
on_same r = record { geometry = refl; next = omega arith; bad = λ b lt bad. record { row = refl; pointer = refl; closed = refl } }

-- one more block is erased
pub risen_more : (before now after : ℕ) → (now ≡ before) ⊎ HasRisen before now → after ≡ counted now → HasRisen before after
risen_more before now after (inl still) is = elim (cases_lt (before + 1) (2 ^ 64)) [
  | inl small ↦ inl (omega (arith, still, is))
  | inr top ↦ inr (omega (arith, still, is))
]
risen_more before now after (inr (inl rose)) is = elim (cases_lt (now + 1) (2 ^ 64)) [
  | inl small ↦ inl (omega (arith, is))
  | inr top ↦ inr (omega (arith, is))
]
risen_more before now after (inr (inr top)) is = inr (omega (arith, top, is))

pub erased_more : {N : Type 0} (erases : N → ℕ) (a b c : Engine N) → RestsOrErases erases a b → erases c.nand ≡ counted (erases b.nand) → c.pinned ≡ None → RestsOrErases erases a c
erased_more erases a b c (inl still) is none = inr (risen_more (erases a.nand) (erases b.nand) (erases c.nand) (inl (ap (λ e. erases e.nand) still)) is, none)
erased_more erases a b c (inr r) is none = inr (risen_more (erases a.nand) (erases b.nand) (erases c.nand) (inr r.0) is, none)

pub still_bad : (a b : State) (k : ℕ) → IsLeftButLive a b k → is_good_at a.table k ≡ false → is_good_at b.table k ≡ false
still_bad a b k l bad = ap is_good l.row ∙ bad

pub on_then : (block : ℕ) (a b c : Ram) → GoesOn a b → GoesBut block b c → is_closed b.blocks block ≡ true → GoesOn a c
on_then block a b c x y closed = record {
  geometry = y.geometry ∙ x.geometry;
  next = omega (arith, x.next, y.next);
  bad = λ k lt bad.
      let first : IsLeftButLive a.blocks b.blocks k = x.bad k lt bad in
      let now : is_good_at b.blocks.table k ≡ false = still_bad a.blocks b.blocks k first bad in
      left_then a.blocks b.blocks c.blocks k first (y.shut k (rw x.geometry lt) (bad_not_closed b.blocks k block now closed) (bad_shut b.blocks k now));
}

-- ---- newest pages in bad blocks

pub count_less : {X : Type 0} (p q : X → Bool) (ks : List X) → ((x : X) → q x ≡ true → p x ≡ true) → count_by q ks ≤ count_by p ks
count_less p q [] imply = omega arith
count_less p q (k ∷ ks) imply = (let rest = count_less p q ks imply in omega (arith, count_by-cons p k ks, count_by-cons q k ks, bits (q k) (p k) (imply k)))
  where
    bits : (x y : Bool) → (x ≡ true → y ≡ true) → bit x ≤ bit y
    bits false y i = omega arith
    bits true y i = (let e : bit y ≡ 1 = ap bit (i refl) in omega arith)

live_fewer : (g : Geometry) (x y : Image) (k : ℕ) → ((key : Key) → is_in_block g.pages k (newest_row y key) ≡ true → is_in_block g.pages k (newest_row x key) ≡ true) → live g (marks y) k ≤ live g (marks x) k
unfolding live
live_fewer g x y k imply = count_less (λ key. is_in_block g.pages k (newest (marks x) key)) (λ key. is_in_block g.pages k (newest (marks y) key)) (keys g) imply

pub in_by : (pages k : ℕ) (o : Option ℕ) → is_in_block pages k o ≡ true → (row : ℕ) × (o ≡ Some row) × (row / pages ≡ k)
in_by pages k None is = (let no : ⊥ = cc in absurd no)
in_by pages k (Some row) is = (row, refl, eqb-true (row / pages) k is)

pub shut_fewer : (r r' : Ram) (x y : Image) (k : ℕ) → IsRam r → IsRam r' → r'.geometry ≡ r.geometry → IsTrue None r x → IsTrue None r' y → LeavesNewest r x y → k < r.geometry.blocks → is_shut r.blocks k ≡ true → live_at r'.blocks k ≤ live_at r.blocks k
shut_fewer r r' x y k s s' same w w' l lt shut =
    let fewer : live r.geometry (marks y) k ≤ live r.geometry (marks x) k = live_fewer r.geometry x y k (λ key is.
    let at = in_by r.geometry.pages k (newest_row y key) is in
    elim (l.each key) [
      | inl stayed ↦ ap (is_in_block r.geometry.pages k) (sym stayed) ∙ is
      | inr out ↦
          let unshut : is_shut r.blocks k ≡ false = ap (is_shut r.blocks) (sym at.2) ∙ out at.0 at.1 in
          let no : true ≡ false = sym shut ∙ unshut in
          let never : ⊥ = cc in absurd never
    ]) in
    let before = exact_at r x k s w lt in
    let after : live_at r'.blocks k ≡ live r.geometry (marks y) k = (let P : Geometry → Type 0 = λ g. (k < g.blocks → live_at r'.blocks k ≡ live g (marks y) k) in subst P same (exact_at r' y k s' w') lt) in
    omega (arith, before, after, fewer)

pub rearranged_same : (r : Ram) (x : Image) → IsTrue None r x → IsRearranged r x r x
rearranged_same r x w = record { truth = w; array = refl; bad = λ b lt bad. omega arith; versions = λ two key row at. at }

pub rearranged_then : (a b c : Ram) (x y z : Image) → IsRam b → IsRam c → GoesOn a b → c.geometry ≡ b.geometry → IsRearranged a x b y → IsSame b y c z → IsRearranged a x c z
rearranged_then a b c x y z s s' on same k e = record {
  truth = e.truth;
  array = (let P : Geometry → Type 0 = λ g. array_of g z ≡ array_of g y in subst P on.geometry e.array) ∙ k.array;
  bad = λ i lt bad.
      let left : IsLeftButLive a.blocks b.blocks i = on.bad i lt bad in
      let fewer : live_at c.blocks i ≤ live_at b.blocks i = shut_fewer b c y z i s s' same k.truth e.truth e.leaves (rw on.geometry lt) (bad_shut b.blocks i (still_bad a.blocks b.blocks i left bad)) in
      let before = k.bad i lt bad in
      omega arith;
  versions = λ two key row at. k.versions two key row (e.leaves.versions (ap version_for on.geometry ∙ two) key row at);
}

pub room_refused : (a b c : Ram) (x y z : Image) (fault : EngineFault) → IsRam b → IsRam c → GoesOn a b → c.geometry ≡ b.geometry → IsRearranged a x b y → Refused b y c z fault → RoomRefused a x c z fault
room_refused a b c x y z ReadOnly s s' on same k e = rearranged_then a b c x y z s s' on same k e
room_refused a b c x y z SequenceSpent s s' on same k e = rearranged_then a b c x y z s s' on same k e
room_refused a b c x y z Damaged s s' on same k e = e
room_refused a b c x y z Bus s s' on same k e = tt

-- ---- what a refusal tells

pub room_tells : (flushing : Bool) (block : ℕ) (b c : Ram) (fault : EngineFault) → CollectCosts flushing block b c (Err fault) → RoomTells c fault
room_tells flushing block b c ReadOnly cost = (let z = cost.out.out.none.none_free in omega arith)
room_tells flushing block b c SequenceSpent cost = cost.out.spent.last
room_tells flushing block b c Damaged cost = tt
room_tells flushing block b c Bus cost = tt

-- ---- the count

pub funded_same : (failures : ℕ) (r : Ram) → IsFunded r.geometry.pages failures (counts_of r.blocks) → IsFundedOn failures r r
funded_same failures r f = record { its_failures = 0; good = omega arith; funded = (let e : failures + 0 ≡ failures = omega arith in rw e f) }

pub funded_then : (failures : ℕ) (a b c : Ram) → b.geometry ≡ a.geometry → IsFundedOn failures a b → Collected b.geometry.pages (counts_of b.blocks) (counts_of c.blocks) → IsFundedOn failures a c
funded_then failures a b c same f k =
    let k' : Collected a.geometry.pages (counts_of b.blocks) (counts_of c.blocks) = (let P : Geometry → Type 0 = λ g. Collected g.pages (counts_of b.blocks) (counts_of c.blocks) in subst P same k) in
    record {
      its_failures = f.its_failures + k'.failures;
      good = omega (arith, f.good, k'.good);
      funded = (let e : failures + (f.its_failures + k'.failures) ≡ failures + f.its_failures + k'.failures = omega arith in rw e (collected_funded a.geometry.pages (failures + f.its_failures) (counts_of b.blocks) (counts_of c.blocks) f.funded k'));
    }

pub refused_room : (many failures : ℕ) (a b c : Ram) (fault : EngineFault) → IsRam b → b.geometry ≡ a.geometry → IsFundedOn failures a b → CollectCounts b c (Err fault) → RoomCounts many failures a c (Err fault)
refused_room many failures a b c ReadOnly s same f k =
    let fits_b : FitsGoodBlocks a.geometry.pages (counts_of b.blocks) = (let P : Geometry → Type 0 = λ g. FitsGoodBlocks g.pages (counts_of b.blocks) in subst P same (fit b s)) in
    let n = never_stuck a.geometry.pages (failures + f.its_failures) (counts_of b.blocks) (counts_of c.blocks) fits_b f.funded k in
    inr (omega (arith, n, f.good))
refused_room many failures a b c SequenceSpent s same f k = tt
refused_room many failures a b c Damaged s same f k = k
refused_room many failures a b c Bus s same f k = tt

-- with fewer free blocks than are wanted, and none worth collecting, too few are good
pub short_or_free : (many : ℕ) (r : Ram) (x : Image) → IsTrue None r x → IsMade many r → LacksBlocks many r r ⊎ (many ≤ (counts_of r.blocks).free)
short_or_free many r x w room = elim (cases_lt ((counts_of r.blocks).good + (9 + flush_blocks_at r.geometry r.mapping.share)) (need_at r.geometry r.mapping.share + many)) [
  | inl few ↦ inl few
  | inr enough ↦ inr (room.enough (marks x) w.live (omega (arith, enough)))
]

pub regained : (many failures : ℕ) (a b : Ram) (y : Image) → IsTrue None b y → b.geometry ≡ a.geometry → b.mapping.share ≡ a.mapping.share → IsMade many b → IsFundedOn failures a b → HasRegained many failures a b
regained many failures a b y w same share room f = record { its_failures = f.its_failures; good = f.good; funded = f.funded; wanted = (let n = short_or_free many b y w room in rw (← same, ← share) n) }

pub too_few : (many failures : ℕ) (a b : Ram) (y : Image) → 5 ≤ many → IsTrue None b y → b.geometry ≡ a.geometry → b.mapping.share ≡ a.mapping.share → IsMade many b → free_count b.blocks < 5 → RoomCounts many failures a b (Err ReadOnly)
too_few many failures a b y least w same share room few = elim (short_or_free many b y w room) [ inl short ↦ inl (rw (← same, ← share) short) | inr enough ↦ absurd (omega (arith, enough, few, least)) ]

pub made_none : (many : ℕ) (r : Ram) (o : Option ℕ) → MatchOption o (IsMade many r) (IsWorth many r) → o ≡ None → IsMade many r
made_none many r o m is = (let P : Option ℕ → Type 0 = λ x. MatchOption x (IsMade many r) (IsWorth many r) in subst P is m)

pub made_some : (many : ℕ) (r : Ram) (o : Option ℕ) (block : ℕ) → MatchOption o (IsMade many r) (IsWorth many r) → o ≡ Some block → IsWorth many r block
made_some many r o block m is = (let P : Option ℕ → Type 0 = λ x. MatchOption x (IsMade many r) (IsWorth many r) in subst P is m)

pub final_counts : (many failures : ℕ) (a b : Ram) (y : Image) (result : Result (Unit {0}) EngineFault) → 5 ≤ many → IsTrue None b y → b.geometry ≡ a.geometry
    → b.mapping.share ≡ a.mapping.share → IsMade many b → IsFundedOn failures a b → IfErr result (λ fault. (fault ≡ ReadOnly) × (free_count b.blocks < 5))
    → RoomCounts many failures a b result
final_counts many failures a b y (Ok u) least w same share room f few = regained many failures a b y w same share room f
final_counts many failures a b y (Err fault) least w same share room f few = (let P : EngineFault → Type 0 = λ e. RoomCounts many failures a b (Err e) in subst P (sym few.0) (too_few many failures a b y least w same share room few.1))

-- the answer of the last look at the free blocks
pub enough_truth : (a b : Ram) (x y : Image) (result : Result (Unit {0}) EngineFault) → IsRearranged a x b y → IfErr result (λ fault. (fault ≡ ReadOnly) × (free_count b.blocks < 5)) → MatchResult result (λ u. IsRearranged a x b y) (RoomRefused a x b y)
enough_truth a b x y (Ok u) k few = k
enough_truth a b x y (Err fault) k few = (let P : EngineFault → Type 0 = λ f. RoomRefused a x b y f in subst P (sym few.0) k)
