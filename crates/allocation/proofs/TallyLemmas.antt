-- How many blocks are free, open and closed.
use Rattle.std.proofs.Common.{◌≡◌, ◌≢◌, ◌⊎◌, inl, inr, ℕ, zero, suc, ◌+◌, ◌-◌, ◌*◌, ◌<◌, ◌≤◌, Bool, true, false, not, cond, ltb, ◌&&◌, ◌||◌, ◌==◌}
use Rattle.std.proofs.Common.{List, [], ◌∷◌, length, get_or, Option, Some, None, refl, ap, sym, ◌∙◌, arith, zero-add, add-zero}
use Rattle.std.proofs.Math.Nat.{add-mul}
use Rattle.std.specs.Prelude.{count_by, nat_lt, MatchOption, IsSomeAnd}
use Rattle.std.specs.Bool.{then_some}
use Rattle.std.specs.List.{range_with_len}
use Rattle.std.proofs.lemmas.Bool.{cases_Bool, eqb-true, eq-eqb, ne_eqb, false≢true, ltb-false}
use Rattle.page_layout.proofs.CountLemmas.{bit, count_by-cons, count_by_none, count_in_range_is}
use Rattle.page_layout.proofs.LiveLemmas.{some_small_block}
use Rattle.page_layout.specs.declared.record.Record.{Record}
use Rattle.page_layout.specs.Geometry.{need, vmax}
use Rattle.page_layout.specs.Live.{live}
use Rattle.bad_blocks.specs.declared.table.TableRow.{TableRow}
use Rattle.bad_blocks.specs.declared.class.Class.TheVariants.{Grown}
use Rattle.std.proofs.lemmas.List.Sums.{sum_by-set}
use Rattle.bad_blocks.specs.Table.{is_good, is_good_at, no_table_row, good_count, wear_at, retired}
use Rattle.allocation.specs.declared.fill.Fill.{Fill}
use Rattle.budget.specs.declared.stream.Stream.{Stream}
use Rattle.budget.specs.declared.stream.Stream.TheVariants.{Data, Meta}
use Rattle.allocation.specs.State.{State, pointer_at, live_at, open_of, is_open_block, is_free, is_closed, free_count, AreBlocksSafe}
use Rattle.allocation.specs.Step.{with_fill, taken, without, open_without, IsNextBlock, IsVictim}
use Rattle.budget.specs.Counts.{TakesOne}
use Rattle.allocation.specs.Counts.{left_in, counts_of, IsLiveExact, TakenRowFailedLaw, FitsLaw}
use Rattle.allocation.proofs.SafeLemmas.{free_parts, taken_free, without_free, not_of_other, fill_same, fill_other, no_fill_after}

-- ---- good blocks are free, open or closed

bits : (x z d m : Bool) → (d ≡ true → (x ≡ true) × (z ≡ false) × (m ≡ false)) → (m ≡ true → (x ≡ true) × (z ≡ false)) → bit x ≡ bit (x && z) + bit d + bit m + bit (x && not z && not (d || m))
bits true true true true h k = absurd (false≢true (sym (h refl).1))
bits true true true false h k = absurd (false≢true (sym (h refl).1))
bits true true false true h k = absurd (false≢true (sym (k refl).1))
bits true true false false h k = omega arith
bits true false true true h k = absurd (false≢true (sym (h refl).2))
bits true false true false h k = omega arith
bits true false false true h k = omega arith
bits true false false false h k = omega arith
bits false true true true h k = absurd (false≢true (h refl).0)
bits false true true false h k = absurd (false≢true (h refl).0)
bits false true false true h k = absurd (false≢true (k refl).0)
bits false true false false h k = omega arith
bits false false true true h k = absurd (false≢true (h refl).0)
bits false false true false h k = absurd (false≢true (h refl).0)
bits false false false true h k = absurd (false≢true (k refl).0)
bits false false false false h k = omega arith

held : (o : Option ℕ) (b : ℕ) → is_open_block o b ≡ true → o ≡ Some b
held None b is = absurd (false≢true is)
held (Some c) b is = ap Some (eqb-true c b is)

holds_is : (o : Option ℕ) (b : ℕ) → o ≡ Some b → is_open_block o b ≡ true
holds_is o b is = ap (λ x. is_open_block x b) is ∙ eq-eqb b b refl

parts_at : (free : ℕ) (s : State) → AreBlocksSafe free s → (b : ℕ) → bit (is_good_at s.table b) ≡ bit (is_free s b) + bit (is_open_block s.data_open b) + bit (is_open_block s.meta_open b) + bit (is_closed s b)
parts_at free s safe b = bits (is_good_at s.table b) (pointer_at s b == 0) (is_open_block s.data_open b) (is_open_block s.meta_open b)
    (λ h. let o = safe.opened Data b (held s.data_open b h) in (o.good, ne_eqb (pointer_at s b) 0 (λ z. omega (arith, o.begun)), elim (cases_Bool (is_open_block s.meta_open b)) [ inl m ↦ absurd (safe.apart b (held s.data_open b h) (held s.meta_open b m)) | inr n ↦ n ]))
    (λ h. let o = safe.opened Meta b (held s.meta_open b h) in (o.good, ne_eqb (pointer_at s b) 0 (λ z. omega (arith, o.begun))))

count_four : (g p q r t : ℕ → Bool) (a n : ℕ) → ((b : ℕ) → bit (g b) ≡ bit (p b) + bit (q b) + bit (r b) + bit (t b))
    → count_by g (range_with_len a n) ≡ count_by p (range_with_len a n) + count_by q (range_with_len a n) + count_by r (range_with_len a n) + count_by
    t (range_with_len a n)
count_four g p q r t a zero same = refl
count_four g p q r t a (suc n) same =
    omega (
      arith,
      count_by-cons g a (range_with_len (a + 1) n),
      count_by-cons p a (range_with_len (a + 1) n),
      count_by-cons q a
          (range_with_len (a + 1) n),
      count_by-cons r a (range_with_len (a + 1) n),
      count_by-cons t a (range_with_len (a + 1) n),
      same a,
      count_four
          g p q r t (a + 1) n same,
    )

-- a count over a list by its places
count_list : (p : TableRow → Bool) (xs : List TableRow) (d : TableRow) (a : ℕ) (f : ℕ → Bool) → ((i : ℕ) → i < length xs → f (a + i) ≡ p (get_or xs i d)) → count_by f (range_with_len a (length xs)) ≡ count_by p xs
count_list p [] d a f same = refl
count_list p (x ∷ xs) d a f same =
    let here : bit (f a) ≡ bit (p x) = ap bit (ap f (sym (add-zero a)) ∙ same 0 (omega arith)) in
    let rest : count_by f (range_with_len (a + 1) (length xs)) ≡ count_by p xs = count_list p xs d (a + 1) f (λ i lt. (let e : a + 1 + i ≡ a + suc i = omega arith in ap f e ∙ same (suc i) (omega arith))) in
    omega (arith, count_by-cons f a (range_with_len (a + 1) (length xs)), count_by-cons p x xs, here, rest)

pub good_by_number : (table : List TableRow) → count_by (is_good_at table) (range_with_len 0 (length table)) ≡ good_count table
good_by_number table = count_list is_good table no_table_row 0 (is_good_at table) (λ i lt. ap (is_good_at table) (zero-add i))

pub closed_count : State → ℕ
closed_count s = count_by (is_closed s) (range_with_len 0 s.geometry.blocks)

pub held_count : State → Option ℕ → ℕ
held_count s o = count_by (is_open_block o) (range_with_len 0 s.geometry.blocks)

pub good_parts : (free : ℕ) (s : State) → AreBlocksSafe free s → good_count s.table ≡ free_count s + held_count s s.data_open + held_count s s.meta_open + closed_count s
unfolding closed_count held_count
good_parts free s safe =
    sym (good_by_number s.table) ∙ ap (λ n. count_by (is_good_at s.table) (range_with_len 0 n)) safe.table_whole
    ∙ count_four (is_good_at s.table) (is_free s) (is_open_block s.data_open) (is_open_block s.meta_open) (is_closed s) 0 s.geometry.blocks (parts_at free s safe)

pub held_none : (s : State) → held_count s None ≡ 0
unfolding held_count
held_none s = count_by_none (is_open_block None) (range_with_len 0 s.geometry.blocks) (λ b. refl)

pub held_one : (s : State) (b : ℕ) → b < s.geometry.blocks → held_count s (Some b) ≡ 1
unfolding held_count
held_one s b lt = count_in_range_is b 0 s.geometry.blocks (omega arith) (omega arith)

-- an open block has fewer erased pages than pages
left_within : (free : ℕ) (s : State) (stream : Stream) (o : Option ℕ) → AreBlocksSafe free s → open_of s stream ≡ o → (left_in s o + 1 ≤ s.geometry.pages) × (left_in s o ≤ held_count s o * s.geometry.pages) × (held_count s o ≤ 1)
left_within free s stream None safe is = let g = s.geometry.limits.page_count.least in (omega arith, omega arith, omega (arith, held_none s))
left_within free s stream (Some b) safe is =
    let o = safe.opened stream b is in
    let one : held_count s (Some b) ≡ 1 = held_one s b o.within in
    (omega (arith, o.begun, o.room), rw one (omega (arith, o.begun)), omega arith)

pub fits : FitsLaw
fits free s safe =
    let d = left_within free s Data s.data_open safe refl in
    let m = left_within free s Meta s.meta_open safe refl in
    let P = s.geometry.pages in
    let h : good_count s.table ≡ free_count s + held_count s s.data_open + held_count s s.meta_open + closed_count s = good_parts free s safe in
    let e : good_count s.table * P ≡ (free_count s + held_count s s.data_open + held_count s s.meta_open + closed_count s) * P = ap (λ (x : ℕ). x * P) h in
    let a : (free_count s + held_count s s.data_open + held_count s s.meta_open + closed_count s) * P ≡ free_count s * P + held_count s s.data_open *
    P + held_count s s.meta_open * P + closed_count s * P = rw (
      add-mul (free_count s + held_count s s.data_open + held_count s s.meta_open) (closed_count s) P,
      add-mul
          (free_count s + held_count s s.data_open) (held_count s s.meta_open) P,
      add-mul (free_count s) (held_count s s.data_open) P,
    ) refl in
    record { data_open = d.0; meta_open = m.0; within = omega (arith, d.1, m.1) }

-- ---- a victim is worth collecting

pub small_victim : (free : ℕ) (s : State) (marks : List (Option Record)) (v : ℕ) → AreBlocksSafe free s → IsLiveExact s marks → need s.geometry ≤ good_count s.table → free_count s ≤ 8 → IsVictim s s.geometry.blocks v → live_at s v ≤ vmax s.geometry
unfolding closed_count
small_victim free s marks v safe exact enough few is =
    let d = left_within free s Data s.data_open safe refl in
    let m = left_within free s Meta s.meta_open safe refl in
    let found = some_small_block s.geometry marks (is_closed s) (omega (arith, good_parts free s safe, d.2, m.2)) in
    let below : found.place < s.geometry.blocks = omega (arith, found.below) in
    omega (arith, is.live_least found.place below found.is_closed, exact found.place below, found.is_small)

pub small_found : (free : ℕ) (s : State) (marks : List (Option Record)) (o : Option ℕ) → AreBlocksSafe free s
    → MatchOption o ((b : ℕ) → b < s.geometry.blocks → is_closed s b ≡ false) (IsVictim s s.geometry.blocks) → IsLiveExact s marks
    → need s.geometry ≤ good_count s.table → free_count s ≤ 8 → IsSomeAnd o (λ v. live_at s v ≤ vmax s.geometry)
unfolding closed_count
small_found free s marks None safe none exact enough few =
    let d = left_within free s Data s.data_open safe refl in
    let m = left_within free s Meta s.meta_open safe refl in
    let found = some_small_block s.geometry marks (is_closed s) (omega (arith, good_parts free s safe, d.2, m.2)) in
    absurd (false≢true (sym (none found.place (omega (arith, found.below))) ∙ found.is_closed))
small_found free s marks (Some v) safe is exact enough few = small_victim free s marks v safe exact enough few is

-- ---- what a row that was taken does to the counts

-- the open block afterwards has one page less over
left_then : (s : State) (b next pages : ℕ) → s.geometry.pages ≡ pages → pointer_at s b ≡ next → next ≤ pages → left_in s (then_some (nat_lt next pages) b) ≡ pages - next
left_then s b next pages p is le = elim (ltb next pages) as (λ v. ltb next pages ≡ v → left_in s (then_some v b) ≡ pages - next) [
  | true ↦ λ lt. omega arith
  | false ↦ λ ge. (let past : pages ≤ next = ltb-false next pages ge in omega arith)
] refl

left_other : (s : State) (b : ℕ) (f : Fill) (o : Option ℕ) → ((c : ℕ) → o ≡ Some c → c ≢ b) → left_in (with_fill b f s) o ≡ left_in s o
left_other s b f None other = refl
left_other s b f (Some c) other = let e : pointer_at (with_fill b f s) c ≡ pointer_at s c = ap (λ (x : Fill). x.pointer) (fill_other s b c f (other c refl)) in omega arith

-- what a stream has left, by where the block came from
record Left (s : State) (stream : Stream) (b : ℕ) : Type 0 where
  pub cases : ((left_in s (open_of s stream) ≡ s.geometry.pages - pointer_at s b) × (0 < pointer_at s b)) ⊎ ((left_in s (open_of s stream) ≡ 0) × (pointer_at s b ≡ 0))

left_before : (free : ℕ) (s : State) (stream : Stream) (b : ℕ) → AreBlocksSafe free s → IsNextBlock s stream b → Left s stream b
left_before free s stream b safe next = record {
  cases = elim next.from [
    | inl o ↦ inl (ap (left_in s) o, (safe.opened stream b o).begun)
    | inr o ↦ inr (ap (left_in s) o.0, (free_parts s b o.1.free).1)
  ];
}

taken_cases : (P p free free' left left' : ℕ) → p < P → ((left ≡ P - p) × (0 < p)) ⊎ ((left ≡ 0) × (p ≡ 0)) → left' ≡ P - (p + 1) → free' + bit (p == 0) ≡ free → ((0 < left) × (free' ≡ free) × (left' + 1 ≡ left)) ⊎ ((left ≡ 0) × (free ≡ free' + 1) × (left' + 1 ≡ P))
taken_cases P p free free' left left' room cases now counted = elim cases [
  | inl c ↦ let no : bit (p == 0) ≡ 0 = ap bit (ne_eqb p 0 (λ z. omega (arith, c.1))) in inl (omega (arith, c.0), omega arith, omega (arith, c.0))
  | inr c ↦ let one : bit (p == 0) ≡ 1 = ap bit (eq-eqb p 0 c.1) in inr (c.0, omega arith, omega (arith, c.1))
]

pub takes_one : (free : ℕ) (s : State) (stream : Stream) (b : ℕ) → AreBlocksSafe free s → IsNextBlock s stream b → TakesOne stream s.geometry.pages (counts_of s) (counts_of (taken stream b s))
takes_one free s Data b safe next =
    let f : Fill = record { pointer = pointer_at s b + 1; live = live_at s b } in
    let now : pointer_at (with_fill b f s) b ≡ pointer_at s b + 1 = ap (λ (x : Fill). x.pointer) (fill_same s b f (omega (arith, safe.fills_whole, next.within))) in
    record {
      good = refl;
      other = left_other s b f s.meta_open (λ c e. not_of_other free s Data Meta b c safe next (λ d. safe.apart d) e);
      cases = taken_cases s.geometry.pages (pointer_at s b) (free_count s) (free_count (with_fill b f s)) (left_in s s.data_open) (left_in (with_fill b f s) (then_some (nat_lt (pointer_at s b + 1) s.geometry.pages) b)) next.room (left_before free s Data b safe next).cases
          (left_then (with_fill b f s) b (pointer_at s b + 1) s.geometry.pages refl now (omega (arith, next.room)))
          (taken_free s b (live_at s b) next.within next.good safe.fills_whole);
    }
takes_one free s Meta b safe next =
    let f : Fill = record { pointer = pointer_at s b + 1; live = live_at s b } in
    let now : pointer_at (with_fill b f s) b ≡ pointer_at s b + 1 = ap (λ (x : Fill). x.pointer) (fill_same s b f (omega (arith, safe.fills_whole, next.within))) in
    record {
      good = refl;
      other = left_other s b f s.data_open (λ c e. not_of_other free s Meta Data b c safe next (λ d m o. safe.apart d o m) e);
      cases = taken_cases s.geometry.pages (pointer_at s b) (free_count s) (free_count (with_fill b f s)) (left_in s s.meta_open) (left_in (with_fill b f s) (then_some (nat_lt (pointer_at s b + 1) s.geometry.pages) b)) next.room (left_before free s Meta b safe next).cases
          (left_then (with_fill b f s) b (pointer_at s b + 1) s.geometry.pages refl now (omega (arith, next.room)))
          (taken_free s b (live_at s b) next.within next.good safe.fills_whole);
    }

-- ---- a block that failed

good_moved : (table : List TableRow) (b : ℕ) → b < length table → is_good_at table b ≡ true → good_count table ≡ good_count (retired table b) + 1
good_moved table b lt good =
    let new : TableRow = record { class = Grown; wear = wear_at table b } in
    let one : bit (is_good_at table b) ≡ 1 = ap bit good in
    omega (arith, sum_by-set (λ (x : TableRow). bit (is_good x)) table b new no_table_row lt)

left_dropped : (s : State) (b : ℕ) (o : Option ℕ) → is_open_block o b ≡ false → left_in (without b s) (open_without o b) ≡ left_in s o
left_dropped s b None is = refl
left_dropped s b (Some c) is = ap (λ (x : Bool). left_in (without b s) (cond x None (Some c))) is

left_gone : (s : State) (b : ℕ) (o : Option ℕ) → is_open_block o b ≡ true → left_in (without b s) (open_without o b) ≡ 0
left_gone s b None is = refl
left_gone s b (Some c) is = ap (λ (x : Bool). left_in (without b s) (cond x None (Some c))) is

pub not_holding : (o : Option ℕ) (b : ℕ) → ((c : ℕ) → o ≡ Some c → c ≢ b) → is_open_block o b ≡ false
not_holding None b other = refl
not_holding (Some c) b other = ne_eqb c b (other c refl)

-- after the next page the stream has the block open or none
gone_next : (s : State) (b next pages : ℕ) → left_in (without b s) (open_without (then_some (nat_lt next pages) b) b) ≡ 0
gone_next s b next pages = elim (ltb next pages) as (λ v. left_in (without b s) (open_without (then_some v b) b) ≡ 0) [
  | true ↦ left_gone s b (Some b) (eq-eqb b b refl)
  | false ↦ refl
]

free_after : (s : State) (b live : ℕ) → b < s.geometry.blocks → length s.table ≡ s.geometry.blocks → length s.fills ≡ s.geometry.blocks
    → free_count (without b (with_fill b (record { pointer = pointer_at s b + 1; live = live }) s)) ≡ free_count
    (with_fill b (record { pointer = pointer_at s b + 1; live = live }) s)
free_after s b live within table fills =
    let f : Fill = record { pointer = pointer_at s b + 1; live = live } in
    let mid : State = with_fill b f s in
    let none : bit (is_free mid b) ≡ 0 = ap bit (no_fill_after s b (pointer_at s b) live within fills) in
    omega (arith, without_free mid b within table)

failed_cases : (left free free' : ℕ) (l P : ℕ) → ((0 < left) × (free' ≡ free) × (l + 1 ≡ left)) ⊎ ((left ≡ 0) × (free ≡ free' + 1) × (l + 1 ≡ P)) → ((0 < left) × (free' ≡ free)) ⊎ ((left ≡ 0) × (free ≡ free' + 1))
failed_cases left free free' l P cases = elim cases [ inl c ↦ inl (c.0, c.1) | inr c ↦ inr (c.0, c.1) ]

pub failed : TakenRowFailedLaw
failed free s Data b safe next =
    let f : Fill = record { pointer = pointer_at s b + 1; live = live_at s b } in
    let mid : State = taken Data b s in
    let ne : (c : ℕ) → s.meta_open ≡ Some c → c ≢ b = λ c e. not_of_other free s Data Meta b c safe next (λ d. safe.apart d) e in
    let same : free_count (without b mid) ≡ free_count mid = free_after s b (live_at s b) next.within safe.table_whole safe.fills_whole in
    let took = takes_one free s Data b safe next in
    record {
      good = good_moved s.table b (omega (arith, safe.table_whole, next.within)) next.good;
      other = left_dropped mid b s.meta_open (not_holding s.meta_open b ne) ∙ left_other s b f s.meta_open ne;
      none_left = gone_next mid b (pointer_at s b + 1) s.geometry.pages;
      cases = failed_cases (left_in s s.data_open) (free_count s) (free_count (without b mid)) (left_in mid mid.data_open) s.geometry.pages (rw same took.cases);
    }
failed free s Meta b safe next =
    let f : Fill = record { pointer = pointer_at s b + 1; live = live_at s b } in
    let mid : State = taken Meta b s in
    let ne : (c : ℕ) → s.data_open ≡ Some c → c ≢ b = λ c e. not_of_other free s Meta Data b c safe next (λ d m o. safe.apart d o m) e in
    let same : free_count (without b mid) ≡ free_count mid = free_after s b (live_at s b) next.within safe.table_whole safe.fills_whole in
    let took = takes_one free s Meta b safe next in
    record {
      good = good_moved s.table b (omega (arith, safe.table_whole, next.within)) next.good;
      other = left_dropped mid b s.data_open (not_holding s.data_open b ne) ∙ left_other s b f s.data_open ne;
      none_left = gone_next mid b (pointer_at s b + 1) s.geometry.pages;
      cases = failed_cases (left_in s s.meta_open) (free_count s) (free_count (without b mid)) (left_in mid mid.meta_open) s.geometry.pages (rw same took.cases);
    }
