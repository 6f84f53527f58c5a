-- What the calls do to a block, and how they leave the others.
use Rattle.std.proofs.Common.{◌≡◌, ◌≢◌, inl, inr, ℕ, ◌+◌, ◌-◌, ◌<◌, ◌≤◌, Bool, true, false, not, ltb, ◌&&◌, ◌||◌, ◌==◌, Option, Some, None, length}
use Rattle.std.proofs.Common.{refl, ap, sym, ◌∙◌, arith, rules}
use Rattle.std.specs.Prelude.{nat_lt}
use Rattle.std.specs.Bool.{then_some}
use Rattle.std.specs.List.{range_with_len}
use Rattle.std.proofs.lemmas.Bool.{cases_eq, ne_eqb, eq-eqb, ltb-true, ltb-false}
use Rattle.std.proofs.lemmas.Grind.{common_steps}
use Rattle.page_layout.proofs.CountLemmas.{count_by-same}
use Rattle.bad_blocks.specs.Table.{is_good_at, good_count}
use Rattle.budget.specs.Counts.{Counts}
use Rattle.budget.specs.declared.stream.Stream.TheVariants.{Data, Meta}
use Rattle.allocation.specs.declared.fill.Fill.{Fill}
use Rattle.allocation.specs.State.{State, pointer_at, live_at, is_open_block, is_free, free_count}
use Rattle.allocation.specs.Step.{without, with_live, with_fill}
use Rattle.allocation.specs.Counts.{left_in, LiveLaw, NoneLaw}
use Rattle.allocation.specs.Laws.{NextLaw, LastPageLaw, BadLaw, TableKeepsBadLaw, FailedOthersLaw, ErasedOthersLaw, TakenOthersLaw, LiveOthersLaw}
use Rattle.allocation.proofs.SafeLemmas.{fill_same, pointer_live, good_retired, good_retired_other, good_erased, not_of_other}
use Rattle.allocation.proofs.TallyLemmas.{not_holding}

pub next_not_closed : NextLaw
next_not_closed free s stream block safe next = grind (arith, common_steps)

-- open after the next page, unless it is the last
shut_then : (next pages b : ℕ) → next ≤ pages → not (is_open_block (then_some (nat_lt next pages) b) b) ≡ (next == pages)
shut_then next pages b le = elim (ltb next pages) as (λ v. ltb next pages ≡ v → not (is_open_block (then_some v b) b) ≡ (next == pages)) [
  | true ↦ λ is. (let less : next < pages = ltb-true next pages is in ap not (eq-eqb b b refl) ∙ sym (ne_eqb next pages (λ e. omega arith)))
  | false ↦ λ is. (let more : pages ≤ next = ltb-false next pages is in sym (eq-eqb next pages (omega arith)))
] refl

closed_by_data : (g z d m : Bool) → g ≡ true → z ≡ false → m ≡ false → (g && not z && not (d || m)) ≡ not d
closed_by_data g z true m good begun other = rw (good, begun)
closed_by_data g z false m good begun other = rw (good, begun, other)

closed_by_meta : (g z d m : Bool) → g ≡ true → z ≡ false → d ≡ false → (g && not z && not (d || m)) ≡ not m
closed_by_meta g z d m good begun other = rw (good, begun, other)

pub last_page : LastPageLaw
last_page free s Data b safe next =
    let f : Fill = record { pointer = pointer_at s b + 1; live = live_at s b } in
    let now : pointer_at (with_fill b f s) b ≡ pointer_at s b + 1 = ap (λ (x : Fill). x.pointer) (fill_same s b f (omega (arith, safe.fills_whole, next.within))) in
    let ne : (c : ℕ) → s.meta_open ≡ Some c → c ≢ b = λ c e. not_of_other free s Data Meta b c safe next (λ d. safe.apart d) e in
    closed_by_data (is_good_at s.table b) (pointer_at (with_fill b f s) b == 0) _ (is_open_block s.meta_open b) next.good (ne_eqb (pointer_at (with_fill b f s) b) 0 (λ z. omega arith)) (not_holding s.meta_open b ne)
    ∙ shut_then (pointer_at s b + 1) s.geometry.pages b (omega (arith, next.room))
last_page free s Meta b safe next =
    let f : Fill = record { pointer = pointer_at s b + 1; live = live_at s b } in
    let now : pointer_at (with_fill b f s) b ≡ pointer_at s b + 1 = ap (λ (x : Fill). x.pointer) (fill_same s b f (omega (arith, safe.fills_whole, next.within))) in
    let ne : (c : ℕ) → s.data_open ≡ Some c → c ≢ b = λ c e. not_of_other free s Meta Data b c safe next (λ d m o. safe.apart d o m) e in
    closed_by_meta (is_good_at s.table b) (pointer_at (with_fill b f s) b == 0) (is_open_block s.data_open b) _ next.good (ne_eqb (pointer_at (with_fill b f s) b) 0 (λ z. omega arith)) (not_holding s.data_open b ne)
    ∙ shut_then (pointer_at s b + 1) s.geometry.pages b (omega (arith, next.room))

pub bad : BadLaw
bad free s b safe within = good_retired s.table b (omega (arith, safe.table_whole))

pub bad_stays : TableKeepsBadLaw
bad_stays free s c safe is = record {
  fails = λ b within. elim (cases_eq c b) [
    | inl same ↦ ap (λ x. is_good_at (without b s).table x) same ∙ good_retired s.table b (omega (arith, safe.table_whole))
    | inr other ↦ good_retired_other s.table b c other ∙ is
  ];
  erases = λ b within. good_erased s.table b c (omega (arith, safe.table_whole)) ∙ is;
}

pub failed_others : FailedOthersLaw
failed_others s b c ne = search rules

pub erased_others : ErasedOthersLaw
erased_others s b c ne = search rules

pub taken_others : TakenOthersLaw
taken_others s stream b c next ne = search rules

pub live_others : LiveOthersLaw
live_others s free b live c safe = grind (arith, common_steps)

left_live : (s : State) (b live : ℕ) (o : Option ℕ) → b < length s.fills → left_in (with_live b live s) o ≡ left_in s o
left_live s b live None lt = refl
left_live s b live (Some c) lt = ap (λ p. s.geometry.pages - p) (pointer_live s b live c lt)

pub live_counts : LiveLaw
live_counts free s b live within safe =
    let lt : b < length s.fills = omega (arith, safe.fills_whole) in
    let same : free_count (with_live b live s) ≡ free_count s = sym (count_by-same (is_free s) (is_free (with_live b live s)) (range_with_len 0 s.geometry.blocks) (λ c. ap (λ p. is_good_at s.table c && (p == 0)) (sym (pointer_live s b live c lt)))) in
    let counts : ℕ → ℕ → ℕ → Counts = λ f d m. record { good = good_count s.table; free = f; data_left = d; meta_left = m } in
    ap (λ f. counts f (left_in (with_live b live s) s.data_open) (left_in (with_live b live s) s.meta_open)) same
    ∙ ap (λ d. counts (free_count s) d (left_in (with_live b live s) s.meta_open)) (left_live s b live s.data_open lt)
    ∙ ap (λ m. counts (free_count s) (left_in s s.data_open) m) (left_live s b live s.meta_open lt)

pub none_counts : NoneLaw
none_counts s Data none = (none.none_free, ap (left_in s) none.none_open)
none_counts s Meta none = (none.none_free, ap (left_in s) none.none_open)
