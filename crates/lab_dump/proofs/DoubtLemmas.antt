-- What one page more leaves open, and how the holes are counted.
use Rattle.std.proofs.Common.{◌≡◌, ◌≢◌, inl, inr, ℕ, zero, suc, add-one, ◌+◌, ◌*◌, ◌/◌, ◌%◌, ◌<◌, ◌≤◌, List, [], ◌∷◌, length, get_or, take, Some}
use Rattle.std.proofs.Common.{Bool, true, false, refl, sym, ap, ◌∙◌, subst, arith, slice_get, cond, count_by, set, replicate, All}
use Rattle.std.specs.Prelude.{◌==◌, ◌&&◌, ◌||◌, not, nat_lt}
use Rattle.std.specs.List.{list_any, range_with_len}
use Rattle.std.proofs.Math.Nat.{mul-le-mul_right, mod-lt}
use Rattle.std.proofs.lemmas.Bool.{cases_eq, cases_order, eq-eqb, eqb-true, ne_eqb, lt-ltb, le-ltb, ltb-true, and_from, and_parts, true≢false}
use Rattle.std.proofs.lemmas.List.{get_or-set_same, get_or-set_other, get_or-replicate, get_or_default, length-set, length-replicate}
use Rattle.std.proofs.lemmas.List.Sums.{sum_by_push}
use Rattle.std.proofs.lemmas.Nat.{div-add-mod'}
use Rattle.std.proofs.lemmas.Option.{slice_get_within}
use Rattle.page_layout.specs.declared.geometry.Geometry.{Geometry}
use Rattle.page_layout.specs.Page.{Page, Image}
use Rattle.page_layout.specs.Sound.{is_erased_page}
use Rattle.page_layout.specs.Block.{is_programmed}
use Rattle.page_layout.specs.Change.{one_if}
use Rattle.lab_dump.specs.Doubts.{has_page, is_erased_at, is_programmed_at, shows_hole, is_hole_below, is_hole, HoleLaw}
use Rattle.lab_dump.specs.Doubting.{HasHoles, carried, ending, holes_below}
use Rattle.lab_dump.proofs.AnyLemmas.{any_at, any_more}
use Rattle.lab_dump.proofs.CountLemmas.{range_last, count_more}

-- ---- how many of the first numbers pass a test

abbrev pub upto : (ℕ → Bool) → ℕ → ℕ
upto f n = count_by f (range_with_len 0 n)

pub upto_more : (f : ℕ → Bool) (n : ℕ) → upto f (suc n) ≡ upto f n + one_if (f n)
upto_more f n = ap (count_by f) (range_last 0 n n (omega arith)) ∙ sum_by_push (λ y. cond (f y) 1 0) (range_with_len 0 n) n

pub upto_same : (f h : ℕ → Bool) (n : ℕ) → ((k : ℕ) → k < n → f k ≡ h k) → upto f n ≡ upto h n
upto_same f h zero e = refl
upto_same f h (suc n) e =
    let last : one_if (f n) ≡ one_if (h n) = ap one_if (e n (omega arith)) in
    let before : upto f n ≡ upto h n = upto_same f h n (λ k l. e k (omega arith)) in
    let a = upto_more f n in
    let b = upto_more h n in
    omega arith

pub upto_none : (f : ℕ → Bool) (n : ℕ) → ((k : ℕ) → k < n → f k ≡ false) → upto f n ≡ 0
upto_none f zero e = refl
upto_none f (suc n) e =
    let last : one_if (f n) ≡ 0 = ap one_if (e n (omega arith)) in
    let before : upto f n ≡ 0 = upto_none f n (λ k l. e k (omega arith)) in
    let a = upto_more f n in
    omega arith

pub upto_sum : (f h both : ℕ → Bool) (n : ℕ) → ((k : ℕ) → k < n → one_if (both k) ≡ one_if (f k) + one_if (h k)) → upto both n ≡ upto f n + upto h n
upto_sum f h both zero e = refl
upto_sum f h both (suc n) e =
    let last = e n (omega arith) in
    let before : upto both n ≡ upto f n + upto h n = upto_sum f h both n (λ k l. e k (omega arith)) in
    let a = upto_more f n in
    let b = upto_more h n in
    let c = upto_more both n in
    omega arith

-- the pages that pass, by their rows
pub upto_pages : (test : Page → Bool) (image : Image) (n : ℕ) → n ≤ length image → upto (λ row. has_page test (slice_get image row)) n ≡ count_by test (take n image)
upto_pages test image zero l = refl
upto_pages test image (suc n) l =
    let at = some_page image n (omega arith) in
    let before : upto (λ row. has_page test (slice_get image row)) n ≡ count_by test (take n image) = upto_pages test image n (omega arith) in
    let here : one_if (has_page test (slice_get image n)) ≡ one_if (test at.0) = ap (λ o. one_if (has_page test o)) at.1 in
    let a = upto_more (λ row. has_page test (slice_get image row)) n in
    let b : count_by test (take (suc n) image) ≡ count_by test (take n image) + one_if (test at.0) = ap (λ k. count_by test (take k image)) (sym (add-one n)) ∙ count_more test image n at.0 at.1 in
    omega arith
  where
    some_page : (image : Image) (row : ℕ) → row < length image → (p : Page) × (slice_get image row ≡ Some p)
    some_page [] row l = absurd (omega arith)
    some_page (p ∷ ps) zero l = (p, refl)
    some_page (p ∷ ps) (suc row) l = some_page ps row (omega arith)

-- ---- blocks

next_times : (a p : ℕ) → (a + 1) * p ≡ a * p + p
next_times a p = let one : a + 1 ≡ suc a = omega arith in ap (λ k. k * p) one ∙ omega arith

-- a row before the first of a block is of another one
pub before_block : (p n row : ℕ) → suc n % p ≡ 0 → row < suc n → row / p ≢ suc n / p
before_block p n row start l same =
    let a = div-add-mod' row p in
    let b = div-add-mod' (suc n) p in
    let c : row / p * p ≡ suc n / p * p = ap (λ q. q * p) same in
    omega arith

-- the next row is of the same block where it does not begin one
pub within_block : (p n : ℕ) → 0 < p → suc n % p ≢ 0 → suc n / p ≡ n / p
within_block p n some ne =
    let a = div-add-mod' n p in
    let b = div-add-mod' (suc n) p in
    let low = mod-lt n some in
    let high = mod-lt (suc n) some in
    elim (cases_order (suc n / p) (n / p)) [
      | inl same ↦ same
      | inr (inl less) ↦
          (let step = next_times (suc n / p) p in
          let room : (suc n / p + 1) * p ≤ n / p * p = mul-le-mul_right p (at_most (suc n / p) (n / p) less) in
          absurd (omega arith))
      | inr (inr more) ↦
          (let step = next_times (n / p) p in
          let room : (n / p + 1) * p ≤ suc n / p * p = mul-le-mul_right p (at_most (n / p) (suc n / p) more) in
          absurd (ne (omega arith)))
    ]
  where
    at_most : (m k : ℕ) → m < k → m + 1 ≤ k
    at_most m k l = omega arith

pub some_pages : (g : Geometry) → 0 < g.pages
some_pages g = let least = g.limits.page_count.least in omega arith

-- ---- one row more shows holes

abbrev shown : Geometry → Image → ℕ → ℕ → Bool
shown g image n row = list_any (shows_hole g image row) (range_with_len 0 n)

shown_more : (g : Geometry) (image : Image) (n row : ℕ) → shown g image (suc n) row ≡ (shown g image n row || shows_hole g image row n)
shown_more g image n row = any_more (shows_hole g image row) n

-- no row shows one behind it
shown_none : (g : Geometry) (image : Image) (n row : ℕ) → n ≤ row + 1 → shown g image n row ≡ false
shown_none g image zero row l = refl
shown_none g image (suc n) row l =
    shown_more g image n row
    ∙ (ap (λ b. b || shows_hole g image row n) (shown_none g image n row (omega arith)) ∙ ap (λ b. b && ((n / g.pages == row / g.pages) && is_programmed_at image n)) (le-ltb row n (omega arith)))

-- what the page of a later row shows
shows_later : (g : Geometry) (image : Image) (n row : ℕ) (b : Bool) → row < n → is_programmed_at image n ≡ b → shows_hole g image row n ≡ ((n / g.pages == row / g.pages) && b)
shows_later g image n row b l e = ap (λ t. t && ((n / g.pages == row / g.pages) && is_programmed_at image n)) (lt-ltb row n l) ∙ ap (λ t. (n / g.pages == row / g.pages) && t) e

no_right : (a : Bool) → (a && false) ≡ false
no_right true = refl
no_right false = refl

or_false : (a : Bool) → (a || false) ≡ a
or_false true = refl
or_false false = refl

all_right : (a : Bool) → (a && true) ≡ a
all_right true = refl
all_right false = refl

-- an erased page shows none
shown_kept : (g : Geometry) (image : Image) (n row : ℕ) → row < n → is_programmed_at image n ≡ false → shown g image (suc n) row ≡ shown g image n row
shown_kept g image n row l e =
    shown_more g image n row ∙ (ap (λ b. shown g image n row || b) (shows_later g image n row false l e ∙ no_right (n / g.pages == row / g.pages)) ∙ or_false (shown g image n row))

-- any other shows those of its block
shown_now : (g : Geometry) (image : Image) (n row : ℕ) → row < n → is_programmed_at image n ≡ true → shown g image (suc n) row ≡ (shown g image n row || (n / g.pages == row / g.pages))
shown_now g image n row l e = shown_more g image n row ∙ ap (λ b. shown g image n row || b) (shows_later g image n row true l e ∙ all_right (n / g.pages == row / g.pages))

-- ---- the rows that a page which is not erased would make holes of

abbrev is_open : Geometry → Image → ℕ → ℕ → Bool
is_open g image n row = is_erased_at image row && ((n / g.pages == row / g.pages) && not (shown g image n row))

-- a row of the image is erased or not
pub sorted : (image : Image) (row : ℕ) (b : Bool) → row < length image → is_erased_at image row ≡ b → is_programmed_at image row ≡ not b
sorted [] row b l e = absurd (omega arith)
sorted (p ∷ ps) zero b l e = ap not e
sorted (p ∷ ps) (suc row) b l e = sorted ps row b (omega arith) e

hole_parts : (e s a : Bool) → one_if (e && (s || a)) ≡ one_if (e && s) + one_if (e && (a && not s))
hole_parts true true true = refl
hole_parts true true false = refl
hole_parts true false true = refl
hole_parts true false false = refl
hole_parts false true true = refl
hole_parts false true false = refl
hole_parts false false true = refl
hole_parts false false false = refl

open_closed : (e a s : Bool) → (e && (a && not (s || a))) ≡ false
open_closed true true true = refl
open_closed true true false = refl
open_closed true false s = refl
open_closed false a s = refl

-- they are those that end the rows in their block
open_count : (g : Geometry) (image : Image) (n : ℕ) → n ≤ length image → upto (is_open g image n) n ≡ carried g image n
unfolding ending
open_count g image zero l = at_start (zero % g.pages == 0)
  where
    at_start : (b : Bool) → zero ≡ cond b zero zero
    at_start true = refl
    at_start false = refl
open_count g image (suc n) l = elim (cases_eq (suc n % g.pages) 0) [
  | inl start ↦
      (let none : upto (is_open g image (suc n)) (suc n) ≡ 0 = upto_none (is_open g image (suc n)) (suc n) (λ row less.
      ap (λ b. is_erased_at image row && (b && not (shown g image (suc n) row))) (ne_eqb (suc n / g.pages) (row / g.pages) (λ e. before_block g.pages n row start less (sym e))) ∙ no_right (is_erased_at image row)) in
      none ∙ ap (λ b. cond b 0 (ending g image (suc n))) (sym (eq-eqb (suc n % g.pages) 0 start)))
  | inr inside ↦
      (let block : suc n / g.pages ≡ n / g.pages = within_block g.pages n (some_pages g) inside in
      in_block (open_count g image n (omega arith)) block (is_erased_at image n) refl ∙ ap (λ b. cond b 0 (ending g image (suc n))) (sym (ne_eqb (suc n % g.pages) 0 inside)))
]
  where
    in_block : upto (is_open g image n) n ≡ carried g image n → suc n / g.pages ≡ n / g.pages → (b : Bool) → is_erased_at image n ≡ b → upto (is_open g image (suc n)) (suc n) ≡ cond (is_erased_at image n) (cond (n % g.pages == 0) 1 (ending g image n + 1)) 0
    in_block old block true e =
        let last : is_open g image (suc n) n ≡ true =
        and_from (is_erased_at image n) ((suc n / g.pages == n / g.pages) && not (shown g image (suc n) n)) e
        (and_from (suc n / g.pages == n / g.pages) (not (shown g image (suc n) n)) (eq-eqb (suc n / g.pages) (n / g.pages) block) (ap not (shown_none g image (suc n) n (omega arith)))) in
        let before : upto (is_open g image (suc n)) n ≡ upto (is_open g image n) n = upto_same (is_open g image (suc n)) (is_open g image n) n (λ row less.
        ap (λ k. is_erased_at image row && ((k == row / g.pages) && not (shown g image (suc n) row))) block
        ∙ ap (λ t. is_erased_at image row && ((n / g.pages == row / g.pages) && not t)) (shown_kept g image n row less (sorted image n true (omega arith) e))) in
        let more = upto_more (is_open g image (suc n)) n in
        let one_last : one_if (is_open g image (suc n) n) ≡ 1 = ap one_if last in
        let sum : upto (is_open g image (suc n)) (suc n) ≡ carried g image n + 1 = omega arith in
        sum ∙ (by (n % g.pages == 0) ∙ ap (λ b. cond b (cond (n % g.pages == 0) 1 (ending g image n + 1)) 0) (sym e))
      where
        by : (b : Bool) → cond b 0 (ending g image n) + 1 ≡ cond b 1 (ending g image n + 1)
        by true = refl
        by false = refl
    in_block old block false e =
        let last : is_open g image (suc n) n ≡ false = ap (λ b. b && ((suc n / g.pages == n / g.pages) && not (shown g image (suc n) n))) e in
        let before : upto (is_open g image (suc n)) n ≡ 0 = upto_none (is_open g image (suc n)) n (λ row less.
        ap (λ k. is_erased_at image row && ((k == row / g.pages) && not (shown g image (suc n) row))) block
        ∙ (ap (λ t. is_erased_at image row && ((n / g.pages == row / g.pages) && not t)) (shown_now g image n row less (sorted image n false (omega arith) e))
        ∙ open_closed (is_erased_at image row) (n / g.pages == row / g.pages) (shown g image n row))) in
        let more = upto_more (is_open g image (suc n)) n in
        let one_last : one_if (is_open g image (suc n) n) ≡ 0 = ap one_if last in
        let sum : upto (is_open g image (suc n)) (suc n) ≡ 0 = omega arith in
        sum ∙ ap (λ b. cond b (cond (n % g.pages == 0) 1 (ending g image n + 1)) 0) (sym e)

-- ---- the holes that the first rows show, of one block

abbrev is_hole_in : Geometry → Image → ℕ → ℕ → ℕ → Bool
is_hole_in g image n block row = is_hole_below g image n row && (row / g.pages == block)

abbrev is_open_in : Geometry → Image → ℕ → ℕ → ℕ → Bool
is_open_in g image n block row = is_open g image n row && (row / g.pages == block)

-- the last of the first rows is none of them
last_none : (g : Geometry) (image : Image) (n block : ℕ) → one_if (is_hole_in g image (suc n) block n) ≡ 0
last_none g image n block =
    let last : is_hole_below g image (suc n) n ≡ false = ap (λ b. is_erased_at image n && b) (shown_none g image (suc n) n (omega arith)) ∙ no_right (is_erased_at image n) in
    ap (λ b. one_if (b && (n / g.pages == block))) last

-- an erased page shows none
holes_kept : (g : Geometry) (image : Image) (n block : ℕ) → n < length image → is_erased_at image n ≡ true → holes_below g image (suc n) block ≡ holes_below g image n block
unfolding holes_below
holes_kept g image n block l e =
    let before : upto (is_hole_in g image (suc n) block) n ≡ upto (is_hole_in g image n block) n = upto_same (is_hole_in g image (suc n) block) (is_hole_in g image n block) n (λ row less.
    ap (λ t. (is_erased_at image row && t) && (row / g.pages == block)) (shown_kept g image n row less (sorted image n true (omega arith) e))) in
    let more = upto_more (is_hole_in g image (suc n) block) n in
    let last = last_none g image n block in
    omega arith

in_parts : (e s a q : Bool) → one_if ((e && (s || a)) && q) ≡ one_if ((e && s) && q) + one_if ((e && (a && not s)) && q)
in_parts e s a true =
    ap one_if (all_right (e && (s || a)))
    ∙ (hole_parts e s a ∙ (ap (λ t. one_if t + one_if (e && (a && not s))) (sym (all_right (e && s))) ∙ ap (λ t. one_if ((e && s) && true) + one_if t) (sym (all_right (e && (a && not s))))))
in_parts e s a false =
    let x : one_if ((e && (s || a)) && false) ≡ 0 = ap one_if (no_right (e && (s || a))) in
    let y : one_if ((e && s) && false) ≡ 0 = ap one_if (no_right (e && s)) in
    let z : one_if ((e && (a && not s)) && false) ≡ 0 = ap one_if (no_right (e && (a && not s))) in
    omega arith

-- those that a page would make holes of are of its block
open_in : (g : Geometry) (image : Image) (n block : ℕ) → n ≤ length image → upto (is_open_in g image n block) n ≡ cond (n / g.pages == block) (carried g image n) 0
open_in g image n block l = elim (cases_eq (n / g.pages) block) [
  | inl same ↦
      (let all : upto (is_open_in g image n block) n ≡ upto (is_open g image n) n = upto_same (is_open_in g image n block) (is_open g image n) n (λ row less. elim (cases_eq (n / g.pages) (row / g.pages)) [
        | inl here ↦ ap (λ b. is_open g image n row && b) (eq-eqb (row / g.pages) block (sym here ∙ same)) ∙ all_right (is_open g image n row)
        | inr there ↦
            (let none : is_open g image n row ≡ false = apart row there in
            ap (λ b. b && (row / g.pages == block)) none ∙ sym none)
      ]) in
      all ∙ (open_count g image n l ∙ ap (λ b. cond b (carried g image n) 0) (sym (eq-eqb (n / g.pages) block same))))
  | inr other ↦
      (let none : upto (is_open_in g image n block) n ≡ 0 = upto_none (is_open_in g image n block) n (λ row less. elim (cases_eq (n / g.pages) (row / g.pages)) [
        | inl here ↦ ap (λ b. is_open g image n row && b) (ne_eqb (row / g.pages) block (λ e. other (here ∙ e))) ∙ no_right (is_open g image n row)
        | inr there ↦ ap (λ b. b && (row / g.pages == block)) (apart row there)
      ]) in
      none ∙ ap (λ b. cond b (carried g image n) 0) (sym (ne_eqb (n / g.pages) block other)))
]
  where
    apart : (row : ℕ) → n / g.pages ≢ row / g.pages → is_open g image n row ≡ false
    apart row there = ap (λ b. is_erased_at image row && (b && not (shown g image n row))) (ne_eqb (n / g.pages) (row / g.pages) there) ∙ no_right (is_erased_at image row)

-- any other page shows those that end the rows before it
holes_shown : (g : Geometry) (image : Image) (n block : ℕ) → n < length image → is_erased_at image n ≡ false → holes_below g image (suc n) block ≡ holes_below g image n block + cond (n / g.pages == block) (carried g image n) 0
unfolding holes_below
holes_shown g image n block l e =
    let before : upto (is_hole_in g image (suc n) block) n ≡ upto (is_hole_in g image n block) n + upto (is_open_in g image n block) n = upto_sum (is_hole_in g image n block) (is_open_in g image n block) (is_hole_in g image (suc n) block) n (λ row less.
    ap (λ t. one_if ((is_erased_at image row && t) && (row / g.pages == block))) (shown_now g image n row less (sorted image n false (omega arith) e))
    ∙ in_parts (is_erased_at image row) (shown g image n row) (n / g.pages == row / g.pages) (row / g.pages == block)) in
    let opened = open_in g image n block (omega arith) in
    let more = upto_more (is_hole_in g image (suc n) block) n in
    let last = last_none g image n block in
    omega arith

-- ---- one page more

here_is : (image : Image) (row : ℕ) (p : Page) (b : Bool) → slice_get image row ≡ Some p → is_erased_page p ≡ b → is_erased_at image row ≡ b
here_is image row p b is e = ap (has_page is_erased_page) is ∙ e

pub ending_erased : (g : Geometry) (image : Image) (row n : ℕ) (p : Page) → slice_get image row ≡ Some p → is_erased_page p ≡ true → n ≡ carried g image row → n + 1 ≡ ending g image (row + 1)
unfolding ending
ending_erased g image row n p is e h =
    let next : row + 1 ≡ suc row = add-one row in
    ap (λ k. k + 1) h ∙ (by (row % g.pages == 0) ∙ (ap (λ b. cond b (cond (row % g.pages == 0) 1 (ending g image row + 1)) 0) (sym (here_is image row p true is e)) ∙ ap (ending g image) (sym next)))
  where
    by : (c : Bool) → cond c 0 (ending g image row) + 1 ≡ cond c 1 (ending g image row + 1)
    by true = refl
    by false = refl

pub ending_other : (g : Geometry) (image : Image) (row : ℕ) (p : Page) → slice_get image row ≡ Some p → is_erased_page p ≡ false → 0 ≡ ending g image (row + 1)
unfolding ending
ending_other g image row p is e =
    let next : row + 1 ≡ suc row = add-one row in
    ap (λ b. cond b (cond (row % g.pages == 0) 1 (ending g image row + 1)) 0) (sym (here_is image row p false is e)) ∙ ap (ending g image) (sym next)

pub holes_none : (g : Geometry) (image : Image) (row : ℕ) (p : Page) (items : List ℕ) → HasHoles g image row items → slice_get image row ≡ Some p → is_erased_page p ≡ true → HasHoles g image (row + 1) items
holes_none g image row p items h is e = record {
  size = h.size;
  at = λ b l. h.at b l ∙ sym (ap (λ n. holes_below g image n b) (add-one row) ∙ holes_kept g image row b (slice_get_within image row p is) (here_is image row p true is e));
}

pub holes_set : (g : Geometry) (image : Image) (row block d new : ℕ) (p : Page) (items : List ℕ) → HasHoles g image row items → slice_get image row ≡ Some p → is_erased_page p ≡ false → block ≡ row / g.pages → block < g.blocks
    → new ≡ get_or items block d + carried g image row → HasHoles g image (row + 1) (set items block new)
holes_set g image row block d new p items h is e at within more =
    let in_items : block < length items = omega (arith, h.size) in
    let shows = λ (b : ℕ). ap (λ n. holes_below g image n b) (add-one row) ∙ holes_shown g image row b (slice_get_within image row p is) (here_is image row p false is e) in
    record {
      size = length-set items block new ∙ h.size;
      at = λ b l. elim (cases_eq b block) [
        | inl same ↦
            (let old : new ≡ holes_below g image row block + carried g image row = more ∙ ap (λ k. k + carried g image row) (get_or_default items block d 0 in_items ∙ h.at block within) in
            let all : holes_below g image (row + 1) block ≡ holes_below g image row block + carried g image row = shows block ∙ ap (λ c. holes_below g image row block + cond c (carried g image row) 0) (eq-eqb (row / g.pages) block (sym at)) in
            subst (λ k. get_or (set items block new) k 0 ≡ holes_below g image (row + 1) k) (sym same) (get_or-set_same items block new 0 in_items ∙ (old ∙ sym all)))
        | inr ne ↦
            (let same : holes_below g image (row + 1) b ≡ holes_below g image row b + 0 = shows b ∙ ap (λ c. holes_below g image row b + cond c (carried g image row) 0) (ne_eqb (row / g.pages) b (λ x. ne (sym x ∙ sym at))) in
            let old = h.at b l in
            get_or-set_other items block b new 0 ne ∙ omega arith)
      ];
    }

pub holes_start : (g : Geometry) (image : Image) (items : List ℕ) → items ≡ replicate g.blocks 0 → HasHoles g image 0 items
unfolding holes_below
holes_start g image items e = record {
  size = ap length e ∙ length-replicate g.blocks 0;
  at = λ b l. ap (λ xs. get_or xs b 0) e ∙ get_or-replicate g.blocks b 0 0 l;
}

pub ending_start : (g : Geometry) (image : Image) → 0 ≡ ending g image 0
unfolding ending
ending_start g image = refl

-- ---- bounds

-- no block has more holes than there were rows, with the erased pages that end them
pub few_erased : (items : List ℕ) (row end more : ℕ) → All (λ n. n + end ≤ row) items → more ≤ end → All (λ n. n + (more + 1) ≤ row + 1) items
few_erased items row end more h l i d k = let a = h i d k in omega arith

pub few_set : (items : List ℕ) (row end more block d : ℕ) → All (λ n. n + end ≤ row) items → more ≤ end → block < length items → All (λ n. n + 0 ≤ row + 1) (set items block (get_or items block d + more))
few_set items row end more block d h l within i e k = elim (cases_eq i block) [
  | inl same ↦
      (let new = get_or items block d + more in
      let here : get_or (set items block new) i e ≡ new = ap (λ j. get_or (set items block new) j e) same ∙ get_or-set_same items block new e within in
      let a = h block d within in
      omega arith)
  | inr ne ↦
      (let there : get_or (set items block (get_or items block d + more)) i e ≡ get_or items i e = get_or-set_other items block i (get_or items block d + more) e ne in
      let a = h i e (omega (arith, length-set items block (get_or items block d + more))) in
      omega arith)
]

pub few_nothing : (n : ℕ) → All (λ x. x + 0 ≤ 0) (replicate n 0)
few_nothing n i d l = let none : ℕ = 0 in let here = get_or-replicate n i none d (omega (arith, length-replicate n none)) in omega arith

-- ---- law

shown_by : (g : Geometry) (image : Image) (row n : ℕ) → shown g image n row ≡ true → (later : ℕ) × (shows_hole g image row later ≡ true)
shown_by g image row zero e = absurd (true≢false (sym e))
shown_by g image row (suc n) e = by (shown_by g image row n) (shown g image n row) refl
  where
    by : (shown g image n row ≡ true → (later : ℕ) × (shows_hole g image row later ≡ true)) → (b : Bool) → shown g image n row ≡ b → (later : ℕ) × (shows_hole g image row later ≡ true)
    by before true is = before is
    by before false is = (n, sym (ap (λ b. b || shows_hole g image row n) is) ∙ (sym (shown_more g image n row) ∙ e))

shown_at : (g : Geometry) (image : Image) (row n later : ℕ) → later < n → shows_hole g image row later ≡ true → shown g image n row ≡ true
shown_at g image row n later l e = any_at (shows_hole g image row) n later l e

page_within : (test : Page → Bool) (image : Image) (row : ℕ) → has_page test (slice_get image row) ≡ true → row < length image
page_within test [] row e = absurd (true≢false (sym e))
page_within test (p ∷ ps) zero e = omega arith
page_within test (p ∷ ps) (suc row) e = let l = page_within test ps row e in omega arith

pub hole_law : HoleLaw
unfolding is_hole
hole_law g image row = (
  λ e.
      let both = and_parts (is_erased_at image row) (shown g image (length image) row) e in
      let by = shown_by g image row (length image) both.1 in
      let first = and_parts (nat_lt row by.0) ((by.0 / g.pages == row / g.pages) && is_programmed_at image by.0) by.1 in
      let rest = and_parts (by.0 / g.pages == row / g.pages) (is_programmed_at image by.0) first.1 in
      record { erased = both.0; later = by.0; behind = ltb-true row by.0 first.0; same_block = eqb-true (by.0 / g.pages) (row / g.pages) rest.0; programmed = rest.1 },
  λ h.
      and_from (is_erased_at image row) (shown g image (length image) row) h.erased
      (shown_at g image row (length image) h.later (page_within is_programmed image h.later h.programmed)
      (and_from (nat_lt row h.later) ((h.later / g.pages == row / g.pages) && is_programmed_at image h.later) (lt-ltb row h.later h.behind)
      (and_from (h.later / g.pages == row / g.pages) (is_programmed_at image h.later) (eq-eqb (h.later / g.pages) (row / g.pages) h.same_block) h.programmed))),
)

-- as many as the row, with the row's own
pub one_more : (row ending carried : ℕ) → carried ≤ ending → ending ≤ row → carried + 1 ≤ row + 1
one_more row ending carried few below = omega arith
