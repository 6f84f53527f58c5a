-- Each geometry is found once.
use Rattle.std.proofs.Common.{◌≡◌, ◌≢◌, ◌⊎◌, ℕ, zero, suc, ◌+◌, ◌/◌, ◌<◌, ◌≤◌, List, [], ◌∷◌, length, refl, sym, ap, ◌∙◌, subst, arith, inl, inr, Bool, true, false, count_by, le_refl}
use Rattle.std.specs.Prelude.{◌==◌, ◌&&◌, nat_lt, if◌then◌else◌}
use Rattle.std.specs.List.{range_with_len, flat_map}
use Rattle.std.proofs.lemmas.Bool.{cases_eq, eq-eqb, ne_eqb, and_left, and_right}
use Rattle.std.proofs.lemmas.List.Sums.{sum_by-cons, sum_by-append}
use Rattle.lab_dump.specs.declared.fit.Fit.{Fit}
use Rattle.lab_dump.specs.declared.sample.Sample.{Sample}
use Rattle.lab_dump.specs.declared.told.PagesTold.{PagesTold}
use Rattle.lab_dump.specs.Sample.{sample_of}
use Rattle.lab_dump.specs.Told.{pages_told_of}
use Rattle.lab_dump.specs.Shape.{data_sizes, page_counts, rows_in_size, is_shape, has_shape}
use Rattle.lab_dump.specs.Fits.{fit_of, shape_fits, area_fits, data_fits, fits_of}
use Rattle.lab_dump.specs.FitLaws.{has_numbers, NoFitTwiceLaw}
use Rattle.lab_dump.proofs.SampleLemmas.{one}
use Rattle.lab_dump.proofs.FitLemmas.{area_when}

-- ---- rising numbers

-- each is greater than those before it, and the first at least a
Rises : ℕ → List ℕ → Type 0
Rises a [] = Unit {0}
Rises a (y ∷ ys) = (a ≤ y) × Rises (y + 1) ys

range_rises : (a n : ℕ) → Rises a (range_with_len a n)
unfolding Rises
range_rises a zero = tt
range_rises a (suc n) = (le_refl a, range_rises (a + 1) n)

sizes_rise : Rises 0 data_sizes
unfolding Rises data_sizes
sizes_rise = (omega arith, (omega arith, (omega arith, (omega arith, (omega arith, (omega arith, (omega arith, tt)))))))

counts_rise : Rises 0 page_counts
unfolding Rises page_counts
counts_rise = (omega arith, (omega arith, (omega arith, (omega arith, (omega arith, (omega arith, (omega arith, tt)))))))

cons_count : (x y : ℕ) (ys : List ℕ) → count_by (λ z. z == x) (y ∷ ys) ≡ one (y == x) + count_by (λ z. z == x) ys
cons_count x y ys = sum_by-cons (λ z. one (z == x)) y ys

none_below : (a : ℕ) (xs : List ℕ) (x : ℕ) → Rises a xs → x < a → count_by (λ z. z == x) xs ≡ 0
unfolding Rises
none_below a [] x h l = refl
none_below a (y ∷ ys) x h l =
    let first = h.0 in
    let rest = none_below (y + 1) ys x h.1 (omega arith) in
    let other : one (y == x) ≡ 0 = ap one (ne_eqb y x (λ e. absurd (omega arith))) in
    omega (arith, cons_count x y ys)

once : (a : ℕ) (xs : List ℕ) (x : ℕ) → Rises a xs → count_by (λ z. z == x) xs ≤ 1
unfolding Rises
once a [] x h = omega arith
once a (y ∷ ys) x h = elim (cases_eq y x) [
  | inl e ↦
      let rest = none_below (y + 1) ys x h.1 (omega arith) in
      let here : one (y == x) ≡ 1 = ap one (eq-eqb y x e) in
      omega (arith, cons_count x y ys)
  | inr ne ↦
      let rest = once (y + 1) ys x h.1 in
      let here : one (y == x) ≡ 0 = ap one (ne_eqb y x ne) in
      omega (arith, cons_count x y ys)
]

-- ---- pieces

count_pieces : (test : Fit → Bool) (f : ℕ → List Fit) (x : ℕ) (xs : List ℕ) → ((y : ℕ) → y ≢ x → count_by test (f y) ≡ 0) → count_by test (f x) ≤ 1
    → count_by test (flat_map f xs) ≤ count_by (λ z. z == x) xs
count_pieces test f x [] others here = omega arith
count_pieces test f x (y ∷ ys) others here =
    let rest = count_pieces test f x ys others here in
    let both = sum_by-append (λ z. one (test z)) (f y) (flat_map f ys) in
    elim (cases_eq y x) [
      | inl e ↦
          let first : count_by test (f y) ≤ 1 = subst (λ k. count_by test (f k) ≤ 1) (sym e) here in
          let there : one (y == x) ≡ 1 = ap one (eq-eqb y x e) in
          omega (arith, cons_count x y ys)
      | inr ne ↦
          let first = others y ne in
          let there : one (y == x) ≡ 0 = ap one (ne_eqb y x ne) in
          omega (arith, cons_count x y ys)
    ]

no_pieces : (test : Fit → Bool) (f : ℕ → List Fit) (xs : List ℕ) → ((y : ℕ) → count_by test (f y) ≡ 0) → count_by test (flat_map f xs) ≡ 0
no_pieces test f [] none = refl
no_pieces test f (y ∷ ys) none =
    let rest = no_pieces test f ys none in
    let first = none y in
    let both = sum_by-append (λ z. one (test z)) (f y) (flat_map f ys) in
    omega arith

one_piece : (test : Fit → Bool) (f : ℕ → List Fit) (x a : ℕ) (xs : List ℕ) → Rises a xs → ((y : ℕ) → y ≢ x → count_by test (f y) ≡ 0) → count_by test (f x) ≤ 1 → count_by test (flat_map f xs) ≤ 1
one_piece test f x a xs rises others here =
    let few = count_pieces test f x xs others here in
    let most = once a xs x rises in
    omega arith

choice_none : (test : Fit → Bool) (b : Bool) (xs : List Fit) → count_by test xs ≡ 0 → count_by test (if b then xs else []) ≡ 0
choice_none test true xs h = h
choice_none test false xs h = refl

choice_one : (test : Fit → Bool) (b : Bool) (xs : List Fit) → count_by test xs ≤ 1 → count_by test (if b then xs else []) ≤ 1
choice_one test true xs h = h
choice_one test false xs h = omega arith

single : (test : Fit → Bool) (f : Fit) → count_by test (f ∷ []) ≡ one (test f)
single test f = let all = sum_by-cons (λ z. one (test z)) f [] in all ∙ omega arith

one_most : (b : Bool) → one b ≤ 1
one_most true = omega arith
one_most false = omega arith

-- ---- the geometries

apart : (d s p x y z : ℕ) → (x ≢ d) ⊎ ((y ≢ s) ⊎ (z ≢ p)) → ((x == d) && (y == s) && (z == p)) ≡ false
apart d s p x y z (inl ne) = and_left ((x == d) && (y == s)) (z == p) (and_left (x == d) (y == s) (ne_eqb x d ne))
apart d s p x y z (inr (inl ne)) = and_left ((x == d) && (y == s)) (z == p) (and_right (x == d) (y == s) (ne_eqb y s ne))
apart d s p x y z (inr (inr ne)) = and_right ((x == d) && (y == s)) (z == p) (ne_eqb z p ne)

shape_none : (d s p n x y z : ℕ) (sample : Sample) (told : PagesTold) → (x ≢ d) ⊎ ((y ≢ s) ⊎ (z ≢ p)) → count_by (has_numbers d s p) (shape_fits n x y sample told z) ≡ 0
shape_none d s p n x y z sample told ne =
    let f : Fit = fit_of x y z (rows_in_size n x y / z) sample told in
    choice_none (has_numbers d s p) (is_shape n x y z) (f ∷ []) (single (has_numbers d s p) f ∙ ap one (apart d s p x y z ne))

shape_one : (d s p n x y z : ℕ) (sample : Sample) (told : PagesTold) → count_by (has_numbers d s p) (shape_fits n x y sample told z) ≤ 1
shape_one d s p n x y z sample told =
    let f : Fit = fit_of x y z (rows_in_size n x y / z) sample told in
    choice_one (has_numbers d s p) (is_shape n x y z) (f ∷ []) (subst (λ k. k ≤ 1) (sym (single (has_numbers d s p) f)) (one_most (has_numbers d s p f)))

area_none : (all : List ℕ) (d s p x y : ℕ) → (x ≢ d) ⊎ (y ≢ s) → count_by (has_numbers d s p) (area_fits all x y) ≡ 0
area_none all d s p x y ne =
    let n : ℕ = length all in
    let sample : Sample = sample_of x y (rows_in_size n x y) all in
    let told : PagesTold = pages_told_of x y (rows_in_size n x y) all in
    let pieces = no_pieces (has_numbers d s p) (shape_fits n x y sample told) page_counts (λ z. shape_none d s p n x y z sample told (wider z ne)) in
    ap (count_by (has_numbers d s p)) (area_when all x y (has_shape n x y) (nat_lt 0 sample.sound) refl refl)
    ∙ choice_none (has_numbers d s p) (has_shape n x y && nat_lt 0 sample.sound) (flat_map (shape_fits n x y sample told) page_counts) pieces
  where
    wider : (z : ℕ) → (x ≢ d) ⊎ (y ≢ s) → (x ≢ d) ⊎ ((y ≢ s) ⊎ (z ≢ p))
    wider z (inl h) = inl h
    wider z (inr h) = inr (inl h)

area_one : (all : List ℕ) (d s p : ℕ) → count_by (has_numbers d s p) (area_fits all d s) ≤ 1
area_one all d s p =
    let n : ℕ = length all in
    let sample : Sample = sample_of d s (rows_in_size n d s) all in
    let told : PagesTold = pages_told_of d s (rows_in_size n d s) all in
    let pieces = one_piece (has_numbers d s p) (shape_fits n d s sample told) p 0 page_counts counts_rise (λ z ne. shape_none d s p n d s z sample told (inr (inr ne))) (shape_one d s p n d s p sample told) in
    subst (λ l. count_by (has_numbers d s p) l ≤ 1) (sym (area_when all d s (has_shape n d s) (nat_lt 0 sample.sound) refl refl))
    (choice_one (has_numbers d s p) (has_shape n d s && nat_lt 0 sample.sound) (flat_map (shape_fits n d s sample told) page_counts) pieces)

pub once_law : NoFitTwiceLaw
unfolding fits_of data_fits
once_law all d s p =
    one_piece (has_numbers d s p) (data_fits all) d 0 data_sizes sizes_rise
    (λ x ne. no_pieces (has_numbers d s p) (area_fits all x) (range_with_len 32 225) (λ y. area_none all d s p x y (inl ne)))
    (one_piece (has_numbers d s p) (area_fits all d) s 32 (range_with_len 32 225) (range_rises 32 225) (λ y ne. area_none all d s p d y (inr ne)) (area_one all d s p))
