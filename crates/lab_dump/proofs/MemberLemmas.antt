-- Which geometries fit.
use Rattle.std.proofs.Common.{◌≡◌, ℕ, zero, suc, ◌+◌, ◌-◌, ◌*◌, ◌/◌, ◌%◌, ◌<◌, ◌≤◌, List, [], ◌∷◌, length, refl, sym, ap, ◌∙◌, subst, arith, inl, inr}
use Rattle.std.proofs.Common.{Bool, true, false, count_by}
use Rattle.std.specs.Prelude.{◌==◌, ◌&&◌, nat_lt, nat_le, if◌then◌else◌}
use Rattle.std.specs.List.{range_with_len, flat_map, Contains, list_any}
use Rattle.std.proofs.Math.Nat.{mul-mod_left, mul-div_cancel}
use Rattle.std.proofs.lemmas.Nat.{div-add-mod'}
use Rattle.std.proofs.lemmas.Bool.{and_parts, and_from, eqb-true, eq-eqb, leb-true, le-leb, ltb-true, lt-ltb, or_left, or_right, cases_eq}
use Rattle.std.proofs.lemmas.List.Elements.{Contains-append_left, Contains-append_right, Contains-append_cases, All-contains}
use Rattle.std.proofs.lemmas.List.FromFn.{get_or-range_with_len, length-range_with_len}
use Rattle.page_layout.specs.Geometry.{row_count}
use Rattle.page_layout.specs.Limits.{IsDataSize, IsSpareSize, IsPageCount, IsBlockCount}
use Rattle.lab_dump.specs.declared.fit.Fit.{Fit}
use Rattle.lab_dump.specs.declared.sample.Sample.{Sample}
use Rattle.lab_dump.specs.declared.told.PagesTold.{PagesTold}
use Rattle.lab_dump.specs.Sample.{looked_count, looked_row, look_at, is_sound_look, looked_by, sample_of}
use Rattle.lab_dump.specs.Told.{pages_told_of}
use Rattle.lab_dump.specs.Shape.{data_sizes, page_counts, rows_in_size, are_blocks, is_shape, has_shape}
use Rattle.lab_dump.specs.Fits.{fit_of, shape_fits, area_fits, data_fits, fits_of}
use Rattle.lab_dump.specs.FitLaws.{IsFitOfDump, FitLaw, OwnGeometryLaw}
use Rattle.lab_dump.proofs.SampleLemmas.{one, count_last}
use Rattle.lab_dump.proofs.ShapeLemmas.{all_sizes, all_counts, size_among, count_among, contains_head, contains_more}
use Rattle.lab_dump.proofs.FitLemmas.{area_when, within}

-- ---- lists joined from pieces

from_piece : {X : Type 0} (f : ℕ → List X) (xs : List ℕ) (y : X) → Contains (flat_map f xs) y → (x : ℕ) × Contains xs x × Contains (f x) y
from_piece f [] y h = absurd (let l = h.1 in omega arith)
from_piece f (x ∷ xs) y h = elim (Contains-append_cases (f x) (flat_map f xs) y h) [
  | inl here ↦ (x, contains_head x xs, here)
  | inr later ↦ let rest = from_piece f xs y later in (rest.0, contains_more x rest.0 xs rest.1, rest.2)
]

into_piece : {X : Type 0} (f : ℕ → List X) (xs : List ℕ) (x : ℕ) (y : X) → Contains xs x → Contains (f x) y → Contains (flat_map f xs) y
into_piece f [] x y h there = absurd (let l = h.1 in omega arith)
into_piece f (z ∷ xs) x y (zero, l, e) there = Contains-append_left (f z) (flat_map f xs) y (subst (λ w. Contains (f w) y) (sym e) there)
into_piece f (z ∷ xs) x y (suc k, l, e) there = Contains-append_right (f z) (flat_map f xs) y (into_piece f xs x y (k, omega arith, e) there)

from_range : (a n x : ℕ) → Contains (range_with_len a n) x → (a ≤ x) × (x < a + n)
from_range a n x h =
    let l : h.0 < n = omega (arith, h.1, length-range_with_len a n) in
    let e : a + h.0 ≡ x = sym (get_or-range_with_len a n h.0 x l) ∙ h.2 in
    (omega arith, omega arith)

into_range : (a n x : ℕ) → a ≤ x → x < a + n → Contains (range_with_len a n) x
into_range a n x least most =
    let l : x - a < n = omega arith in
    (x - a, omega (arith, length-range_with_len a n), get_or-range_with_len a n (x - a) x l ∙ omega arith)

from_choice : {X : Type 0} (b : Bool) (xs : List X) (y : X) → Contains (if b then xs else []) y → (b ≡ true) × Contains xs y
from_choice true xs y h = (refl, h)
from_choice false xs y h = absurd (let l = h.1 in omega arith)

into_choice : {X : Type 0} (b : Bool) (xs : List X) (y : X) → b ≡ true → Contains xs y → Contains (if b then xs else []) y
into_choice true xs y e h = h
into_choice false xs y e h = absurd (let clash = e in cc)

only_one : {X : Type 0} (x y : X) → Contains (x ∷ []) y → y ≡ x
only_one x y (zero, l, e) = sym e
only_one x y (suc k, l, e) = absurd (omega arith)

any_there : (test : ℕ → Bool) (xs : List ℕ) (x : ℕ) → Contains xs x → test x ≡ true → list_any test xs ≡ true
any_there test [] x h e = absurd (let l = h.1 in omega arith)
any_there test (z ∷ xs) x (zero, l, is) e = or_left (test z) (list_any test xs) (ap test is ∙ e)
any_there test (z ∷ xs) x (suc k, l, is) e = or_right (test z) (list_any test xs) (any_there test xs x (k, omega arith, is) e)

-- ---- one shape

-- what a shape says in numbers
record Shaped (size d s p : ℕ) : Type 0 where
  blocks : IsBlockCount d p (rows_in_size size d s / p)
  rows_is : rows_in_size size d s ≡ rows_in_size size d s / p * p
  whole : size ≡ rows_in_size size d s * (d + s)

shaped : (size d s p : ℕ) → is_shape size d s p ≡ true → Shaped size d s p
shaped size d s p h =
    let a = and_parts ((size % (d + s) == 0) && (rows_in_size size d s % p == 0)) (are_blocks d p (rows_in_size size d s / p)) h in
    let b = and_parts (size % (d + s) == 0) (rows_in_size size d s % p == 0) a.0 in
    let c = and_parts (nat_le 12 (rows_in_size size d s / p) && nat_le (rows_in_size size d s / p) 4096) (nat_le (rows_in_size size d s / p) (d / 4 * p)) a.1 in
    let e = and_parts (nat_le 12 (rows_in_size size d s / p)) (nat_le (rows_in_size size d s / p) 4096) c.0 in
    let first : size % (d + s) ≡ 0 = eqb-true (size % (d + s)) 0 b.0 in
    let second : rows_in_size size d s % p ≡ 0 = eqb-true (rows_in_size size d s % p) 0 b.1 in
    let sum = div-add-mod' size (d + s) in
    let product = div-add-mod' (rows_in_size size d s) p in
    record {
      blocks = record { least = leb-true 12 (rows_in_size size d s / p) e.0; most = leb-true (rows_in_size size d s / p) 4096 e.1; within_table = leb-true (rows_in_size size d s / p) (d / 4 * p) c.1 };
      rows_is = omega arith;
      whole = omega arith;
    }

rows_are : (size b p n : ℕ) → 0 < n → size ≡ b * p * n → size / n ≡ b * p
rows_are size b p n some e = ap (λ k. k / n) e ∙ mul-div_cancel (b * p) some

is_shaped : (size d s p b : ℕ) → 0 < d → 0 < p → IsBlockCount d p b → size ≡ b * p * (d + s) → is_shape size d s p ≡ true
is_shaped size d s p b some_d some_p blocks e =
    let rows : rows_in_size size d s ≡ b * p = rows_are size b p (d + s) (omega arith) e in
    let count : rows_in_size size d s / p ≡ b = ap (λ k. k / p) rows ∙ mul-div_cancel b some_p in
    let first : size % (d + s) ≡ 0 = ap (λ k. k % (d + s)) e ∙ mul-mod_left (b * p) (d + s) in
    let second : rows_in_size size d s % p ≡ 0 = ap (λ k. k % p) rows ∙ mul-mod_left b p in
    let third : are_blocks d p (rows_in_size size d s / p) ≡ true = ap (are_blocks d p) count
    ∙ and_from (nat_le 12 b && nat_le b 4096) (nat_le b (d / 4 * p)) (and_from (nat_le 12 b) (nat_le b 4096) (le-leb 12 b blocks.least) (le-leb b 4096 blocks.most)) (le-leb b (d / 4 * p) blocks.within_table) in
    and_from ((size % (d + s) == 0) && (rows_in_size size d s % p == 0)) (are_blocks d p (rows_in_size size d s / p))
    (and_from (size % (d + s) == 0) (rows_in_size size d s % p == 0) (eq-eqb (size % (d + s)) 0 first) (eq-eqb (rows_in_size size d s % p) 0 second)) third

-- ---- all that fit

-- the fit of these numbers, by the rows that they come to
abbrev pub fit_at : List ℕ → ℕ → ℕ → ℕ → ℕ → Fit
fit_at all d s p b = fit_of d s p b (sample_of d s (b * p) all) (pages_told_of d s (b * p) all)

is_fit : (all : List ℕ) (d s p b : ℕ) (f : Fit) → IsDataSize d → IsSpareSize s → IsPageCount p → IsBlockCount d p b → length all ≡ b * p * (d + s) → 0 < (sample_of d s (b * p) all).sound → f ≡ fit_at all d s p b → IsFitOfDump all f
is_fit all d s p b f sized spare pages blocks size some e = subst (IsFitOfDump all) (sym e) (record {
  limits = record { data_size = sized; spare_size = spare; page_count = pages; block_count = blocks; sector_count = within (pages_told_of d s (b * p) all).sectors };
  whole = size;
  evidence = refl;
  some_sound = some;
})

from_fits : (all : List ℕ) (f : Fit) → Contains (fits_of all) f → IsFitOfDump all f
unfolding fits_of data_fits
from_fits all f h =
    let by_data = from_piece (data_fits all) data_sizes f h in
    let d : ℕ = by_data.0 in
    let by_spare = from_piece (area_fits all d) (range_with_len 32 225) f by_data.2 in
    let s : ℕ = by_spare.0 in
    let spare = from_range 32 225 s by_spare.1 in
    let n : ℕ = length all in
    let rows : ℕ = rows_in_size n d s in
    let sample : Sample = sample_of d s rows all in
    let told : PagesTold = pages_told_of d s rows all in
    let chosen = from_choice (has_shape n d s && nat_lt 0 sample.sound) (flat_map (shape_fits n d s sample told) page_counts) f
    (subst (λ l. Contains l f) (area_when all d s (has_shape n d s) (nat_lt 0 sample.sound) refl refl) by_spare.2) in
    let tests = and_parts (has_shape n d s) (nat_lt 0 sample.sound) chosen.0 in
    let by_pages = from_piece (shape_fits n d s sample told) page_counts f chosen.1 in
    let p : ℕ = by_pages.0 in
    let one = from_choice (is_shape n d s p) (fit_of d s p (rows / p) sample told ∷ []) f by_pages.2 in
    let numbers = shaped n d s p one.0 in
    let is : f ≡ fit_of d s p (rows / p) sample told = only_one (fit_of d s p (rows / p) sample told) f one.1 in
    is_fit all d s p (rows / p) f (All-contains IsDataSize data_sizes d all_sizes by_data.1) (record { least = spare.0; most = omega (arith, spare.1) }) (All-contains IsPageCount page_counts p all_counts by_pages.1) numbers.blocks
    (numbers.whole ∙ ap (λ k. k * (d + s)) numbers.rows_is) (subst (λ k. 0 < (sample_of d s k all).sound) numbers.rows_is (ltb-true 0 sample.sound tests.1))
    (is ∙ ap (λ k. fit_of d s p (rows / p) (sample_of d s k all) (pages_told_of d s k all)) numbers.rows_is)

into_fits : (all : List ℕ) (f : Fit) → IsFitOfDump all f → Contains (fits_of all) f
unfolding fits_of data_fits
into_fits all f h =
    let d : ℕ = f.data_bytes in
    let s : ℕ = f.spare_bytes in
    let p : ℕ = f.pages in
    let b : ℕ = f.blocks in
    let n : ℕ = length all in
    let rows : ℕ = rows_in_size n d s in
    let rows_is : rows ≡ b * p = rows_are n b p (d + s) (let least = h.limits.data_size.least in omega arith) h.whole in
    let count : rows / p ≡ b = ap (λ k. k / p) rows_is ∙ mul-div_cancel b (let least = h.limits.page_count.least in omega arith) in
    let sample : Sample = sample_of d s rows all in
    let told : PagesTold = pages_told_of d s rows all in
    let shape : is_shape n d s p ≡ true = is_shaped n d s p b (let least = h.limits.data_size.least in omega arith) (let least = h.limits.page_count.least in omega arith) h.limits.block_count h.whole in
    let among = count_among p h.limits.page_count in
    let sound_is : f.sound.0 ≡ sample.sound = ap (λ x. x.sound.0) h.evidence ∙ ap (λ k. (sample_of d s k all).sound) (sym rows_is) in
    let some : 0 < sample.sound = subst (λ k. 0 < k) sound_is h.some_sound in
    let is : f ≡ fit_of d s p (rows / p) sample told = h.evidence ∙ (ap (λ k. fit_of d s p b (sample_of d s k all) (pages_told_of d s k all)) (sym rows_is) ∙ ap (λ k. fit_of d s p k sample told) (sym count)) in
    let one : Contains (shape_fits n d s sample told p) f = into_choice (is_shape n d s p) (fit_of d s p (rows / p) sample told ∷ []) f shape (subst (λ g. Contains (g ∷ []) f) is (contains_head f [])) in
    let pieces : Contains (flat_map (shape_fits n d s sample told) page_counts) f = into_piece (shape_fits n d s sample told) page_counts p f among one in
    let chosen = into_choice (has_shape n d s && nat_lt 0 sample.sound) (flat_map (shape_fits n d s sample told) page_counts) f
    (and_from (has_shape n d s) (nat_lt 0 sample.sound) (any_there (is_shape n d s) page_counts p among shape) (lt-ltb 0 sample.sound some)) pieces in
    let here : Contains (area_fits all d s) f = subst (λ l. Contains l f) (sym (area_when all d s (has_shape n d s) (nat_lt 0 sample.sound) refl refl)) chosen in
    into_piece (data_fits all) data_sizes d f (size_among d h.limits.data_size) (into_piece (area_fits all d) (range_with_len 32 225) s f (into_range 32 225 s h.limits.spare_size.least (let most = h.limits.spare_size.most in omega arith)) here)

pub fit_law : FitLaw
fit_law all f = (from_fits all f, into_fits all f)

-- ---- a die's own geometry

count_some : (test : ℕ → Bool) (n k : ℕ) → k < n → test k ≡ true → 0 < count_by test (range_with_len 0 n)
count_some test zero k l e = absurd (omega arith)
count_some test (suc n) k l e =
    let next : n + 1 ≡ suc n = omega arith in
    let last = count_last test n in
    subst (λ m. 0 < count_by test (range_with_len 0 m)) next (elim (cases_eq k n) [
      | inl same ↦ let here : one (test n) ≡ 1 = ap one (sym (ap test same) ∙ e) in omega arith
      | inr other ↦ let before = count_some test n k (omega arith) e in omega arith
    ])

sound_some : (d s rows place : ℕ) (all : List ℕ) → place < looked_count rows → is_sound_look (look_at d s all (looked_row rows place)) ≡ true → 0 < (sample_of d s rows all).sound
unfolding sample_of looked_by
sound_some d s rows place all l e = count_some (λ k. is_sound_look (look_at d s all (looked_row rows k))) (looked_count rows) place l e

pub own_law : OwnGeometryLaw
own_law g all place size l sound =
    let f : Fit = fit_at all g.data_bytes g.spare_bytes g.pages g.blocks in
    let fit = is_fit all g.data_bytes g.spare_bytes g.pages g.blocks f g.limits.data_size g.limits.spare_size g.limits.page_count g.limits.block_count size
    (sound_some g.data_bytes g.spare_bytes (row_count g) place all l sound) refl in
    (f, into_fits all f fit, record { data_is = refl; spare_is = refl; pages_is = refl; blocks_is = refl })
