-- What the words of an arrangement mean.
use Rattle.std.proofs.Common.{◌≡◌, ◌⊎◌, ℕ, ◌+◌, ◌*◌, ◌/◌, ◌%◌, ◌<◌, ◌≤◌, Bool, true, false, cond, Some, None, refl, sym, ap, ◌∙◌, inl, inr, arith}
use Rattle.std.specs.Prelude.{◌||◌, is_some}
use Rattle.std.proofs.lemmas.Nat.{div-mul-add, mod-mul-add}
use Rattle.std.proofs.lemmas.Bool.{cases_lt}
use Rattle.lab_arrange.specs.Place.{in_run, place_in_dump, row_in_turns, run_place}
use Rattle.lab_arrange.specs.declared.arrangement.Arrangement.{Arrangement}
use Rattle.lab_arrange.specs.declared.words.Told.{Told}
use Rattle.lab_arrange.specs.declared.words.Told.TheVariants as told
use Rattle.lab_arrange.specs.Laws.{HeaderLaw, DumpLengthLaw, NotToldAgainLaw, BytesInPlaceLaw, PairLaw, StackedLaw, TwoPlanesLaw, ValueLaw}
use Rattle.lab_arrange.specs.Words.{set_told, with_told}
use Rattle.lab_arrange.proofs.PlaceLemmas.{data_next, data_start, in_data, in_spare, spare_next, spare_start}
use Rattle.lab_arrange.proofs.ReadLemmas.{missing_at, pair_first, pair_second}

-- ---- numbers

pub header_law : HeaderLaw
unfolding place_in_dump
header_law g a bytes row column = omega arith

pub length_law : DumpLengthLaw
length_law g a n fits = (let cut = fits.cut in record { header = omega arith; tail = omega arith; cut = λ l. omega arith })

-- ---- told once

again : (a : Arrangement) (t : Told) → with_told (set_told a t) t ≡ None
again a (told.Header n) = refl
again a (told.Tail n) = refl
again a (told.Cut n) = by (is_some a.tail)
  where
    by : (b : Bool) → cond (b || true) None (Some (set_told (set_told a (told.Cut n)) (told.Cut n))) ≡ None
    by true = refl
    by false = refl
again a (told.Spares s) = refl
again a told.SpareFirst = refl
again a told.Swapped = refl
again a told.Inverted = refl
again a told.Planes = refl

tail_behind : (a : Arrangement) (n m : ℕ) → with_told (set_told a (told.Cut n)) (told.Tail m) ≡ None
tail_behind a n m = by (is_some a.tail)
  where
    by : (b : Bool) → cond (b || true) None (Some (set_told (set_told a (told.Cut n)) (told.Tail m))) ≡ None
    by true = refl
    by false = refl

pub told_law : NotToldAgainLaw
told_law a n m = record { again = λ t. again a t; cut_behind = refl; tail_behind = tail_behind a n m }

-- ---- the areas

-- the next page of a run is of the same run
same_run : (n row : ℕ) → 0 < n → row % n + 1 < n → ((row + 1) / n ≡ row / n) × ((row + 1) % n ≡ row % n + 1)
same_run n row some l =
    let next : row / n * n + (row % n + 1) ≡ row + 1 = omega arith in
    (ap (λ k. k / n) (sym next) ∙ div-mul-add (row / n) n (row % n + 1) l, ap (λ k. k % n) (sym next) ∙ mod-mul-add (row / n) n (row % n + 1) l)

-- the first page of one
first_of_run : (n run : ℕ) → 0 < n → (run * n / n ≡ run) × (run * n % n ≡ 0)
first_of_run n run some =
    let same : run * n + 0 ≡ run * n = omega arith in
    (ap (λ k. k / n) (sym same) ∙ div-mul-add run n 0 some, ap (λ k. k % n) (sym same) ∙ mod-mul-add run n 0 some)

at_run : (n d s q i row c : ℕ) (first : Bool) → row / n ≡ q → row % n ≡ i → run_place n d s first row c ≡ q * (n * (d + s)) + in_run n d s first i c
at_run n d s q i row c first quotient rest = ap (λ k. k * (n * (d + s)) + in_run n d s first (row % n) c) quotient ∙ ap (λ k. q * (n * (d + s)) + in_run n d s first k c) rest

-- a page alone
one_page : (d s row column : ℕ) → run_place 1 d s false row column ≡ row * (d + s) + column
one_page d s row column = at_run 1 d s row 0 row column false quotient rest ∙ by (cases_lt column d)
  where
    quotient : row / 1 ≡ row
    quotient = omega arith

    rest : row % 1 ≡ 0
    rest = omega arith

    by : (column < d) ⊎ (d ≤ column) → row * (1 * (d + s)) + in_run 1 d s false 0 column ≡ row * (d + s) + column
    by (inl l) =
        let inner = in_data 1 d s 0 column false l in
        omega (arith, inner)
    by (inr l) =
        let inner = in_spare 1 d s 0 column false l in
        omega (arith, inner)

-- with nothing told
pub order_law : BytesInPlaceLaw
unfolding place_in_dump
order_law g = record {
  places = λ row column l. (let plain : 0 + run_place 1 g.data_bytes g.spare_bytes false row column ≡ run_place 1 g.data_bytes g.spare_bytes false row column = omega arith in plain ∙ one_page g.data_bytes g.spare_bytes row column);
  length_is = omega arith;
}

next_data : (n d s row : ℕ) (first : Bool) → 0 < n → 0 < d → row % n + 1 < n → run_place n d s first (row + 1) 0 ≡ run_place n d s first row 0 + d
next_data n d s row first some wide l =
    let same = same_run n row some l in
    let there = at_run n d s (row / n) (row % n + 1) (row + 1) 0 first same.0 same.1 in
    let a = in_data n d s (row % n + 1) 0 first wide in
    let b = in_data n d s (row % n) 0 first wide in
    omega (arith, there, a, b)

next_spare : (n d s row : ℕ) (first : Bool) → 0 < n → row % n + 1 < n → run_place n d s first (row + 1) d ≡ run_place n d s first row d + s
next_spare n d s row first some l =
    let same = same_run n row some l in
    let there = at_run n d s (row / n) (row % n + 1) (row + 1) d first same.0 same.1 in
    let a = in_spare n d s (row % n + 1) d first (omega arith) in
    let b = in_spare n d s (row % n) d first (omega arith) in
    omega (arith, there, a, b)

front_data : (n d s run : ℕ) (first : Bool) → 0 < n → 0 < d → run_place n d s first (run * n) 0 ≡ run * (n * (d + s)) + data_start n s first
front_data n d s run first some wide =
    let here = first_of_run n run some in
    let there = at_run n d s run 0 (run * n) 0 first here.0 here.1 in
    let a = in_data n d s 0 0 first wide in
    omega (arith, there, a)

front_spare : (n d s run : ℕ) (first : Bool) → 0 < n → run_place n d s first (run * n) d ≡ run * (n * (d + s)) + spare_start n d first
front_spare n d s run first some =
    let here = first_of_run n run some in
    let there = at_run n d s run 0 (run * n) d first here.0 here.1 in
    let a = in_spare n d s 0 d first (omega arith) in
    omega (arith, there, a)

pub stacked_law : StackedLaw
stacked_law n d s some wide = record {
  data_bytes = λ first row c l. data_next n d s row c first l;
  spare_bytes = λ first row c. spare_next n d s row c first;
  next_data = λ first row l. next_data n d s row first some wide l;
  next_spare = λ first row l. next_spare n d s row first some l;
  data_first = λ run. front_data n d s run false some wide ∙ omega arith;
  spare_behind = λ run. front_spare n d s run false some;
  spare_first = λ run. front_spare n d s run true some ∙ omega arith;
  data_behind = λ run. front_data n d s run true some wide;
}

-- ---- two planes

turn_at : (pages block p : ℕ) → p < pages → row_in_turns pages true (block * pages + p) ≡ block / 2 * (2 * pages) + (2 * p + block % 2)
turn_at pages block p l =
    let quotient = div-mul-add block pages p l in
    let rest = mod-mul-add block pages p l in
    ap (λ b. b / 2 * (2 * pages) + (2 * ((block * pages + p) % pages) + b % 2)) quotient ∙ ap (λ k. block / 2 * (2 * pages) + (2 * k + block % 2)) rest

pub turns_law : TwoPlanesLaw
turns_law pages k p l = record { even = even; odd = odd }
  where
    even : row_in_turns pages true (2 * k * pages + p) ≡ 2 * k * pages + 2 * p
    even =
        let half : 2 * k / 2 ≡ k = omega arith in
        let none : 2 * k % 2 ≡ 0 = omega arith in
        turn_at pages (2 * k) p l ∙ (ap (λ h. h * (2 * pages) + (2 * p + 2 * k % 2)) half ∙ (ap (λ r. k * (2 * pages) + (2 * p + r)) none ∙ omega arith))

    odd : row_in_turns pages true ((2 * k + 1) * pages + p) ≡ 2 * k * pages + 2 * p + 1
    odd =
        let half : (2 * k + 1) / 2 ≡ k = omega arith in
        let one : (2 * k + 1) % 2 ≡ 1 = omega arith in
        turn_at pages (2 * k + 1) p l ∙ (ap (λ h. h * (2 * pages) + (2 * p + (2 * k + 1) % 2)) half ∙ (ap (λ r. k * (2 * pages) + (2 * p + r)) one ∙ omega arith))

-- ---- bytes

pub pair_law : PairLaw
pair_law k =
    let first = pair_first (2 * k) (omega arith) in
    let second = pair_second (2 * k + 1) (omega arith) in
    (first, second ∙ omega arith)

pub value_law : ValueLaw
value_law byte = record {
  inverted = λ l. omega arith;
  plain = refl;
  past = λ inverted all place l. sym (missing_at inverted all place l);
}
