-- Each byte of the pages stands once.
use Rattle.std.proofs.Common.{◌≡◌, ◌⊎◌, ℕ, suc, ◌+◌, ◌-◌, ◌*◌, ◌/◌, ◌%◌, ◌<◌, ◌≤◌, Bool, true, false, cond, refl, sym, ap, ◌∙◌, subst, inl, inr, arith}
use Rattle.std.specs.Prelude.{◌==◌, ◌&&◌, ◌||◌, not, nat_le}
use Rattle.std.specs.Int.{is_power_of_two}
use lib.Count.{ones}
use Rattle.std.proofs.Math.Nat.{mul-le-mul_right, div-lt_iff_lt-mul}
use Rattle.std.proofs.lemmas.Nat.{div-add-mod', div-mul-add, mod-mul-add, mod_below, mul-add-lt}
use Rattle.std.proofs.lemmas.Bool.{agree_below_at, and_from, cases_lt, eqb-true, le-leb, le-ltb, lt-ltb, or_cases}
use Rattle.page_layout.specs.declared.geometry.Geometry.{Geometry}
use Rattle.page_layout.specs.Geometry.{row_count, page_bytes}
use Rattle.page_layout.specs.Limits.{IsPageCount}
use Rattle.lab_dump.specs.Scan.{image_bytes}
use Rattle.lab_arrange.specs.declared.arrangement.Arrangement.{Arrangement}
use Rattle.lab_arrange.specs.Place.{IsFitting, body_place, header_length, in_run, other_in_pair, place_in_dump, row_in_turns, run_of, run_place, swapped_place}
use Rattle.lab_arrange.specs.Laws.{IsOfPages, IsOnDie, OnceLaw, Spot, row_back, run_spot, spot, spot_in, spot_of}
use Rattle.lab_arrange.proofs.PlaceLemmas.{body_lt, in_data, in_run_lt, in_spare, runs_of, runs_whole, some_pages, some_run}
use Rattle.lab_arrange.proofs.ReadLemmas.{even_or_odd, pair_first, pair_second}

-- ---- in a run

spot_here : (r r' c c' : ℕ) → r ≡ r' → c ≡ c' → spot r c ≡ spot r' c'
spot_here r r' c c' a b = ap (λ k. spot k c) a ∙ ap (spot r') b

in_there : (n d s i c : ℕ) (first : Bool) → i < n → c < d + s → spot_in n d s first (in_run n d s first i c) ≡ spot i c
in_there n d s i c false below within = by (cases_lt c d)
  where
    by : (c < d) ⊎ (d ≤ c) → spot_in n d s false (in_run n d s false i c) ≡ spot i c
    by (inl l) =
        let here = in_data n d s i c false l in
        let place : in_run n d s false i c ≡ i * d + c = omega (arith, here) in
        let rows : suc i * d ≤ n * d = mul-le-mul_right d below in
        ap (spot_in n d s false) place
        ∙ (ap (λ b. cond b (spot ((i * d + c) / d) ((i * d + c) % d)) (spot ((i * d + c - n * d) / s) (d + (i * d + c - n * d) % s))) (lt-ltb (i * d + c) (n * d) (omega arith))
        ∙ spot_here _ i _ c (div-mul-add i d c l) (mod-mul-add i d c l))
    by (inr l) =
        let here = in_spare n d s i c false l in
        let rest : c - d < s = omega arith in
        let place : in_run n d s false i c ≡ n * d + (i * s + (c - d)) = omega (arith, here) in
        let past : n * d + (i * s + (c - d)) - n * d ≡ i * s + (c - d) = omega arith in
        let x : ℕ = n * d + (i * s + (c - d)) in
        ap (spot_in n d s false) place
        ∙ (ap (λ b. cond b (spot (x / d) (x % d)) (spot ((x - n * d) / s) (d + (x - n * d) % s))) (le-ltb x (n * d) (omega arith))
        ∙ (ap (λ y. spot (y / s) (d + y % s)) past
        ∙ spot_here _ i _ c (div-mul-add i s (c - d) rest) (ap (λ k. d + k) (mod-mul-add i s (c - d) rest) ∙ omega arith)))
in_there n d s i c true below within = by (cases_lt c d)
  where
    by : (c < d) ⊎ (d ≤ c) → spot_in n d s true (in_run n d s true i c) ≡ spot i c
    by (inl l) =
        let here = in_data n d s i c true l in
        let place : in_run n d s true i c ≡ n * s + (i * d + c) = omega (arith, here) in
        let past : n * s + (i * d + c) - n * s ≡ i * d + c = omega arith in
        let x : ℕ = n * s + (i * d + c) in
        ap (spot_in n d s true) place
        ∙ (ap (λ b. cond b (spot (x / s) (d + x % s)) (spot ((x - n * s) / d) ((x - n * s) % d))) (le-ltb x (n * s) (omega arith))
        ∙ (ap (λ y. spot (y / d) (y % d)) past ∙ spot_here _ i _ c (div-mul-add i d c l) (mod-mul-add i d c l)))
    by (inr l) =
        let here = in_spare n d s i c true l in
        let rest : c - d < s = omega arith in
        let place : in_run n d s true i c ≡ i * s + (c - d) = omega (arith, here) in
        let rows : suc i * s ≤ n * s = mul-le-mul_right s below in
        let x : ℕ = i * s + (c - d) in
        ap (spot_in n d s true) place
        ∙ (ap (λ b. cond b (spot (x / s) (d + x % s)) (spot ((x - n * s) / d) ((x - n * s) % d))) (lt-ltb x (n * s) (omega arith))
        ∙ spot_here _ i _ c (div-mul-add i s (c - d) rest) (ap (λ k. d + k) (mod-mul-add i s (c - d) rest) ∙ omega arith))

-- a page of a run, and its byte, that stands in a place of it
pub record IsIn (n d s : ℕ) (first : Bool) (place : ℕ) (x : Spot) : Type 0 where
  pub row_in : x.row < n
  pub column_in : x.column < d + s
  pub place_is : in_run n d s first x.row x.column ≡ place

in_back : (n d s place : ℕ) (first : Bool) → 0 < n → 0 < d → 0 < s → place < n * (d + s) → IsIn n d s first place (spot_in n d s first place)
in_back n d s place false some wide narrow below = by (cases_lt place (n * d))
  where
    P : Spot → Type 0
    P x = IsIn n d s false place x

    by : (place < n * d) ⊎ (n * d ≤ place) → P (spot_in n d s false place)
    by (inl l) =
        let c : place % d < d = mod_below place d wide in
        let row : place / d < n = (div-lt_iff_lt-mul wide).1 l in
        let here = in_data n d s (place / d) (place % d) false c in
        let whole = div-add-mod' place d in
        subst P (sym (ap (λ b. cond b (spot (place / d) (place % d)) (spot ((place - n * d) / s) (d + (place - n * d) % s))) (lt-ltb place (n * d) l)))
        (record { row_in = row; column_in = omega arith; place_is = omega (arith, here, whole) })
    by (inr l) =
        let y : ℕ = place - n * d in
        let c : y % s < s = mod_below y s narrow in
        let row : y / s < n = (div-lt_iff_lt-mul narrow).1 (omega arith) in
        let here = in_spare n d s (y / s) (d + y % s) false (omega arith) in
        let whole = div-add-mod' y s in
        subst P (sym (ap (λ b. cond b (spot (place / d) (place % d)) (spot ((place - n * d) / s) (d + (place - n * d) % s))) (le-ltb place (n * d) l)))
        (record { row_in = row; column_in = omega arith; place_is = omega (arith, here, whole) })
in_back n d s place true some wide narrow below = by (cases_lt place (n * s))
  where
    P : Spot → Type 0
    P x = IsIn n d s true place x

    by : (place < n * s) ⊎ (n * s ≤ place) → P (spot_in n d s true place)
    by (inl l) =
        let c : place % s < s = mod_below place s narrow in
        let row : place / s < n = (div-lt_iff_lt-mul narrow).1 l in
        let here = in_spare n d s (place / s) (d + place % s) true (omega arith) in
        let whole = div-add-mod' place s in
        subst P (sym (ap (λ b. cond b (spot (place / s) (d + place % s)) (spot ((place - n * s) / d) ((place - n * s) % d))) (lt-ltb place (n * s) l)))
        (record { row_in = row; column_in = omega arith; place_is = omega (arith, here, whole) })
    by (inr l) =
        let y : ℕ = place - n * s in
        let c : y % d < d = mod_below y d wide in
        let row : y / d < n = (div-lt_iff_lt-mul wide).1 (omega arith) in
        let here = in_data n d s (y / d) (y % d) true c in
        let whole = div-add-mod' y d in
        subst P (sym (ap (λ b. cond b (spot (place / s) (d + place % s)) (spot ((place - n * s) / d) ((place - n * s) % d))) (le-ltb place (n * s) l)))
        (record { row_in = row; column_in = omega arith; place_is = omega (arith, here, whole) })

-- ---- of all runs

run_there : (n d s row c : ℕ) (first : Bool) → 0 < n → c < d + s → run_spot n d s first (run_place n d s first row c) ≡ spot row c
run_there n d s row c first some within =
    let i = mod_below row n some in
    let o : ℕ = in_run n d s first (row % n) c in
    let inner : o < n * (d + s) = in_run_lt n d s (row % n) c first i within in
    let q = row / n in
    let quotient = div-mul-add q (n * (d + s)) o inner in
    let rest = mod-mul-add q (n * (d + s)) o inner in
    let found = in_there n d s (row % n) c first i within in
    let whole = div-add-mod' row n in
    ap (λ k. spot (k * n + (spot_in n d s first (run_place n d s first row c % (n * (d + s)))).row) (spot_in n d s first (run_place n d s first row c % (n * (d + s)))).column) quotient
    ∙ (ap (λ k. spot (q * n + (spot_in n d s first k).row) (spot_in n d s first k).column) rest
    ∙ (ap (λ x. spot (q * n + x.row) x.column) found ∙ ap (λ k. spot k c) whole))

-- the page, and its byte, that stands in a place of all runs
pub record IsAmong (n m d s : ℕ) (first : Bool) (place : ℕ) (x : Spot) : Type 0 where
  pub row_in : x.row < m * n
  pub column_in : x.column < d + s
  pub place_is : run_place n d s first x.row x.column ≡ place

run_back : (n m d s place : ℕ) (first : Bool) → 0 < n → 0 < d → 0 < s → place < m * n * (d + s) → IsAmong n m d s first place (run_spot n d s first place)
run_back n m d s place first some wide narrow below =
    let size : ℕ = n * (d + s) in
    let some_bytes : 0 < size = (let one : 1 * (d + s) ≤ n * (d + s) = mul-le-mul_right (d + s) some in omega arith) in
    let o = mod_below place size some_bytes in
    let inner = in_back n d s (place % size) first some wide narrow o in
    let x : Spot = spot_in n d s first (place % size) in
    let q : ℕ = place / size in
    let few : q < m = (div-lt_iff_lt-mul some_bytes).1 (omega arith) in
    let row = mul-add-lt q n x.row m few inner.row_in in
    let quotient = div-mul-add q n x.row inner.row_in in
    let rest = mod-mul-add q n x.row inner.row_in in
    let whole = div-add-mod' place size in
    record {
      row_in = omega (arith, row);
      column_in = inner.column_in;
      place_is = ap (λ k. k * size + in_run n d s first ((q * n + x.row) % n) x.column) quotient ∙ (ap (λ k. q * size + in_run n d s first k x.column) rest ∙ (ap (λ k. q * size + k) inner.place_is ∙ whole));
    }

-- ---- in turns

turn_there : (pages row : ℕ) (planes : Bool) → 0 < pages → row_back pages planes (row_in_turns pages planes row) ≡ row
turn_there pages row false some = refl
turn_there pages row true some =
    let p = mod_below row pages some in
    let b : ℕ = row / pages in
    let two : b % 2 < 2 = mod_below b 2 (omega arith) in
    let o : ℕ = 2 * (row % pages) + b % 2 in
    let few : o < 2 * pages = omega arith in
    let k : ℕ = b / 2 in
    let turn : ℕ = k * (2 * pages) + o in
    let quotient : turn / (2 * pages) ≡ k = div-mul-add k (2 * pages) o few in
    let rest : turn % (2 * pages) ≡ o = mod-mul-add k (2 * pages) o few in
    let parity : turn % 2 ≡ b % 2 = (let same : turn ≡ (k * pages + row % pages) * 2 + b % 2 = omega arith in ap (λ n. n % 2) same ∙ mod-mul-add (k * pages + row % pages) 2 (b % 2) two) in
    let half : o / 2 ≡ row % pages = omega arith in
    let block : k * 2 + b % 2 ≡ b = div-add-mod' b 2 in
    let whole : b * pages + row % pages ≡ row = div-add-mod' row pages in
    ap (λ q. (q * 2 + turn % 2) * pages + turn % (2 * pages) / 2) quotient
    ∙ (ap (λ r. (k * 2 + r) * pages + turn % (2 * pages) / 2) parity
    ∙ (ap (λ r. (k * 2 + b % 2) * pages + r / 2) rest
    ∙ (ap (λ r. (k * 2 + b % 2) * pages + r) half ∙ (ap (λ n. n * pages + row % pages) block ∙ whole))))

-- the row whose page stands in the place of a row
pub record IsTurned (pages blocks : ℕ) (planes : Bool) (row found : ℕ) : Type 0 where
  pub row_in : found < blocks * pages
  pub turn_is : row_in_turns pages planes found ≡ row

turn_back : (pages blocks row : ℕ) (planes : Bool) → 0 < pages → row < blocks * pages → (planes ≡ true → blocks % 2 ≡ 0) → IsTurned pages blocks planes row (row_back pages planes row)
turn_back pages blocks row false some below even = record { row_in = below; turn_is = refl }
turn_back pages blocks row true some below even =
    let pairs : blocks ≡ blocks / 2 * 2 = (let e = even refl in omega arith) in
    let size : ℕ = 2 * pages in
    let some_size : 0 < size = omega arith in
    let q : ℕ = row / size in
    let o : ℕ = row % size in
    let few : o < size = mod_below row size some_size in
    let r : ℕ = row % 2 in
    let two : r < 2 = mod_below row 2 (omega arith) in
    let p : ℕ = o / 2 in
    let whole : q * size + o ≡ row = div-add-mod' row size in
    let parity : o % 2 ≡ r = (let same : (q * pages) * 2 + o ≡ row = omega arith in odd_of (q * pages) o row same) in
    let p_few : p < pages = omega arith in
    let inside : row < blocks / 2 * size = (let same : blocks / 2 * size ≡ blocks / 2 * 2 * pages = omega arith in let all : blocks / 2 * 2 * pages ≡ blocks * pages = ap (λ n. n * pages) (sym pairs) in omega (arith, same, all)) in
    let q_few : q < blocks / 2 = (div-lt_iff_lt-mul some_size).1 inside in
    let block : ℕ = q * 2 + r in
    let block_few : block < blocks = omega arith in
    let found : ℕ = block * pages + p in
    let in_all = mul-add-lt block pages p blocks block_few p_few in
    let quotient : found / pages ≡ block = div-mul-add block pages p p_few in
    let rest : found % pages ≡ p = mod-mul-add block pages p p_few in
    let half : block / 2 ≡ q = div-mul-add q 2 r two in
    let left : block % 2 ≡ r = mod-mul-add q 2 r two in
    record {
      row_in = omega (arith, in_all);
      turn_is = ap (λ b. b / 2 * size + (2 * (found % pages) + b % 2)) quotient
          ∙ (ap (λ k. block / 2 * size + (2 * k + block % 2)) rest
          ∙ (ap (λ k. k * size + (2 * p + block % 2)) half ∙ (ap (λ k. q * size + (2 * p + k)) left ∙ omega (arith, whole, parity))));
    }
  where
    odd_of : (k o row : ℕ) → k * 2 + o ≡ row → o % 2 ≡ row % 2
    odd_of k o row e = omega arith

-- ---- pairs

pair_twice : (k : ℕ) → other_in_pair (other_in_pair k) ≡ k
pair_twice k = by (even_or_odd k)
  where
    by : (k % 2 ≡ 0) ⊎ (k % 2 ≡ 1) → other_in_pair (other_in_pair k) ≡ k
    by (inl z) = ap other_in_pair (pair_first k z) ∙ (pair_second (k + 1) (omega arith) ∙ omega arith)
    by (inr z) = ap other_in_pair (pair_second k z) ∙ (pair_first (k - 1) (omega arith) ∙ omega arith)

swapped_twice : (swapped : Bool) (k : ℕ) → swapped_place swapped (swapped_place swapped k) ≡ k
swapped_twice false k = refl
swapped_twice true k = pair_twice k

-- a pair lies within an even number of bytes, or outside
swapped_lt : (swapped : Bool) (k n : ℕ) → n % 2 ≡ 0 → k < n → swapped_place swapped k < n
swapped_lt false k n even l = l
swapped_lt true k n even l = by (even_or_odd k)
  where
    by : (k % 2 ≡ 0) ⊎ (k % 2 ≡ 1) → other_in_pair k < n
    by (inl z) = (let a = pair_first k z in omega (arith, a))
    by (inr z) = (let a = pair_second k z in omega (arith, a))

-- the pages of a block are an even number
is_even_count : ℕ → Bool
is_even_count n = not (is_power_of_two n && nat_le 4 n) || (n % 2 == 0)

even_there : (n : ℕ) → n < 257 → is_even_count n ≡ true
unfolding ones is_even_count
even_there n l = agree_below_at is_even_count (λ m. true) 257 n refl l

even_pages : (n : ℕ) → IsPageCount n → n % 2 ≡ 0
unfolding is_even_count
even_pages n h = elim (or_cases (not (is_power_of_two n && nat_le 4 n)) (n % 2 == 0) (even_there n (omega (arith, h.most)))) [
  | inl e ↦ absurd (let not_so : not true ≡ true = ap not (sym (and_from (is_power_of_two n) (nat_le 4 n) h.power (le-leb 4 n h.least))) ∙ e in cc)
  | inr e ↦ eqb-true (n % 2) 0 e
]

pub even_bytes : (g : Geometry) → image_bytes g % 2 ≡ 0
even_bytes g =
    let even = even_pages g.pages g.limits.page_count in
    let half : ℕ = g.pages / 2 in
    let pages : g.pages ≡ half * 2 = omega arith in
    let same : image_bytes g ≡ (g.blocks * half * page_bytes g) * 2 + 0 = ap (λ n. g.blocks * n * page_bytes g) pages ∙ omega arith in
    ap (λ n. n % 2) same ∙ mod-mul-add (g.blocks * half * page_bytes g) 2 0 (omega arith)

-- ---- the whole

wide : (g : Geometry) → 0 < g.data_bytes
wide g = (let l = g.limits.data_size.least in omega arith)

narrow : (g : Geometry) → 0 < g.spare_bytes
narrow g = (let l = g.limits.spare_size.least in omega arith)

there : (g : Geometry) (a : Arrangement) (x : Spot) → IsFitting g a → IsOnDie g x → IsOfPages g a (place_in_dump g a x.row x.column) × (spot_of g a (place_in_dump g a x.row x.column) ≡ x)
unfolding place_in_dump spot_of
there g a x fits on =
    let b : ℕ = body_place g a x.row x.column in
    let inside : b < image_bytes g = body_lt g a x.row x.column fits on.row_in on.column_in in
    let k : ℕ = swapped_place a.swapped b in
    let few : k < image_bytes g = swapped_lt a.swapped b (image_bytes g) (even_bytes g) inside in
    let back : header_length a + k - header_length a ≡ k = omega arith in
    let n = run_of g a.spares in
    let to_spot : ℕ → Spot = λ y. spot (row_back g.pages a.planes (run_spot n g.data_bytes g.spare_bytes a.spare_first y).row) (run_spot n g.data_bytes g.spare_bytes a.spare_first y).column in (
      record { behind = omega arith; before = omega arith },
      ap (λ y. to_spot (swapped_place a.swapped y)) back
          ∙ (ap to_spot (swapped_twice a.swapped b)
          ∙ (ap (λ y. spot (row_back g.pages a.planes y.row) y.column) (run_there n g.data_bytes g.spare_bytes (row_in_turns g.pages a.planes x.row) x.column a.spare_first (some_run g a.spares) on.column_in)
          ∙ ap (λ r. spot r x.column) (turn_there g.pages x.row a.planes (some_pages g)))),
    )

back : (g : Geometry) (a : Arrangement) (place : ℕ) → IsFitting g a → IsOfPages g a place → IsOnDie g (spot_of g a place) × (place_in_dump g a (spot_of g a place).row (spot_of g a place).column ≡ place)
unfolding place_in_dump spot_of
back g a place fits of_pages =
    let k : ℕ = place - header_length a in
    let behind = of_pages.behind in
    let before = of_pages.before in
    let few : k < image_bytes g = omega arith in
    let b : ℕ = swapped_place a.swapped k in
    let inside : b < image_bytes g = swapped_lt a.swapped k (image_bytes g) (even_bytes g) few in
    let n = run_of g a.spares in
    let m = runs_of g a.spares in
    let whole = runs_whole g a.spares in
    let P : ℕ → Type 0 = λ r. b < r * page_bytes g in
    let found = run_back n m g.data_bytes g.spare_bytes b a.spare_first (some_run g a.spares) (wide g) (narrow g) (subst P whole inside) in
    let x : Spot = run_spot n g.data_bytes g.spare_bytes a.spare_first b in
    let Q : ℕ → Type 0 = λ r. x.row < r in
    let row_in : x.row < row_count g = subst Q (sym whole) found.row_in in
    let turned = turn_back g.pages g.blocks x.row a.planes (some_pages g) row_in fits.even in (
      record { row_in = turned.row_in; column_in = found.column_in },
      ap (λ r. header_length a + swapped_place a.swapped (run_place n g.data_bytes g.spare_bytes a.spare_first r x.column)) turned.turn_is
          ∙ (ap (λ y. header_length a + swapped_place a.swapped y) found.place_is ∙ (ap (λ y. header_length a + y) (swapped_twice a.swapped k) ∙ omega arith)),
    )

pub once_law : OnceLaw
once_law g a fits = record { there = λ x on. there g a x fits on; back = λ place of_pages. back g a place fits of_pages }
