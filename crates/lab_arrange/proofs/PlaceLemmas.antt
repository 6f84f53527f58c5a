-- Where the bytes of a page stand: one behind another in an area, and all within the pages.
use Rattle.std.proofs.Common.{◌≡◌, ◌⊎◌, ℕ, suc, ◌+◌, ◌-◌, ◌*◌, ◌/◌, ◌%◌, ◌<◌, ◌≤◌, Bool, true, false, cond, Option, Some, None, refl, sym, ap, ◌∙◌, subst, inl, inr, arith}
use Rattle.std.proofs.Math.Nat.{mul-le-mul_right, div-mul-le_self, div-lt_iff_lt-mul}
use Rattle.std.proofs.lemmas.Nat.{mod_below, mul-add-lt}
use Rattle.std.proofs.lemmas.Bool.{cases_lt, lt-ltb, le-ltb}
use Rattle.page_layout.specs.declared.geometry.Geometry.{Geometry}
use Rattle.page_layout.specs.Geometry.{row_count, page_bytes}
use Rattle.lab_dump.specs.Scan.{image_bytes}
use Rattle.lab_arrange.specs.declared.arrangement.Arrangement.{Arrangement}
use Rattle.lab_arrange.specs.declared.arrangement.Spares.{Spares}
use Rattle.lab_arrange.specs.declared.arrangement.Spares.TheVariants.{Block, Die}
use Rattle.lab_arrange.specs.Place.{IsFitting, body_place, in_run, row_in_turns, run_of, run_place}

-- ---- in a run

-- where the areas of each sort begin
abbrev pub data_start : (n s : ℕ) → Bool → ℕ
data_start n s first = cond first (n * s) 0

abbrev pub spare_start : (n d : ℕ) → Bool → ℕ
spare_start n d first = cond first 0 (n * d)

pub in_data : (n d s i c : ℕ) (first : Bool) → c < d → in_run n d s first i c ≡ data_start n s first + (i * d + c)
in_data n d s i c false l = ap (λ b. cond b (i * d + c) (n * d + (i * s + (c - d)))) (lt-ltb c d l) ∙ omega arith
in_data n d s i c true l = ap (λ b. cond b (n * s + (i * d + c)) (i * s + (c - d))) (lt-ltb c d l)

pub in_spare : (n d s i c : ℕ) (first : Bool) → d ≤ c → in_run n d s first i c ≡ spare_start n d first + (i * s + (c - d))
in_spare n d s i c false l = ap (λ b. cond b (i * d + c) (n * d + (i * s + (c - d)))) (le-ltb c d l)
in_spare n d s i c true l = ap (λ b. cond b (n * s + (i * d + c)) (i * s + (c - d))) (le-ltb c d l) ∙ omega arith

-- the bytes of an area stand one behind another
pub data_next : (n d s row c : ℕ) (first : Bool) → c < d → run_place n d s first row c ≡ run_place n d s first row 0 + c
data_next n d s row c first l =
    let here = in_data n d s (row % n) c first l in
    let front = in_data n d s (row % n) 0 first (omega arith) in
    omega (arith, here, front)

pub spare_next : (n d s row c : ℕ) (first : Bool) → run_place n d s first row (d + c) ≡ run_place n d s first row d + c
spare_next n d s row c first =
    let here = in_spare n d s (row % n) (d + c) first (omega arith) in
    let front = in_spare n d s (row % n) d first (omega arith) in
    omega (arith, here, front)

-- an area lies within its run
pub in_run_lt : (n d s i c : ℕ) (first : Bool) → i < n → c < d + s → in_run n d s first i c < n * (d + s)
in_run_lt n d s i c first below within = by (cases_lt c d) first
  where
    by : (c < d) ⊎ (d ≤ c) → (b : Bool) → in_run n d s b i c < n * (d + s)
    by (inl l) false =
        let here = in_data n d s i c false l in
        let rows : suc i * d ≤ n * d = mul-le-mul_right d below in
        omega (arith, here, rows)
    by (inl l) true =
        let here = in_data n d s i c true l in
        let rows : suc i * d ≤ n * d = mul-le-mul_right d below in
        omega (arith, here, rows)
    by (inr l) false =
        let here = in_spare n d s i c false l in
        let rows : suc i * s ≤ n * s = mul-le-mul_right s below in
        omega (arith, here, rows)
    by (inr l) true =
        let here = in_spare n d s i c true l in
        let rows : suc i * s ≤ n * s = mul-le-mul_right s below in
        omega (arith, here, rows)

-- and a run within all of them
pub run_place_lt : (n m d s row c : ℕ) (first : Bool) → 0 < n → row < m * n → c < d + s → run_place n d s first row c < m * n * (d + s)
run_place_lt n m d s row c first some below within =
    let i : row % n < n = mod_below row n some in
    let q : row / n < m = (div-lt_iff_lt-mul some).1 below in
    let inner = in_run_lt n d s (row % n) c first i within in
    let whole = mul-add-lt (row / n) (n * (d + s)) (in_run n d s first (row % n) c) m q inner in
    let same : n * (d + s) * m ≡ m * n * (d + s) = omega arith in
    subst (λ k. run_place n d s first row c < k) same whole

-- where a run begins, and a page in it, is a small number
pub run_fits : (run d s row : ℕ) → row ≤ 4194304 → d ≤ 4096 → s ≤ 256 → row / run * (run * (d + s)) ≤ 18253611008
run_fits run d s row few data_few spare_few =
    let rows : row / run * run ≤ row = div-mul-le_self row run in
    let times : row / run * run * (d + s) ≤ 4194304 * (d + s) = mul-le-mul_right (d + s) (omega arith) in
    omega arith

pub page_fits : (i d : ℕ) → i ≤ 4194304 → d ≤ 4096 → i * d ≤ 17179869184
page_fits i d few size =
    let times : i * d ≤ 4194304 * d = mul-le-mul_right d few in
    omega arith

-- ---- in turns

pub turn_lt : (pages blocks row : ℕ) (planes : Bool) → 0 < pages → row < blocks * pages → (planes ≡ true → blocks % 2 ≡ 0) → row_in_turns pages planes row < blocks * pages
turn_lt pages blocks row false some below even = below
turn_lt pages blocks row true some below even =
    let pairs : blocks ≡ 2 * (blocks / 2) = (let e = even refl in omega arith) in
    let p : row % pages < pages = mod_below row pages some in
    let b : row / pages < blocks = (div-lt_iff_lt-mul some).1 below in
    let k : row / pages / 2 < blocks / 2 = omega arith in
    let q : row / pages % 2 < 2 = mod_below (row / pages) 2 (omega arith) in
    let whole = mul-add-lt (row / pages / 2) (2 * pages) (2 * (row % pages) + row / pages % 2) (blocks / 2) k (omega arith) in
    let halves : 2 * pages * (blocks / 2) ≡ pages * (2 * (blocks / 2)) = omega arith in
    let all : pages * (2 * (blocks / 2)) ≡ pages * blocks = ap (λ n. pages * n) (sym pairs) in
    let same : 2 * pages * (blocks / 2) ≡ blocks * pages = omega (arith, halves, all) in
    subst (λ n. row_in_turns pages true row < n) same whole

-- ---- the whole

-- how many runs there are
abbrev pub runs_of : Geometry → Option Spares → ℕ
runs_of g None = row_count g
runs_of g (Some Block) = g.blocks
runs_of g (Some Die) = 1

pub some_pages : (g : Geometry) → 0 < g.pages
some_pages g = (let l = g.limits.page_count.least in omega arith)

pub some_blocks : (g : Geometry) → 0 < g.blocks
some_blocks g = (let l = g.limits.block_count.least in omega arith)

pub some_rows : (g : Geometry) → 0 < row_count g
some_rows g =
    let blocks : 1 * g.pages ≤ row_count g = mul-le-mul_right g.pages (some_blocks g) in
    let pages = some_pages g in
    omega arith

pub some_run : (g : Geometry) (spares : Option Spares) → 0 < run_of g spares
some_run g None = omega arith
some_run g (Some Block) = some_pages g
some_run g (Some Die) = some_rows g

pub runs_whole : (g : Geometry) (spares : Option Spares) → row_count g ≡ runs_of g spares * run_of g spares
runs_whole g None = omega arith
runs_whole g (Some Block) = refl
runs_whole g (Some Die) = omega arith

-- each byte of the pages stands among them
pub body_lt : (g : Geometry) (a : Arrangement) (row column : ℕ) → IsFitting g a → row < row_count g → column < page_bytes g → body_place g a row column < image_bytes g
body_lt g a row column fits below within =
    let n = run_of g a.spares in
    let m = runs_of g a.spares in
    let whole = runs_whole g a.spares in
    let turned : row_in_turns g.pages a.planes row < row_count g = turn_lt g.pages g.blocks row a.planes (some_pages g) below fits.even in
    let P : ℕ → Type 0 = λ k. row_in_turns g.pages a.planes row < k in
    let lt = run_place_lt n m g.data_bytes g.spare_bytes (row_in_turns g.pages a.planes row) column a.spare_first (some_run g a.spares) (subst P whole turned) within in
    let Q : ℕ → Type 0 = λ k. body_place g a row column < k * page_bytes g in
    subst Q (sym whole) lt

pub body_data : (g : Geometry) (a : Arrangement) (row c : ℕ) → c < g.data_bytes → body_place g a row c ≡ body_place g a row 0 + c
body_data g a row c l = data_next (run_of g a.spares) g.data_bytes g.spare_bytes (row_in_turns g.pages a.planes row) c a.spare_first l

pub body_spare : (g : Geometry) (a : Arrangement) (row c : ℕ) → body_place g a row (g.data_bytes + c) ≡ body_place g a row g.data_bytes + c
body_spare g a row c = spare_next (run_of g a.spares) g.data_bytes g.spare_bytes (row_in_turns g.pages a.planes row) c a.spare_first

-- ---- numbers of a die

pub few_rows : (g : Geometry) → row_count g ≤ 1048576
few_rows g =
    let blocks : g.blocks * g.pages ≤ 4096 * g.pages = mul-le-mul_right g.pages g.limits.block_count.most in
    let pages = g.limits.page_count.most in
    omega arith

pub few_bytes : (g : Geometry) → image_bytes g ≤ 4563402752
few_bytes g =
    let rows : row_count g * page_bytes g ≤ 1048576 * page_bytes g = mul-le-mul_right (page_bytes g) (few_rows g) in
    let data_few = g.limits.data_size.most in
    let spare_few = g.limits.spare_size.most in
    omega arith
