-- Which pages are looked at, and what the pages tell.
use Rattle.std.proofs.Common.{◌≡◌, ◌⊎◌, ℕ, zero, suc, ◌+◌, ◌-◌, ◌*◌, ◌/◌, ◌%◌, ◌<◌, ◌≤◌, List, length, take, drop, refl, sym, ap, ◌∙◌, subst, arith, inl, inr, length-take-le}
use Rattle.std.proofs.Common.{Bool, true, false, cond, slice_range, Some, le_refl}
use Rattle.std.specs.Prelude.{max, min, nat_lt, ◌==◌}
use Rattle.std.specs.declared.cmp.Ordering.{Ordering}
use Rattle.std.specs.declared.cmp.Ordering.TheVariants.{Less, Equal}
use Rattle.std.specs.Ordering.{nat_cmp, ordering_then}
use Rattle.std.specs.Cmp.{nat_cmp_is}
use Rattle.std.specs.Int.{div_ceil}
use Rattle.std.proofs.Math.Nat.{mul-div-le, mul-div_cancel_left, mul-le-mul_right}
use Rattle.std.proofs.lemmas.Nat.{div-add-mod', mod_below, row_fits, le-div}
use Rattle.std.proofs.lemmas.Bool.{eqb-true, ne_eqb, lt-ltb, ltb-true, cases_lt, cases_eq, cond_below, cond_above}
use Rattle.std.proofs.lemmas.List.{length-drop, take-take, drop-take, drop-drop}
use Rattle.std.proofs.lemmas.Grind.{div_ceil_times}
use Rattle.page_layout.specs.declared.geometry.Geometry.{Geometry}
use Rattle.page_layout.specs.declared.record.Record.{Record}
use Rattle.page_layout.specs.declared.record.Kind.{Kind}
use Rattle.page_layout.specs.declared.record.Kind.TheVariants as kind
use Rattle.page_layout.specs.Geometry.{row_count}
use Rattle.page_layout.specs.Page.{page}
use Rattle.page_layout.specs.Key.{key_of, key_from}
use Rattle.page_layout.specs.Live.{IsKeyOf}
use Rattle.page_layout.specs.Word.{word_at}
use Rattle.page_layout.proofs.RawLemmas.{raw_page}
use Rattle.bad_blocks.specs.TablePage.{IsWellFormed, padding}
use Rattle.page_layout.specs.declared.look.PageLook.{PageLook}
use Rattle.page_layout.specs.declared.look.PageLook.TheVariants.{Sound, Erased, Unsound}
use Rattle.lab_dump.specs.Pages.{dump_page_at}
use Rattle.lab_dump.specs.Sample.{look_at}
use Rattle.lab_dump.specs.Told.{least_blocks_of, least_sectors, blocks_by, sectors_by, blocks_at, sectors_told_at, greatest_of_rows, pages_told_of}
use Rattle.lab_dump.specs.declared.told.PagesTold.{PagesTold}
use Rattle.lab_dump.specs.FitLaws.{IsWithinTold, TellsEachPageLaw, PageLaw, LookedLaw, LookedRiseLaw, LookedAllLaw, GreatestLaw, LowerLaw, TableLaw, ShortLaw, FewerLaw}
use Rattle.lab_dump.specs.declared.fit.TableSays.TheVariants.{Agrees, Short, Silent, Differs}
use Rattle.lab_dump.specs.Fits.{table_says, table_place}
use Rattle.lab_dump.proofs.ToldLemmas.{used_below, used_more, used_all}

-- ---- the page of a row

body_of_row : (all : List ℕ) (at d s : ℕ) → take d (slice_range all at (at + (d + s))) ≡ slice_range all at (at + d)
body_of_row all at d s =
    let first : at + (d + s) - at ≡ d + s = omega arith in
    let second : at + d - at ≡ d = omega arith in
    ap (λ n. take d (take n (drop at all))) first ∙ (take-take d (d + s) (drop at all) (omega arith) ∙ ap (λ n. take n (drop at all)) (sym second))

spare_of_row : (all : List ℕ) (at d s : ℕ) → drop d (slice_range all at (at + (d + s))) ≡ slice_range all (at + d) (at + d + s)
spare_of_row all at d s =
    let first : at + (d + s) - at ≡ d + s = omega arith in
    let second : at + d + s - (at + d) ≡ s = omega arith in
    ap (λ n. drop d (take n (drop at all))) first ∙ (drop-take d s (drop at all) ∙ (ap (take s) (drop-drop d at all) ∙ ap (λ n. take n (drop (at + d) all)) (sym second)))

pub page_law : PageLaw
unfolding dump_page_at
page_law g all row within =
    let d = g.data_bytes in
    let s = g.spare_bytes in
    let at : ℕ = row * (d + s) in
    let next : at + d + s ≡ at + (d + s) = omega arith in
    raw_page g all row d s within refl refl
    ∙ (ap (λ b. Some (page b (slice_range all (at + d) (at + (d + s))))) (sym (body_of_row all at d s))
    ∙ ap (λ b. Some (page (take d (slice_range all at (at + (d + s)))) b)) (sym (spare_of_row all at d s ∙ ap (slice_range all (at + d)) next)))

-- ---- which rows are looked at

pub looked_all : LookedAllLaw
looked_all rows table_place few =
    let parts = mul-div-le rows 256 in
    let least : max (rows / 256) 16 ≡ 16 = omega arith in
    ap (λ n. table_place / 16 * n + table_place % 16) least ∙ div-add-mod' table_place 16

pub looked_in : LookedLaw
looked_in rows table_place within = elim (cases_lt 4096 rows) [
  | inl many ↦
      let stride : ℕ = max (rows / 256) 16 in
      let parts = mul-div-le rows 256 in
      let sixteen : 16 ≤ rows / 256 = le-div 16 rows 256 (omega arith) (omega arith) in
      let stride_is : stride ≡ rows / 256 = omega arith in
      let whole = div-add-mod' table_place 16 in
      let rest = mod_below table_place 16 (omega arith) in
      let few : table_place / 16 < 256 = omega arith in
      let fits : table_place / 16 * stride + stride ≤ 256 * stride = row_fits (table_place / 16) stride 256 stride few (le_refl stride) in
      let all : 256 * stride ≤ rows = subst (λ n. 256 * n ≤ rows) (sym stride_is) parts in
      omega arith
  | inr few ↦ subst (λ n. n < rows) (sym (looked_all rows table_place few)) (omega arith)
]

pub looked_rise : LookedRiseLaw
looked_rise rows table_place next rises =
    let stride : ℕ = max (rows / 256) 16 in
    let first = div-add-mod' table_place 16 in
    let second = div-add-mod' next 16 in
    let below = mod_below table_place 16 (omega arith) in
    let below_next = mod_below next 16 (omega arith) in
    elim (cases_lt (table_place / 16) (next / 16)) [
      | inl less ↦
          let fits : table_place / 16 * stride + stride ≤ next / 16 * stride = row_fits (table_place / 16) stride (next / 16) stride less (le_refl stride) in
          omega arith
      | inr most ↦
          let same : table_place / 16 ≡ next / 16 = omega arith in
          let rows_same : table_place / 16 * stride ≡ next / 16 * stride = ap (λ n. n * stride) same in
          omega arith
    ]

-- ---- the greatest number

greatest_next : (f : ℕ → ℕ) (n : ℕ) → greatest_of_rows f (suc n) ≡ max (greatest_of_rows f n) (f n)
unfolding greatest_of_rows
greatest_next f n = refl

greatest_none : (f : ℕ → ℕ) → greatest_of_rows f zero ≡ 0
unfolding greatest_of_rows
greatest_none f = refl

no_greater : (f : ℕ → ℕ) (rows row : ℕ) → row < rows → f row ≤ greatest_of_rows f rows
no_greater f zero row l = absurd (omega arith)
no_greater f (suc n) row l = elim (cases_eq row n) [
  | inl e ↦ let here : f row ≡ f n = ap f e in omega (arith, greatest_next f n)
  | inr ne ↦ let before = no_greater f n row (omega arith) in omega (arith, greatest_next f n)
]

some_greatest : (f : ℕ → ℕ) (rows : ℕ) → (greatest_of_rows f rows ≡ 0) ⊎ ((row : ℕ) × (row < rows) × (f row ≡ greatest_of_rows f rows))
some_greatest f zero = inl (greatest_none f)
some_greatest f (suc n) = elim (cases_lt (greatest_of_rows f n) (f n)) [
  | inl more ↦ inr (n, omega arith, omega (arith, greatest_next f n))
  | inr same ↦
      let kept : greatest_of_rows f n ≡ greatest_of_rows f (suc n) = omega (arith, greatest_next f n) in
      elim (some_greatest f n) [
        | inl none ↦ inl (sym kept ∙ none)
        | inr found ↦ inr (found.0, omega (arith, found.1), found.2 ∙ kept)
      ]
]

pub greatest_law : GreatestLaw
greatest_law f rows = (no_greater f rows, some_greatest f rows)

-- ---- room for each sound page

body_size : (d s rows row : ℕ) (all : List ℕ) → rows * (d + s) ≤ length all → row < rows → length (dump_page_at d s all row).body ≡ d
unfolding dump_page_at
body_size d s rows row all whole l =
    let n : ℕ = d + s in
    let at : ℕ = row * n in
    let fits : at + n ≤ rows * n = row_fits row n rows n l (le_refl n) in
    let size : at + n - at ≡ n = omega arith in
    let rest : at + n - at ≤ length (drop at all) = omega (arith, length-drop at all) in
    let page_size : length (slice_range all at (at + n)) ≡ at + n - at = length-take-le (at + n - at) (drop at all) rest in
    length-take-le d (slice_range all at (at + n)) (omega arith)

kind_within : (k : Kind) (n entries : ℕ) (body : List ℕ) (t : PagesTold) → length body / 4 ≡ entries → least_blocks_of k n body ≤ t.blocks → least_sectors k n entries ≤ t.sectors → IsWithinTold (key_from k n) entries t
kind_within kind.Sector n entries body t size blocks sectors = omega arith
kind_within kind.Trim n entries body t size blocks sectors = omega arith
kind_within kind.Translation n entries body t size blocks sectors = omega arith
kind_within kind.Table n entries body t size blocks sectors = let table_place : n * (length body / 4) ≡ n * entries = ap (λ k. n * k) size in omega arith

pub within_law : TellsEachPageLaw
unfolding pages_told_of
within_law d s rows all row r whole l e =
    let blocks = no_greater (blocks_at d s all) rows row l in
    let sectors = no_greater (sectors_told_at d s all) rows row l in
    kind_within r.kind r.number (d / 4) (dump_page_at d s all row).body (pages_told_of d s rows all) (ap (λ n. n / 4) (body_size d s rows row all whole l))
    (subst (λ look. blocks_by look (dump_page_at d s all row).body ≤ greatest_of_rows (blocks_at d s all) rows) e blocks)
    (subst (λ look. sectors_by look (d / 4) ≤ greatest_of_rows (sectors_told_at d s all) rows) e sectors)

-- ---- a lower bound of the sectors

entry_in : (t sectors entries : ℕ) → 0 < entries → t < div_ceil sectors entries → t * entries + 1 ≤ sectors
entry_in t sectors entries some within =
    let times = div_ceil_times sectors entries some in
    let fits : t * entries + entries ≤ div_ceil sectors entries * entries = row_fits t entries (div_ceil sectors entries) entries within (le_refl entries) in
    omega (arith, times.0, times.1)

kind_lower : (g : Geometry) (k : Kind) (n : ℕ) → IsKeyOf g (key_from k n) → least_sectors k n (g.data_bytes / 4) ≤ g.sectors
kind_lower g kind.Sector n within = omega arith
kind_lower g kind.Trim n within = omega arith
kind_lower g kind.Translation n within = entry_in n g.sectors (g.data_bytes / 4) (le-div 1 g.data_bytes 4 (omega arith) (let least = g.limits.data_size.least in omega arith)) within
kind_lower g kind.Table n within = omega arith

look_lower : (g : Geometry) (look : PageLook) → ((r : Record) → look ≡ Sound r → IsKeyOf g (key_of r)) → sectors_by look (g.data_bytes / 4) ≤ g.sectors
look_lower g (Sound r) keys = kind_lower g r.kind r.number (keys r refl)
look_lower g Erased keys = omega arith
look_lower g Unsound keys = omega arith

pub lower_law : LowerLaw
unfolding pages_told_of
lower_law g all keys = elim (some_greatest (sectors_told_at g.data_bytes g.spare_bytes all) (row_count g)) [
  | inl none ↦ omega (arith, none)
  | inr found ↦
      let here : sectors_told_at g.data_bytes g.spare_bytes all found.0 ≤ g.sectors = look_lower g (look_at g.data_bytes g.spare_bytes all found.0) (λ r e. keys found.0 r found.1 e) in
      omega (arith, found.2, here)
]

-- ---- the words of a table page

least_more : (n left : ℕ) → n < left → min n left + 1 ≡ min (n + 1) left
least_more n left l = omega arith

least_same : (n left : ℕ) → left ≤ n → min n left ≡ min (n + 1) left
least_same n left l = omega arith

used_there : (entries blocks u : ℕ) (body : List ℕ) → IsWellFormed entries blocks u body → u * entries ≤ blocks → (n : ℕ) → n ≤ entries → min n (blocks - u * entries) ≡ used_below body n
used_there entries blocks u body formed within zero l = omega arith
used_there entries blocks u body formed within (suc n) l =
    let before = used_there entries blocks u body formed within n (omega arith) in
    let right = formed.right n (omega arith) in
    let next : n + 1 ≡ suc n = omega arith in
    elim (cases_lt (u * entries + n) blocks) [
      | inl inside ↦
          let low : nat_lt (word_at body (4 * n) % 256) 3 ≡ true = cond_below (u * entries + n) blocks _ _ inside ∙ right in
          subst (λ m. min m (blocks - u * entries) ≡ used_below body m) next (sym (least_more n (blocks - u * entries) (omega arith)) ∙ used_more body n _ true before low)
      | inr outside ↦
          let filled : word_at body (4 * n) ≡ padding = eqb-true (word_at body (4 * n)) padding (cond_above (u * entries + n) blocks _ _ _ outside refl ∙ right) in
          let high : nat_lt (word_at body (4 * n) % 256) 3 ≡ false = ap (λ w. nat_lt (w % 256) 3) filled in
          subst (λ m. min m (blocks - u * entries) ≡ used_below body m) next (sym (least_same n (blocks - u * entries) (omega arith)) ∙ (omega arith ∙ used_more body n _ false before high))
    ]

pub table_law : TableLaw
table_law entries blocks u body some size within formed =
    let count : length body / 4 ≡ entries = ap (λ n. n / 4) size ∙ mul-div_cancel_left entries (omega arith) in
    let used = used_there entries blocks u body formed within entries (le_refl entries) in
    let words = used_all body entries _ (sym count) used in
    let table_place : u * (length body / 4) ≡ u * entries = ap (λ n. u * n) count in
    omega arith

-- ---- a cut dump

short_by : (a b c : Bool) → cond a Silent (cond b Agrees (cond c Short Differs)) ≡ Short → c ≡ true
short_by true b c e = absurd (cc)
short_by false true c e = absurd (cc)
short_by false false true e = refl
short_by false false false e = absurd (cc)

says_short : (blocks told : ℕ) → blocks < told → table_says blocks told ≡ Short
says_short blocks told l =
    ap (λ b. cond b Silent (cond (told == blocks) Agrees (cond (nat_lt blocks told) Short Differs))) (ne_eqb told 0 (λ e. (let less : blocks < told = l in absurd (omega arith))))
    ∙ (ap (λ b. cond b Agrees (cond (nat_lt blocks told) Short Differs)) (ne_eqb told blocks (λ e. absurd (omega arith))) ∙ ap (λ b. cond b Short Differs) (lt-ltb blocks told l))

pub short_law : ShortLaw
short_law blocks pages told some few = (
  (
    λ e. ltb-true blocks told (short_by (told == 0) (told == blocks) (nat_lt blocks told) e),
    says_short blocks told,
  ),
  (
    λ l. elim (cases_lt blocks told) [
      | inl less ↦ less
      | inr more ↦
          (let none : min told 4096 - blocks ≡ 0 = omega arith in
          let nothing : (min told 4096 - blocks) * pages ≡ 0 * pages = ap (λ d. d * pages) none in
          absurd (omega arith))
    ],
    λ l.
        let some_block : 1 ≤ min told 4096 - blocks = omega arith in
        let least : 1 * pages ≤ (min told 4096 - blocks) * pages = mul-le-mul_right pages some_block in
        omega arith,
  ),
)

then_next : (o r : Ordering) → o ≡ Equal → ordering_then o r ≡ r
then_next o r e = ap (λ x. ordering_then x r) e

then_less : (o r : Ordering) → o ≡ Less → ordering_then o r ≡ Less
then_less o r e = ap (λ x. ordering_then x r) e

pub fewer_law : FewerLaw
fewer_law x y same s t l =
    then_next (nat_cmp y.sound.0 x.sound.0) _ (sym (nat_cmp_is y.sound.0 x.sound.0 Equal (sym same)))
    ∙ (then_next (nat_cmp (table_place x.table) (table_place y.table)) _ (sym (nat_cmp_is (table_place x.table) (table_place y.table) Equal (ap table_place (s ∙ sym t))))
    ∙ then_less (nat_cmp x.missing y.missing) _ (sym (nat_cmp_is x.missing y.missing Less l)))
