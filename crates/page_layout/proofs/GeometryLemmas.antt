-- What the limits of a die give, and what its derived numbers are for.
use Rattle.std.proofs.Common.{◌≡◌, inl, inr, ℕ, suc, ◌+◌, ◌-◌, ◌<◌, ◌≤◌, ◌*◌, ◌/◌, eqb, false, refl, ap, ◌∙◌, arith}
use Rattle.std.specs.Prelude.{min, max, ◌↔◌}
use Rattle.std.specs.Int.{div_ceil}
use Rattle.std.proofs.Math.Nat.{mul-le-mul, mul-le-mul_left, mul-le-mul_right, mul-add, add-mul, mul_comm}
use Rattle.std.proofs.Math.Nat.{div-lt_iff_lt-mul, le-div_iff_mul-le, div-mul-le_self, div-le_of_le-mul}
use Rattle.std.proofs.lemmas.Bool.{cases_lt, ne_eqb}
use Rattle.std.proofs.lemmas.Grind.{div_ceil_times}
use Rattle.page_layout.specs.declared.geometry.Geometry.{Geometry}
use Rattle.page_layout.specs.Geometry.{entries, translation_pages, table_pages, vmax, key_count, row_count, vmax_at, flush_blocks_at}
use Rattle.page_layout.specs.Laws.{WorthLaw, NoShareLaw, GreaterShareLaw, FewerNeededLaw}

pub some_rows : (g : Geometry) → 0 < row_count g
some_rows g =
    let least : 12 * 4 ≤ g.blocks * g.pages = mul-le-mul g.limits.block_count.least g.limits.page_count.least in
    omega (arith, least)

-- v copies and q write-backs, one for each s + 1 of them and the last for fewer, are at most n just where v is at most that part of n
part_fits : (n v q s : ℕ) → v ≤ q * (s + 1) → q * (s + 1) < v + (s + 1) → (v * (s + 2) ≤ n * (s + 1)) ↔ (v + q ≤ n)
part_fits n v q s all last =
    let v_one = mul-add v s 1 in
    let v_two = mul-add v s 2 in
    let both = add-mul v q (s + 1) in (
      λ low. elim (cases_lt n (v + q)) [
        | inl over ↦
            let many : (n + 1) * (s + 1) ≤ (v + q) * (s + 1) = mul-le-mul_right (s + 1) (omega arith) in
            absurd (omega (arith, many, add-mul n 1 (s + 1), v_one, v_two, both, low, last))
        | inr fits ↦ fits
      ],
      λ few. (let most : (v + q) * (s + 1) ≤ n * (s + 1) = mul-le-mul_right (s + 1) few in omega (arith, most, v_one, v_two, both, all)),
    )

-- of p pages v are few enough
most : (v t p s : ℕ) → 0 < p → (v ≤ max (p - 1 - t) ((p - 1) * (s + 1) / (s + 2))) ↔ (v + min (div_ceil v (s + 1)) t < p)
most v t p s some =
    let times = div_ceil_times v (s + 1) (omega arith) in
    let part = part_fits (p - 1) v (div_ceil v (s + 1)) s times.0 times.1 in
    let divided = le-div_iff_mul-le {k = s + 2} {x = v} {y = (p - 1) * (s + 1)} (omega arith) in (
      λ low. elim (cases_lt ((p - 1) * (s + 1) / (s + 2)) v) [
        | inl over ↦ omega (arith, over, low)
        | inr fits ↦ (let few = part.0 (divided.0 fits) in omega (arith, few))
      ],
      λ few. elim (cases_lt t (div_ceil v (s + 1))) [
        | inl less ↦ omega (arith, few, less)
        | inr more ↦ (let fits = divided.1 (part.1 (omega (arith, few, more))) in omega (arith, fits))
      ],
    )

pub worth : WorthLaw
worth g share v = most v (translation_pages g) g.pages share (omega (arith, g.limits.page_count.least))

-- ---- the share of moved sectors

pub no_share : NoShareLaw
no_share g =
    let size : vmax_at g 0 ≡ vmax g = omega arith in
    record {
      waiting = omega arith;
      allowed = omega (arith, g.limits.page_count.most);
      vmax = size;
      flush_blocks = refl;
      need = ap (λ v. key_count g / (v + 1) + 11 + 0) size ∙ omega arith;
    }

-- the part of n that s gives does not fall as s rises to t
part_rises : (n s t : ℕ) → s ≤ t → n * (s + 1) / (s + 2) ≤ n * (t + 1) / (t + 2)
part_rises n s t le =
    let q : ℕ = n * (s + 1) / (s + 2) in
    let under : q * (s + 2) ≤ n * (s + 1) = div-mul-le_self (n * (s + 1)) (s + 2) in
    let below : q ≤ n = div-le_of_le-mul (s + 2) {m = n * (s + 1)} {n = n} (omega (arith, mul-add n s 1, mul-add n s 2, mul_comm (s + 2) n)) in
    let times : q * (t - s) ≤ n * (t - s) = mul-le-mul_right (t - s) below in
    let sum : t ≡ s + (t - s) = omega arith in
    let q_sum : q * t ≡ q * s + q * (t - s) = ap (λ x. q * x) sum ∙ mul-add q s (t - s) in
    let n_sum : n * t ≡ n * s + n * (t - s) = ap (λ x. n * x) sum ∙ mul-add n s (t - s) in
    (le-div_iff_mul-le {k = t + 2} {x = q} {y = n * (t + 1)} (omega arith)).1
    (omega (arith, under, times, q_sum, n_sum, mul-add q s 2, mul-add n s 1, mul-add q t 2, mul-add n t 1))

pub greater_share : GreaterShareLaw
greater_share g share greater le = (let part = part_rises (g.pages - 1) share greater le in omega (arith, part))

-- above 0 a flush begins with the same blocks
pub flush_blocks_is : (g : Geometry) (share : ℕ) → 0 < share → flush_blocks_at g share ≡ div_ceil (translation_pages g) g.pages + 2
flush_blocks_is g share some = (let no : eqb share 0 ≡ false = ne_eqb share 0 (λ e. omega (arith, e, some)) in rw no refl)

-- shared among more, each has no more
shared_less : (all few many : ℕ) → few ≤ many → all / (many + 1) ≤ all / (few + 1)
shared_less all few many le =
    let less : all / (many + 1) * (few + 1) ≤ all / (many + 1) * (many + 1) = mul-le-mul_left (all / (many + 1)) (omega arith) in
    let within : all / (many + 1) * (many + 1) ≤ all = div-mul-le_self all (many + 1) in
    (le-div_iff_mul-le {k = few + 1} {x = all / (many + 1)} {y = all} (omega arith)).1 (omega (arith, less, within))

pub fewer_needed : FewerNeededLaw
fewer_needed g share greater some le =
    let keys = shared_less (key_count g) (vmax_at g share) (vmax_at g greater) (greater_share g share greater le) in
    let first = flush_blocks_is g share some in
    let last = flush_blocks_is g greater (omega arith) in
    omega (arith, keys, first, last)

-- the page of an entry is one of those that the entries take
entry_page : (n all per : ℕ) → 0 < per → n < all → n / per < div_ceil all per
entry_page n all per some within = let times = div_ceil_times all per some in (div-lt_iff_lt-mul {k = per} {x = n} {y = div_ceil all per} some).1 (omega (arith, times.0))

-- a page of a block has its row
pub row_within : (g : Geometry) (block page : ℕ) → block < g.blocks → page < g.pages → block * g.pages + page < row_count g
row_within g block page in_die in_block =
    let before : suc block * g.pages ≤ g.blocks * g.pages = mul-le-mul_right g.pages in_die in
    omega (arith, before)

pub some_entries : (g : Geometry) → 0 < entries g
some_entries g = omega (arith, g.limits.data_size.least)

pub sector_entry : (g : Geometry) (n : ℕ) → n < g.sectors → n / entries g < translation_pages g
sector_entry g n within = entry_page n g.sectors (entries g) (some_entries g) within

pub block_entry : (g : Geometry) (block : ℕ) → block < g.blocks → block / entries g < table_pages g
block_entry g block within = entry_page block g.blocks (entries g) (some_entries g) within

-- as many entries as p pages have are on at most p pages
pages_fit : (all per p : ℕ) → 0 < per → all ≤ per * p → div_ceil all per ≤ p
pages_fit all per p some few = elim (cases_lt p (div_ceil all per)) [
  | inl more ↦
      let times = div_ceil_times all per some in
      let over : suc p * per ≤ div_ceil all per * per = mul-le-mul_right per more in
      absurd (omega (arith, times.1, over, few))
  | inr fits ↦ fits
]

pub table_fits : (g : Geometry) → table_pages g ≤ g.pages
table_fits g = pages_fit g.blocks (entries g) g.pages (some_entries g) g.limits.block_count.within_table
