-- What a look over a store comes to.
use Rattle.std.proofs.Common.{◌≡◌, inl, inr, ◌∙◌, ap, sym, subst, ℕ, ◌+◌, ◌-◌, ◌*◌, ◌<◌, ◌≤◌, Bool, true, false, List, length, map, get_or, if◌then◌else◌, nat_lt, arith}
use Rattle.std.specs.Prelude.{slice_set}
use Rattle.std.proofs.lemmas.Bool.{cases_eq, cases_lt, lt-ltb, le-ltb}
use Rattle.std.proofs.lemmas.List.{ext_get_or, get_or-set_same, get_or-set_other, length-set, length-map, map-set, get_or-map}
use Rattle.std.proofs.lemmas.List.FromFn.{length-map-range_with_len, get_or-map-range_with_len}
use Rattle.page_layout.specs.declared.geometry.Geometry.{Geometry}
use Rattle.page_layout.specs.Flash.{NextState, no_next_page, no_page}
use Rattle.page_layout.specs.Geometry.{row_count}
use Rattle.page_layout.specs.Page.{Image}
use Rattle.page_layout.specs.Sound.{is_erased_page}
use Rattle.page_layout.specs.Block.{block_pages}
use Rattle.nand_die.specs.declared.change.NextPage.{NextPage}
use Rattle.nand_die.specs.NextPages.{next_page_of}
use Rattle.nand_die.specs.Made.{first_next_page, first_next_pages, is_named}
use Rattle.nand_die.specs.Made.{next_in}
use Rattle.nand_die.proofs.NextLemmas.{next_law, block_page, length-block_pages}
use Rattle.file_die.specs.Store.{page_in}

-- ---- the next page of a block

-- the pages from the n-th on are erased, and the one before is not
pub next_found : (g : Geometry) (image : Image) (block n row : ℕ) (erased : Bool) → length image ≡ row_count g → block < g.blocks → n ≤ g.pages → 0 < n → row ≡ block * g.pages + (n - 1)
    → erased ≡ is_erased_page (page_in image row) → erased ≡ false → ((k : ℕ) → n ≤ k → k < g.pages → is_erased_page (get_or (block_pages g image block) k no_page) ≡ true) → n ≡ next_in g image block
next_found g image block n row erased rows lt most some at is none above =
    let ps = block_pages g image block in
    let long : length ps ≡ g.pages = length-block_pages g image block rows lt in
    let last : is_erased_page (get_or ps (n - 1) no_page) ≡ false
    = ap is_erased_page (block_page g image block (n - 1) (omega (arith, most, some)) ∙ ap (λ r. get_or image r no_page) (sym at)) ∙ (sym is ∙ none) in
    (next_law ps n).1 (record { most = omega (arith, long, most); erased = λ k le inside. above k le (omega (arith, inside, long)); last = λ h. last })

-- all are erased
pub next_zero : (g : Geometry) (image : Image) (block n : ℕ) → length image ≡ row_count g → block < g.blocks → n ≤ 0
    → ((k : ℕ) → n ≤ k → k < g.pages → is_erased_page (get_or (block_pages g image block) k no_page) ≡ true) → 0 ≡ next_in g image block
next_zero g image block n rows lt none above =
    let ps = block_pages g image block in
    let long : length ps ≡ g.pages = length-block_pages g image block rows lt in
    (next_law ps 0).1 (record { most = omega arith; erased = λ k le inside. above k (omega (arith, none)) (omega (arith, inside, long)); last = λ h. absurd (omega (arith, h)) })

-- ---- the next pages

-- the next pages of the first k blocks were found
abbrev pub next_so : (ℕ → ℕ) → ℕ → ℕ → ℕ
next_so next k block = if nat_lt block k then next block else 0

pub record HaveNext (g : Geometry) (next : ℕ → ℕ) (bad : List ℕ) (k : ℕ) (next_pages : List NextState) : Type 0 where
  pub long : length next_pages ≡ g.blocks
  pub so : (block : ℕ) → block < g.blocks → get_or next_pages block no_next_page ≡ first_next_page (next_so next k block) (is_named bad block)

next_below : (next : ℕ → ℕ) (k block : ℕ) → block < k → next_so next k block ≡ next block
next_below next k block lt = ap (λ b. if b then next block else 0) (lt-ltb block k lt)

next_past : (next : ℕ → ℕ) (k block : ℕ) → k ≤ block → next_so next k block ≡ 0
next_past next k block le = ap (λ b. if b then next block else 0) (le-ltb block k le)

first_at : (g : Geometry) (next : ℕ → ℕ) (bad : List ℕ) (block : ℕ) → block < g.blocks → get_or (first_next_pages g next bad) block no_next_page ≡ first_next_page (next block) (is_named bad block)
first_at g next bad block lt = get_or-map-range_with_len (λ b. first_next_page (next b) (is_named bad b)) 0 g.blocks block block no_next_page lt (omega arith)

first_long : (g : Geometry) (next : ℕ → ℕ) (bad : List ℕ) → length (first_next_pages g next bad) ≡ g.blocks
first_long g next bad = length-map-range_with_len (λ b. first_next_page (next b) (is_named bad b)) 0 g.blocks

pub next_none : (g : Geometry) (next : ℕ → ℕ) (bad : List ℕ) (next_pages : List NextState) → next_pages ≡ first_next_pages g (λ block. 0) bad → HaveNext g next bad 0 next_pages
next_none g next bad next_pages is = subst (HaveNext g next bad 0) (sym is) (record {
  long = first_long g (λ block. 0) bad;
  so = λ block lt. first_at g (λ block. 0) bad block lt ∙ ap (λ n. first_next_page n (is_named bad block)) (sym (next_past next 0 block (omega arith)));
})

pub next_all : (g : Geometry) (next : ℕ → ℕ) (bad : List ℕ) (k : ℕ) (next_pages : List NextState) → HaveNext g next bad k next_pages → g.blocks ≤ k → next_pages ≡ first_next_pages g next bad
next_all g next bad k next_pages found le = ext_get_or no_next_page next_pages (first_next_pages g next bad) (found.long ∙ sym (first_long g next bad))
    (λ block lt. let within : block < g.blocks = subst (λ n. block < n) found.long lt in
    found.so block within ∙ (ap (λ n. first_next_page n (is_named bad block)) (next_below next k block (omega (arith, within, le))) ∙ sym (first_at g next bad block within)))

-- one more
pub next_more : (g : Geometry) (next : ℕ → ℕ) (bad : List ℕ) (k n : ℕ) (next_pages : List NextPage) (t : NextPage) → HaveNext g next bad k (map next_page_of next_pages) → k < g.blocks → n ≡ next k → t ≡ get_or next_pages k t
    → HaveNext g next bad (k + 1) (map next_page_of (slice_set next_pages k (record { next = n; barred = t.barred; programs = t.programs; erases = t.erases })))
next_more g next bad k n next_pages t found lt is read =
    let new : NextPage = record { next = n; barred = t.barred; programs = t.programs; erases = t.erases } in
    let here : k < length (map next_page_of next_pages) = subst (λ x. k < x) (sym found.long) lt in
    let inside : k < length next_pages = subst (λ x. k < x) (length-map next_pages next_page_of) here in
    let was : next_page_of t ≡ first_next_page (next_so next k k) (is_named bad k) = ap next_page_of read ∙ (sym (get_or-map next_page_of next_pages k t no_next_page inside) ∙ found.so k lt) in
    let now : next_page_of new ≡ first_next_page (next_so next (k + 1) k) (is_named bad k)
    = ap (λ (u : NextState). record { next = n; barred = u.barred; programs = u.programs; erases = u.erases }) was
    ∙ ap (λ m. first_next_page m (is_named bad k)) (is ∙ sym (next_below next (k + 1) k (omega arith))) in
    subst (HaveNext g next bad (k + 1)) (sym (map-set next_page_of next_pages k new))
    (record {
      long = length-set (map next_page_of next_pages) k (next_page_of new) ∙ found.long;
      so = λ block within. elim (cases_eq block k) [
        | inl e ↦ ap (λ b. get_or (slice_set (map next_page_of next_pages) k (next_page_of new)) b no_next_page) e ∙ (get_or-set_same (map next_page_of next_pages) k (next_page_of new) no_next_page here ∙ (now ∙ ap (λ b. first_next_page (next_so next (k + 1) b) (is_named bad b)) (sym e)))
        | inr ne ↦ get_or-set_other (map next_page_of next_pages) k block (next_page_of new) no_next_page ne ∙ (found.so block within ∙ ap (λ m. first_next_page m (is_named bad block)) (other block ne))
      ];
    })
  where
    other : (block : ℕ) → (block ≡ k → ⊥) → next_so next k block ≡ next_so next (k + 1) block
    other block ne = elim (cases_lt block k) [
      | inl below ↦ next_below next k block below ∙ sym (next_below next (k + 1) block (omega (arith, below)))
      | inr past ↦ next_past next k block past ∙ sym (next_past next (k + 1) block (omega (arith, past, ne)))
    ]
