-- The next page of a block of an image.
use Rattle.std.proofs.Common.{◌≡◌, inl, inr, ℕ, zero, suc, ◌+◌, ◌-◌, ◌*◌, ◌<◌, ◌≤◌, Bool, true, false, ◌||◌, List, [], ◌∷◌, take, drop, length, refl}
use Rattle.std.proofs.Common.{sym, ◌∙◌, ap, subst, arith, length-drop, get_or, if◌then◌else◌}
use Rattle.std.specs.List.{list_any}
use Rattle.std.proofs.lemmas.Bool.{cases_Bool, cases_lt, cases_order, both_ways, not-true, not-false}
use Rattle.std.proofs.lemmas.List.{length-take-le, get_or-take, get_or-drop}
use Rattle.page_layout.specs.declared.geometry.Geometry.{Geometry}
use Rattle.page_layout.specs.Geometry.{row_count}
use Rattle.page_layout.specs.Page.{Page, page}
use Rattle.page_layout.specs.Sound.{is_erased_page}
use Rattle.page_layout.specs.Block.{block_pages, is_programmed, past_last}
use Rattle.page_layout.specs.Flash.{no_page}
use Rattle.onfi_cycles.specs.Cycles.{page_of}
use Rattle.nand_die.proofs.PagesLemmas.{block_within}
use Rattle.nand_die.specs.Made.{IsNextPage}
use Rattle.nand_die.specs.Laws.{NextPageLaw}

if_true : (b : Bool) (x y : ℕ) → b ≡ true → (if b then x else y) ≡ x
if_true b x y e = ap (λ c. if c then x else y) e

if_false : (b : Bool) (x y : ℕ) → b ≡ false → (if b then x else y) ≡ y
if_false b x y e = ap (λ c. if c then x else y) e

next_some : (p : Page) (ps : List Page) → list_any is_programmed (p ∷ ps) ≡ true → past_last (p ∷ ps) ≡ past_last ps + 1
unfolding past_last
next_some p ps e = if_true (list_any is_programmed (p ∷ ps)) (past_last ps + 1) 0 e

next_none : (p : Page) (ps : List Page) → list_any is_programmed (p ∷ ps) ≡ false → past_last (p ∷ ps) ≡ 0
unfolding past_last
next_none p ps e = if_false (list_any is_programmed (p ∷ ps)) (past_last ps + 1) 0 e

next_nil : past_last [] ≡ 0
unfolding past_last
next_nil = refl

-- no page is programmed
erased_all : (ps : List Page) (k : ℕ) → list_any is_programmed ps ≡ false → k < length ps → is_erased_page (get_or ps k no_page) ≡ true
erased_all [] k e lt = absurd (omega arith)
erased_all (p ∷ ps) zero e lt = not-false (is_erased_page p) (left_false (is_programmed p) (list_any is_programmed ps) e)
  where
    left_false : (a b : Bool) → (a || b) ≡ false → a ≡ false
    left_false false b h = refl
    left_false true b h = h
erased_all (p ∷ ps) (suc k) e lt = erased_all ps k (right_false (is_programmed p) (list_any is_programmed ps) e) (omega arith)
  where
    right_false : (a b : Bool) → (a || b) ≡ false → b ≡ false
    right_false false b h = h
    right_false true b h = absurd (both_ways true h refl)

-- some page is
some_next : (ps : List Page) → list_any is_programmed ps ≡ true → 0 < past_last ps
some_next [] e = absurd (both_ways false refl e)
some_next (p ∷ ps) e = omega (arith, next_some p ps e)

zero_next : (ps : List Page) → list_any is_programmed ps ≡ false → past_last ps ≡ 0
zero_next [] e = next_nil
zero_next (p ∷ ps) e = next_none p ps e

-- the last page that is programmed, by whether it is the first
last_of : (p : Page) (ps : List Page) (n : ℕ) → (n ≡ 0 → is_programmed p ≡ true) → (0 < n → is_erased_page (get_or ps (n - 1) no_page) ≡ false) → is_erased_page (get_or (p ∷ ps) n no_page) ≡ false
last_of p ps zero head tail = not-true (is_erased_page p) (head refl)
last_of p ps (suc m) head tail = let e : suc m - 1 ≡ m = omega arith in subst (λ k. is_erased_page (get_or ps k no_page) ≡ false) e (tail (omega arith))

erased_of : (p : Page) (ps : List Page) (n k : ℕ) → ((j : ℕ) → n ≤ j → j < length ps → is_erased_page (get_or ps j no_page) ≡ true) → 1 + n ≤ k → k < length (p ∷ ps) → is_erased_page (get_or (p ∷ ps) k no_page) ≡ true
erased_of p ps n zero rest le lt = absurd (omega arith)
erased_of p ps n (suc j) rest le lt = rest j (omega arith) (omega arith)

first_or_later : (a b : Bool) → (a || b) ≡ true → b ≡ false → a ≡ true
first_or_later true b e f = refl
first_or_later false b e f = absurd (both_ways b f e)

pub next_is : (ps : List Page) → IsNextPage ps (past_last ps)
next_is [] = record { most = omega (arith, next_nil); erased = λ k le lt. absurd (omega arith); last = λ some. absurd (omega (arith, next_nil)) }
next_is (p ∷ ps) =
    let rest : IsNextPage ps (past_last ps) = next_is ps in
    let n : ℕ = past_last ps in
    elim (cases_Bool (list_any is_programmed (p ∷ ps))) [
      | inl e ↦ record {
        most = omega (arith, next_some p ps e, rest.most);
        erased = λ k le lt. erased_of p ps n k rest.erased (omega (arith, next_some p ps e, le)) lt;
        last = λ some. subst (λ k. is_erased_page (get_or (p ∷ ps) k no_page) ≡ false) (omega (arith, next_some p ps e))
            (last_of p ps n (λ none. first_or_later (is_programmed p) (list_any is_programmed ps) e (elim (cases_Bool (list_any is_programmed ps)) [
              | inl h ↦ absurd (omega (arith, none, some_next ps h))
              | inr h ↦ h
            ])) rest.last);
      }
      | inr e ↦ record {
        most = omega (arith, next_none p ps e);
        erased = λ k le lt. erased_all (p ∷ ps) k e lt;
        last = λ some. absurd (omega (arith, next_none p ps e));
      }
    ]

-- no two numbers are so
not_before : (ps : List Page) (m n : ℕ) → IsNextPage ps m → IsNextPage ps n → m < n → ⊥
not_before ps m n is_m is_n lt = both_ways (is_erased_page (get_or ps (n - 1) no_page)) (is_n.last (omega (arith, lt))) (is_m.erased (n - 1) (omega (arith, lt)) (omega (arith, is_n.most, lt)))

pub one_next : (ps : List Page) (m n : ℕ) → IsNextPage ps m → IsNextPage ps n → m ≡ n
one_next ps m n is_m is_n = elim (cases_order m n) [
  | inl e ↦ e
  | inr o ↦ elim o [
    | inl lt ↦ absurd (not_before ps m n is_m is_n lt)
    | inr gt ↦ absurd (not_before ps n m is_n is_m gt)
  ]
]

pub next_law : NextPageLaw
next_law ps next = (λ e. subst (IsNextPage ps) (sym e) (next_is ps), λ is. one_next ps next (past_last ps) is (next_is ps))

-- ---- the pages of a block

pub block_page : (g : Geometry) (image : List Page) (block k : ℕ) → k < g.pages → get_or (block_pages g image block) k no_page ≡ get_or image (block * g.pages + k) no_page
block_page g image block k lt =
    let a : ℕ = block * g.pages in
    get_or-take (a + g.pages - a) (drop a image) k no_page (omega (arith, lt)) ∙ get_or-drop a image k no_page

pub length-block_pages : (g : Geometry) (image : List Page) (block : ℕ) → length image ≡ row_count g → block < g.blocks → length (block_pages g image block) ≡ g.pages
length-block_pages g image block e lt =
    let a : ℕ = block * g.pages in
    length-take-le (a + g.pages - a) (drop a image) (omega (arith, length-drop a image, e, block_within g block lt)) ∙ omega arith

-- a page as the code looks at it
pub erased_here : (g : Geometry) (image : List Page) (block k row d : ℕ) (bytes body spare : List ℕ) (erased : Bool) → k < g.pages → row ≡ block * g.pages + k → get_or image row no_page ≡ page_of g bytes
    → d ≡ g.data_bytes → body ≡ take d bytes → spare ≡ drop d bytes → erased ≡ is_erased_page (page body spare) → is_erased_page (get_or (block_pages g image block) k no_page) ≡ erased
erased_here g image block k row d bytes body spare erased lt at there is_d is_body is_spare is =
    ap is_erased_page (block_page g image block k lt ∙ (ap (λ r. get_or image r no_page) (sym at) ∙ there))
    ∙ sym (is ∙ (ap (λ b. is_erased_page (page b spare)) is_body ∙ (ap (λ s. is_erased_page (page (take d bytes) s)) is_spare ∙ ap (λ n. is_erased_page (page (take n bytes) (drop n bytes))) is_d)))

-- from all pages at and past one to those from the one before
pub one_less : (ps : List Page) (n m : ℕ) → 0 < n → is_erased_page (get_or ps (n - 1) no_page) ≡ true → ((k : ℕ) → n ≤ k → k < m → is_erased_page (get_or ps k no_page) ≡ true)
    → (k : ℕ) → n - 1 ≤ k → k < m → is_erased_page (get_or ps k no_page) ≡ true
one_less ps n m some here above k le lt = elim (cases_lt k n) [
  | inl h ↦ subst (λ j. is_erased_page (get_or ps j no_page) ≡ true) (omega (arith, h, le)) here
  | inr h ↦ above k h lt
]
