-- The pages of a block, one by one.
use Rattle.std.proofs.Common.{◌≡◌, ◌⊎◌, inl, inr, ℕ, zero, suc, ◌+◌, ◌-◌, ◌*◌, ◌/◌, ◌%◌, ◌<◌, ◌≤◌, Bool, true, false, List, [], ◌∷◌, length, drop}
use Rattle.std.proofs.Common.{get_or, refl, ◌∙◌, ap, arith}
use Rattle.std.specs.Prelude.{is_some, not}
use Rattle.std.specs.List.{list_any}
use Rattle.std.proofs.Math.Nat.{mul-le-mul, div-mul-le_self}
use Rattle.std.proofs.lemmas.Nat.{div-mul-add}
use Rattle.std.proofs.lemmas.Bool.{cases_lt, and_left, and_right, not_from_true, cond-false}
use Rattle.std.proofs.lemmas.List.{get_or-take, get_or-drop, length-take, get_or_default}
use Rattle.std.proofs.lemmas.List.Folds.{list_any_none}
use Rattle.page_layout.specs.declared.geometry.Geometry.{Geometry}
use Rattle.page_layout.specs.Geometry.{row_count}
use Rattle.page_layout.specs.Page.{Page, Image}
use Rattle.page_layout.specs.Sound.{record_of, is_erased_page}
use Rattle.page_layout.specs.Block.{block_pages, is_programmed, is_broken, has_gap, past_last}
use Rattle.page_layout.specs.Flash.{no_page}

-- ---- rows of a block

-- the rows of the blocks below another one lie below its rows
pub block_of_row : (g : Geometry) (block page : ℕ) → page < g.pages → (block * g.pages + page) / g.pages ≡ block
block_of_row g block page l = div-mul-add block g.pages page l

pub page_of_row : (g : Geometry) (block page : ℕ) → page < g.pages → (block * g.pages + page) % g.pages ≡ page
page_of_row g block page l =
    let row : ℕ = block * g.pages + page in
    let whole : g.pages * (row / g.pages) ≡ g.pages * block = ap (λ q. g.pages * q) (block_of_row g block page l) in
    omega arith

pub row_block : (g : Geometry) (row : ℕ) → row < row_count g → row / g.pages < g.blocks
row_block g row l =
    let low : row / g.pages * g.pages ≤ row = div-mul-le_self row g.pages in
    elim (cases_lt (row / g.pages) g.blocks) [
      | inl below ↦ below
      | inr past ↦
          let high : g.blocks * g.pages ≤ row / g.pages * g.pages = mul-le-mul past (omega arith) in
          absurd (omega arith)
    ]

pub length-block_pages : (g : Geometry) (image : Image) (block : ℕ) → length (block_pages g image block) ≤ g.pages
length-block_pages g image block = omega (arith, length-take (block * g.pages + g.pages - block * g.pages) (drop (block * g.pages) image))

pub get_or-block_pages : (g : Geometry) (image : Image) (block k : ℕ) → k < g.pages → get_or (block_pages g image block) k no_page ≡ get_or image (block * g.pages + k) no_page
get_or-block_pages g image block k l =
    get_or-take (block * g.pages + g.pages - block * g.pages) (drop (block * g.pages) image) k no_page (omega arith) ∙ get_or-drop (block * g.pages) image k no_page

-- a test that no page of the block passes
pub none_of_block : (g : Geometry) (image : Image) (block : ℕ) (test : Page → Bool) → ((k : ℕ) → k < g.pages → test (get_or image (block * g.pages + k) no_page) ≡ false) → list_any test (block_pages g image block) ≡ false
none_of_block g image block test none =
    list_any_none test (block_pages g image block)
    (λ k d l.
    let within : k < g.pages = omega (arith, l, length-block_pages g image block) in
    ap test (get_or_default (block_pages g image block) k d no_page l ∙ get_or-block_pages g image block k within) ∙ none k within)

-- ---- what the pages show

pub past_last-zero : (ps : List Page) → list_any is_programmed ps ≡ false → past_last ps ≡ 0
unfolding past_last
past_last-zero [] none = refl
past_last-zero (p ∷ ps) none = cond-false (list_any is_programmed (p ∷ ps)) (past_last ps + 1) 0 none

-- the first pages are programmed and the others erased
pub gap_free : (ps : List Page) (done : ℕ) → ((k : ℕ) → k < length ps → k < done → is_erased_page (get_or ps k no_page) ≡ false) → ((k : ℕ) → k < length ps → done ≤ k → is_erased_page (get_or ps k no_page) ≡ true) → has_gap ps ≡ false
unfolding has_gap
gap_free [] done full empty = refl
gap_free (p ∷ ps) zero full empty =
    let erased : is_erased_page p ≡ true = empty 0 (omega arith) (omega arith) in
    rw erased (list_any_none is_programmed ps (λ k d l.
    not_from_true (is_erased_page (get_or ps k d)) (ap is_erased_page (get_or_default ps k d no_page l) ∙ empty (suc k) (omega arith) (omega arith))))
gap_free (p ∷ ps) (suc done) full empty =
    let programmed : is_erased_page p ≡ false = full 0 (omega arith) (omega arith) in
    rw programmed (gap_free ps done (λ k l h. full (suc k) (omega arith) (omega arith)) (λ k l h. empty (suc k) (omega arith) (omega arith)))

-- each page is erased or sound
pub unbroken : (p : Page) → (is_erased_page p ≡ true) ⊎ (is_some (record_of p) ≡ true) → is_broken p ≡ false
unbroken p (inl erased) = and_left (not (is_erased_page p)) (not (is_some (record_of p))) (not_from_true (is_erased_page p) erased)
unbroken p (inr sound) = and_right (not (is_erased_page p)) (not (is_some (record_of p))) (not_from_true (is_some (record_of p)) sound)
