-- Which page of a block comes next in a legal log.
use Rattle.std.proofs.Common.{◌≡◌, inl, inr, ◌+◌, ◌*◌, ◌/◌, ◌%◌, ◌==◌, ℕ, Bool, true, false, not, ◌||◌, List, [], ◌∷◌, ◌++◌, refl, sym, ◌∙◌, ap}
use Rattle.std.proofs.Common.{arith, zero, suc, if◌then◌else◌}
use Rattle.std.specs.Prelude.{slice_get, Some}
use Rattle.std.specs.List.{list_any}
use Rattle.std.proofs.lemmas.Nat.{div-add-mod'}
use Rattle.std.proofs.lemmas.Bool.{cases_Bool}
use Rattle.page_layout.specs.Page.{Page}
use Rattle.page_layout.specs.Sound.{is_erased_page}
use Rattle.page_layout.specs.Block.{block_pages, is_programmed, past_last}
use Rattle.page_layout.specs.Flash.{Operation, Program, Erase}
use Rattle.promises.specs.Log.{programs_of, erases_of}
use Rattle.promises.specs.Legal.{Account, account_at, accounts_of, accounted, accounted_all, LegalFrom, LeavesAlone, FirstPageLaw, AfterEraseLaw, NextProgramLaw}
use Rattle.promises.proofs.AccountLemmas.{account_of, accounted-same, accounted-other}
use Rattle.promises.proofs.LegalLemmas.{legal_split, in_range, not_barred, first_block, none_of, differs, past_erased, in_block}

-- the account of a block that no operation names stays
left_alone : (pages : ℕ) (accounts : List Account) (log : List Operation) (block : ℕ) → LeavesAlone pages log block → account_at (accounted_all pages accounts log) block ≡ account_at accounts block
left_alone pages accounts [] block h = refl
left_alone pages accounts (Program row page passed left ∷ log) block h =
    let n = none_of (programs_of pages log block) (row / pages == block) h.programs in
    left_alone pages (accounted pages accounts (Program row page passed left)) log block (record { programs = n.0; erases = h.erases })
    ∙ accounted-other pages accounts (Program row page passed left) block (differs (row / pages) block n.1)
left_alone pages accounts (Erase other passed left ∷ log) block h =
    let n = none_of (erases_of log block) (other == block) h.erases in
    left_alone pages (accounted pages accounts (Erase other passed left)) log block (record { programs = h.programs; erases = n.0 })
    ∙ accounted-other pages accounts (Erase other passed left) block (differs other block n.1)

-- the page that the account has next is the one that is due
due_next : (pages : ℕ) (accounts : List Account) (between after : List Operation) (row block : ℕ) (p left : Page) (passed : Bool) → row / pages ≡ block → LegalFrom pages accounts (between ++ Program row p passed left ∷ after)
    → LeavesAlone pages between block → (account_at accounts block).next ≡ row % pages
due_next pages accounts between after row block p left passed same h alone =
    let s = legal_split pages accounts between (Program row p passed left ∷ after) h in
    let still = left_alone pages accounts between block alone in
    sym (ap (λ (a : Account). a.next) still) ∙ (ap (λ n. (account_at (accounted_all pages accounts between) n).next) (sym same) ∙ s.1.0.next)

pub after_erase : AfterEraseLaw
after_erase g image bad before between after row erased p left passed passed' h alone =
    let op : Operation = Erase (row / g.pages) passed erased in
    let block : ℕ = row / g.pages in
    let s = legal_split g.pages (accounts_of g image bad) before (op ∷ (between ++ Program row p passed' left ∷ after)) h in
    let old : List Account = accounted_all g.pages (accounts_of g image bad) before in
    let here = accounted-same g.pages old op block refl (in_range old block s.1.0.good) in
    sym (due_next g.pages (accounted g.pages old op) between after row block p left passed' refl s.1.1 alone) ∙ ap (λ (a : Account). a.next) here

pub next_page : NextProgramLaw
next_page g image bad before between after row later p q left left' passed passed' h same alone =
    let op : Operation = Program row p passed left in
    let block : ℕ = row / g.pages in
    let s = legal_split g.pages (accounts_of g image bad) before (op ∷ (between ++ Program later q passed' left' ∷ after)) h in
    let old : List Account = accounted_all g.pages (accounts_of g image bad) before in
    let here = accounted-same g.pages old op block refl (in_range old block s.1.0.good) in
    sym (due_next g.pages (accounted g.pages old op) between after later block q left' passed' same s.1.1 alone) ∙ (ap (λ (a : Account). a.next) here ∙ ap (λ n. n + 1) s.1.0.next)

-- ---- the page past the last that isn't erased

-- none of the pages is programmed where none comes before the first of them
none_yet : (pages : List Page) → past_last pages ≡ 0 → list_any is_programmed pages ≡ false
unfolding past_last
none_yet [] e = refl
none_yet (x ∷ xs) e =
    elim (cases_Bool (list_any is_programmed (x ∷ xs))) [
      | inl some ↦ absurd (omega (arith, ap (λ b. if b then past_last xs + 1 else 0) some, e))
      | inr none ↦ none
    ]

programmed : (p : Page) (rest : Bool) → (is_programmed p || rest) ≡ true → rest ≡ false → is_erased_page p ≡ false
programmed p rest some none = was (is_erased_page p) rest some none
  where
    was : (b rest : Bool) → (not b || rest) ≡ true → rest ≡ false → b ≡ false
    was false rest some none = refl
    was true rest some none = cc

-- the page just before it isn't erased
last_programmed : (pages : List Page) (k : ℕ) (p : Page) → past_last pages ≡ suc k → slice_get pages k ≡ Some p → is_erased_page p ≡ false
unfolding past_last
last_programmed [] k p is at = absurd (omega (arith, is))
last_programmed (x ∷ xs) zero p is at =
    elim (cases_Bool (list_any is_programmed (x ∷ xs))) [
      | inl some ↦
          let none : past_last xs ≡ 0 = omega (arith, ap (λ b. if b then past_last xs + 1 else 0) some, is) in
          let same : x ≡ p = cc in
          ap is_erased_page (sym same) ∙ programmed x (list_any is_programmed xs) some (none_yet xs none)
      | inr none ↦ absurd (omega (arith, ap (λ b. if b then past_last xs + 1 else 0) none, is))
    ]
last_programmed (x ∷ xs) (suc k) p is at =
    elim (cases_Bool (list_any is_programmed (x ∷ xs))) [
      | inl some ↦ last_programmed xs k p (omega (arith, ap (λ b. if b then past_last xs + 1 else 0) some, is)) at
      | inr none ↦ absurd (omega (arith, ap (λ b. if b then past_last xs + 1 else 0) none, is))
    ]

-- two rows of a block, by their pages
pages_of : (a b pages : ℕ) → a / pages ≡ b / pages → a % pages + b ≡ b % pages + a
pages_of a b pages same = omega (arith, div-add-mod' a pages, div-add-mod' b pages, ap (λ n. n * pages) same)

pub first_page : FirstPageLaw
first_page g image bad before after row p left passed h alone =
    let block : ℕ = row / g.pages in
    let s = legal_split g.pages (accounts_of g image bad) before (Program row p passed left ∷ after) h in
    let r = not_barred g.pages (accounts_of g image bad) before block s.0 s.1.0.good in
    let first = account_of g image bad block (first_block g image bad block r.0) in
    let pages : List Page = block_pages g image block in
    let is : past_last pages ≡ row % g.pages = sym (ap (λ (a : Account). a.next) first) ∙ due_next g.pages (accounts_of g image bad) before after row block p left passed refl h alone in
    record {
      erased = λ other its same le at.
          past_erased pages (other % g.pages) its (omega (arith, is, pages_of other row g.pages same, le)) (at_block other its same at);
      last = λ other its same next at.
          last_programmed pages (other % g.pages) its (omega (arith, is, pages_of other row g.pages same, next)) (at_block other its same at);
    }
  where
    at_block : (other : ℕ) (its : Page) → other / g.pages ≡ row / g.pages → slice_get image other ≡ Some its → slice_get (block_pages g image (row / g.pages)) (other % g.pages) ≡ Some its
    at_block other its same at = ap (λ n. slice_get (block_pages g image n) (other % g.pages)) (sym same) ∙ in_block g image other its at
