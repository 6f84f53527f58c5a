-- Legal logs.
use Rattle.std.proofs.Common.{◌≡◌, ◌<◌, ◌≤◌, ◌⊎◌, inl, inr, ◌+◌, ◌-◌, ◌*◌, ◌/◌, ◌%◌, ◌==◌, ℕ, Bool, true, false, not, ◌&&◌, List, [], ◌∷◌, ◌++◌, refl}
use Rattle.std.proofs.Common.{sym, ◌∙◌, ap, subst, arith, get_or, length, take, drop, zero, suc, length-drop, length-take, if◌then◌else◌}
use Rattle.std.specs.Prelude.{slice_get, Some}
use Rattle.std.specs.List.{list_any}
use Rattle.std.proofs.lemmas.List.{get_or_past, get_or-take, get_or-drop}
use Rattle.std.proofs.lemmas.Option.{slice_get_within, get_or_from_slice_get, slice_get-get_or}
use Rattle.std.proofs.lemmas.Nat.{div-add-mod'}
use Rattle.std.proofs.lemmas.Bool.{cases_lt, cases_Bool, not-false, or_from}
use Rattle.std.proofs.lemmas.Bool.Decides.{eqb_tells}
use Rattle.page_layout.specs.declared.geometry.Geometry.{Geometry}
use Rattle.page_layout.specs.Page.{Page, Image}
use Rattle.page_layout.specs.Sound.{is_erased_page}
use Rattle.page_layout.specs.Block.{block_pages, is_programmed, past_last}
use Rattle.page_layout.specs.Change.{one_if}
use Rattle.page_layout.specs.Flash.{Operation, Program, Erase, no_page}
use Rattle.page_layout.proofs.BlockLemmas.{none_programmed}
use Rattle.promises.specs.Log.{block_of, has_passed, erases_of, failed_in}
use Rattle.promises.specs.Legal.{Account, no_account, account_at, accounts_of, account_after, accounted, accounted_all, IsDue, LegalFrom, EmptyLaw, JoinLaw}
use Rattle.promises.specs.Legal.{AccountsLaw, OneMoreIsDueLaw, NoBadBlockLaw, NotTwiceLaw, OnErasedLaw, InOrderLaw}
use Rattle.promises.proofs.AccountLemmas.{account_of, length-accounts_of, due_good, accounted-same, accounted-other, noted-barred}

-- ---- lists of operations in a row

pub empty : EmptyLaw
empty g image bad = tt

pub accounts_join : AccountsLaw
accounts_join pages accounts [] ys = refl
accounts_join pages accounts (op ∷ xs) ys = accounts_join pages (accounted pages accounts op) xs ys

pub legal_append : (pages : ℕ) (accounts : List Account) (xs ys : List Operation) → LegalFrom pages accounts xs → LegalFrom pages (accounted_all pages accounts xs) ys → LegalFrom pages accounts (xs ++ ys)
legal_append pages accounts [] ys h k = k
legal_append pages accounts (op ∷ xs) ys h k = (h.0, legal_append pages (accounted pages accounts op) xs ys h.1 k)

pub legal_split : (pages : ℕ) (accounts : List Account) (xs ys : List Operation) → LegalFrom pages accounts (xs ++ ys) → LegalFrom pages accounts xs × LegalFrom pages (accounted_all pages accounts xs) ys
legal_split pages accounts [] ys h = (tt, h)
legal_split pages accounts (op ∷ xs) ys h = let s = legal_split pages (accounted pages accounts op) xs ys h.1 in ((h.0, s.0), s.1)

pub join : JoinLaw
join pages accounts xs ys = (legal_split pages accounts xs ys, λ h. legal_append pages accounts xs ys h.0 h.1)

pub one_more : OneMoreIsDueLaw
one_more pages accounts log op = (
  λ h. let s = legal_split pages accounts log (op ∷ []) h in (s.0, s.1.0),
  λ h. legal_append pages accounts log (op ∷ []) h.0 (h.1, tt),
)

-- ---- one account

-- a block that isn't barred is one of the blocks
pub in_range : (accounts : List Account) (block : ℕ) → (account_at accounts block).barred ≡ false → block < length accounts
in_range accounts block good =
    elim (cases_lt block (length accounts)) [
      | inl lt ↦ lt
      | inr ge ↦ let e : true ≡ false = sym (ap (λ (a : Account). a.barred) (get_or_past accounts block no_account ge)) ∙ good in cc
    ]

-- ---- bad blocks

no_failure : (passed same : Bool) → (passed ≡ true) ⊎ (same ≡ false) → (not passed && same) ≡ false
no_failure passed same (inl e) = ap (λ x. not x && same) e
no_failure true same (inr e) = refl
no_failure false same (inr e) = e

-- a block that isn't barred after a legal log was not barred before it, and has not failed in it
pub not_barred : (pages : ℕ) (accounts : List Account) (log : List Operation) (block : ℕ) → LegalFrom pages accounts log → (account_at (accounted_all pages accounts log) block).barred ≡ false
    → ((account_at accounts block).barred ≡ false) × (failed_in pages log block ≡ false)
not_barred pages accounts [] block h good = (good, refl)
not_barred pages accounts (op ∷ log) block h good =
    let later = not_barred pages (accounted pages accounts op) log block h.1 good in
    let was : (account_at accounts (block_of pages op)).barred ≡ false = due_good pages accounts op h.0 in
    elim (eqb_tells (block_of pages op) block) [
      | inl e ↦
          let noted_so : account_at (accounted pages accounts op) block ≡ account_after (account_at accounts (block_of pages op)) op =
          ap (λ n. account_at (accounted pages accounts op) n) (sym e.1) ∙ accounted-same pages accounts op (block_of pages op) refl (in_range accounts (block_of pages op) was) in
          let passed : has_passed op ≡ true = not-false (has_passed op) (sym (ap (λ (a : Account). a.barred) noted_so ∙ noted-barred (account_at accounts (block_of pages op)) op) ∙ later.0) in
          (ap (λ n. (account_at accounts n).barred) (sym e.1) ∙ was, or_from (not (has_passed op) && (block_of pages op == block)) (failed_in pages log block) (no_failure (has_passed op) (block_of pages op == block) (inl passed)) later.1)
      | inr e ↦
          let same : account_at (accounted pages accounts op) block ≡ account_at accounts block = accounted-other pages accounts op block e.1 in
          (sym (ap (λ (a : Account). a.barred) same) ∙ later.0, or_from (not (has_passed op) && (block_of pages op == block)) (failed_in pages log block) (no_failure (has_passed op) (block_of pages op == block) (inr e.0)) later.1)
    ]

pub first_block : (g : Geometry) (image : Image) (bad : ℕ → Bool) (block : ℕ) → (account_at (accounts_of g image bad) block).barred ≡ false → block < g.blocks
first_block g image bad block good = subst (λ n. block < n) (length-accounts_of g image bad) (in_range (accounts_of g image bad) block good)

pub no_bad_block : NoBadBlockLaw
no_bad_block g image bad before after op h =
    let block : ℕ = block_of g.pages op in
    let s = legal_split g.pages (accounts_of g image bad) before (op ∷ after) h in
    let r = not_barred g.pages (accounts_of g image bad) before block s.0 (due_good g.pages (accounted_all g.pages (accounts_of g image bad) before) op s.1.0) in
    let lt : block < g.blocks = first_block g image bad block r.0 in
    or_from (bad block) (failed_in g.pages before block) (sym (ap (λ (a : Account). a.barred) (account_of g image bad block lt)) ∙ r.0) r.1

-- ---- next pages

pub none_of : (n : ℕ) (b : Bool) → n + one_if b ≡ 0 → (n ≡ 0) × (b ≡ false)
none_of n true h = absurd (omega arith)
none_of n false h = (omega arith, refl)

-- what a test of equality tells
pub differs : (a b : ℕ) → (a == b) ≡ false → a ≡ b → ⊥
differs a b is e = elim (eqb_tells a b) [ inl y ↦ let c : true ≡ false = sym y.0 ∙ is in cc | inr y ↦ y.1 e ]

-- a program's block goes on, and no other block is touched
next_after : (pages : ℕ) (accounts : List Account) (row : ℕ) (page left : Page) (passed : Bool) (block : ℕ) → IsDue pages accounts (Program row page passed left)
    → (account_at accounts block).next ≤ (account_at (accounted pages accounts (Program row page passed left)) block).next
next_after pages accounts row page left passed block due =
    let op : Operation = Program row page passed left in
    elim (eqb_tells (row / pages) block) [
      | inl e ↦
          let here : account_at (accounted pages accounts op) block ≡ account_after (account_at accounts (row / pages)) op =
          ap (λ n. account_at (accounted pages accounts op) n) (sym e.1) ∙ accounted-same pages accounts op (row / pages) refl (in_range accounts (row / pages) due.good) in
          omega (arith, ap (λ (a : Account). a.next) here, ap (λ n. (account_at accounts n).next) e.1)
      | inr e ↦ omega (arith, ap (λ (a : Account). a.next) (accounted-other pages accounts op block e.1))
    ]

-- without an erase of the block its next page doesn't fall
next_rises : (pages : ℕ) (accounts : List Account) (log : List Operation) (block : ℕ) → LegalFrom pages accounts log → erases_of log block ≡ 0
    → (account_at accounts block).next ≤ (account_at (accounted_all pages accounts log) block).next
next_rises pages accounts [] block h none = omega arith
next_rises pages accounts (Program row page passed left ∷ log) block h none =
    let one = next_after pages accounts row page left passed block h.0 in
    let rest = next_rises pages (accounted pages accounts (Program row page passed left)) log block h.1 none in
    omega (arith, one, rest)
next_rises pages accounts (Erase other passed left ∷ log) block h none =
    let n = none_of (erases_of log block) (other == block) none in
    let same = accounted-other pages accounts (Erase other passed left) block (λ e. differs other block n.1 e) in
    let rest = next_rises pages (accounted pages accounts (Erase other passed left)) log block h.1 n.0 in
    omega (arith, ap (λ (a : Account). a.next) same, rest)

-- between two programs of one block
rises_between : (pages : ℕ) (accounts : List Account) (between after : List Operation) (row later : ℕ) (p q left left' : Page) (passed passed' : Bool)
    → LegalFrom pages accounts (Program row p passed left ∷ (between ++ Program later q passed' left' ∷ after)) → later / pages ≡ row / pages → erases_of between (row / pages) ≡ 0 → row % pages < later % pages
rises_between pages accounts between after row later p q left left' passed passed' h same none =
    let first : Operation = Program row p passed left in
    let block : ℕ = row / pages in
    let mid : List Account = accounted pages accounts first in
    let s = legal_split pages mid between (Program later q passed' left' ∷ after) h.1 in
    let here = accounted-same pages accounts first block refl (in_range accounts block h.0.good) in
    let rises = next_rises pages mid between block s.0 none in
    let due = s.1.0 in
    let end : (account_at (accounted_all pages mid between) block).next ≡ later % pages = ap (λ n. (account_at (accounted_all pages mid between) n).next) (sym same) ∙ due.next in
    omega (arith, ap (λ (a : Account). a.next) here, h.0.next, rises, end)

pub in_order : InOrderLaw
in_order g image bad before between after row later p q left left' passed passed' h same none =
    let s = legal_split g.pages (accounts_of g image bad) before (Program row p passed left ∷ (between ++ Program later q passed' left' ∷ after)) h in
    rises_between g.pages (accounted_all g.pages (accounts_of g image bad) before) between after row later p q left left' passed passed' s.1 same none

pub not_twice : NotTwiceLaw
not_twice g image bad before between after row p q left left' passed passed' h =
    elim (cases_lt 0 (erases_of between (row / g.pages))) [
      | inl some ↦ some
      | inr none ↦
          let rises : row % g.pages < row % g.pages = in_order g image bad before between after row row p q left left' passed passed' h refl (omega (arith, none)) in
          absurd (omega (arith, rises))
    ]

-- ---- the pages of the image

-- the pages from `past_last` on are erased
pub past_erased : (pages : List Page) (k : ℕ) (p : Page) → past_last pages ≤ k → slice_get pages k ≡ Some p → is_erased_page p ≡ true
unfolding past_last
past_erased [] k p le at = cc
past_erased (x ∷ xs) zero p le at =
    elim (cases_Bool (list_any is_programmed (x ∷ xs))) [
      | inl some ↦ absurd (omega (arith, ap (λ b. if b then past_last xs + 1 else 0) some, le))
      | inr none ↦ none_programmed (x ∷ xs) none zero p at
    ]
past_erased (x ∷ xs) (suc k) p le at =
    elim (cases_Bool (list_any is_programmed (x ∷ xs))) [
      | inl some ↦ past_erased xs k p (omega (arith, ap (λ b. if b then past_last xs + 1 else 0) some, le)) at
      | inr none ↦ none_programmed (x ∷ xs) none (suc k) p at
    ]

-- a row among the pages of its block
pub in_block : (g : Geometry) (image : Image) (row : ℕ) (its : Page) → slice_get image row ≡ Some its → slice_get (block_pages g image (row / g.pages)) (row % g.pages) ≡ Some its
in_block g image row its at =
    let block : ℕ = row / g.pages in
    let k : ℕ = row % g.pages in
    let a : ℕ = block * g.pages in
    let n : ℕ = a + g.pages - a in
    let some : 0 < g.pages = omega (arith, g.limits.page_count.least) in
    let row_is : a + k ≡ row = div-add-mod' row g.pages in
    let small : k < n = omega (arith, some) in
    let within : row < length image = slice_get_within image row its at in
    let long : k < length (take n (drop a image)) = omega (arith, length-take n (drop a image), length-drop a image, row_is, within, small) in
    let value : get_or (take n (drop a image)) k no_page ≡ its =
    get_or-take n (drop a image) k no_page small ∙ (get_or-drop a image k no_page ∙ (ap (λ i. get_or image i no_page) row_is ∙ get_or_from_slice_get image row its no_page at)) in
    slice_get-get_or (take n (drop a image)) k no_page long ∙ ap Some value

pub on_erased : OnErasedLaw
on_erased g image bad before after row p left its passed h none at =
    let block : ℕ = row / g.pages in
    let k : ℕ = row % g.pages in
    let pages : List Page = block_pages g image block in
    let s = legal_split g.pages (accounts_of g image bad) before (Program row p passed left ∷ after) h in
    let due = s.1.0 in
    let r = not_barred g.pages (accounts_of g image bad) before block s.0 due.good in
    let first = account_of g image bad block (first_block g image bad block r.0) in
    let rises = next_rises g.pages (accounts_of g image bad) before block s.0 none in
    let le : past_last pages ≤ k = omega (arith, ap (λ (a : Account). a.next) first, rises, due.next) in
    past_erased pages k its le (in_block g image row its at)
