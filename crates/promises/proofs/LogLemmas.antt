-- Logs: what they count, which blocks they leave good, and where they lead.
use Rattle.std.proofs.Common.{◌≡◌, ◌≢◌, ◌<◌, inl, inr, ◌+◌, ◌/◌, ◌^◌, ◌==◌, ℕ, Bool, true, false, not, ◌&&◌, ◌||◌, List, [], ◌∷◌, ◌++◌, refl, sym, ◌∙◌, ap}
use Rattle.std.proofs.Common.{subst, arith, get_or, length, if◌then◌else◌}
use Rattle.std.specs.Prelude.{slice_set}
use Rattle.std.proofs.Math.Bool.{or_assoc}
use Rattle.std.proofs.lemmas.List.{get_or-set_same, get_or-set_other, length-set}
use Rattle.std.proofs.lemmas.Bool.{ne_eqb, eq-eqb}
use Rattle.std.proofs.lemmas.Bool.Decides.{eqb_tells}
use Rattle.page_layout.specs.Change.{one_if}
use Rattle.page_layout.specs.Page.{Page}
use Rattle.page_layout.specs.Counter.{counted}
use Rattle.page_layout.specs.Flash.{Flash, Operation, Program, Erase, NextState, no_next_page, next_page_at, after, after_program, after_erase, may_program}
use Rattle.page_layout.specs.Flash.{may_erase, Leads}
use Rattle.promises.specs.Log.{block_of, has_passed, programs_in, erases_in, programs_of, erases_of, passed_erases_of, failed_in, CountsLaw, PassedErasesLaw}
use Rattle.promises.specs.Log.{BadJoinLaw, BadStaysLaw, CompleteLaw}

-- ---- counts

programs_in-append : (xs ys : List Operation) → programs_in (xs ++ ys) ≡ programs_in xs + programs_in ys
programs_in-append [] ys = omega arith
programs_in-append (Program row page passed left ∷ xs) ys = let e = programs_in-append xs ys in omega arith
programs_in-append (Erase block passed left ∷ xs) ys = programs_in-append xs ys

erases_in-append : (xs ys : List Operation) → erases_in (xs ++ ys) ≡ erases_in xs + erases_in ys
erases_in-append [] ys = omega arith
erases_in-append (Program row page passed left ∷ xs) ys = erases_in-append xs ys
erases_in-append (Erase block passed left ∷ xs) ys = let e = erases_in-append xs ys in omega arith

programs_of-append : (pages block : ℕ) (xs ys : List Operation) → programs_of pages (xs ++ ys) block ≡ programs_of pages xs block + programs_of pages ys block
programs_of-append pages block [] ys = omega arith
programs_of-append pages block (Program row page passed left ∷ xs) ys = let e = programs_of-append pages block xs ys in omega (arith, e)
programs_of-append pages block (Erase other passed left ∷ xs) ys = programs_of-append pages block xs ys

pub erases_of-append : (block : ℕ) (xs ys : List Operation) → erases_of (xs ++ ys) block ≡ erases_of xs block + erases_of ys block
erases_of-append block [] ys = omega arith
erases_of-append block (Program row page passed left ∷ xs) ys = erases_of-append block xs ys
erases_of-append block (Erase other passed left ∷ xs) ys = let e = erases_of-append block xs ys in omega (arith, e)

pub passed_erases_of-append : (block : ℕ) (xs ys : List Operation) → passed_erases_of (xs ++ ys) block ≡ passed_erases_of xs block + passed_erases_of ys block
passed_erases_of-append block [] ys = omega arith
passed_erases_of-append block (Program row page passed left ∷ xs) ys = passed_erases_of-append block xs ys
passed_erases_of-append block (Erase other passed left ∷ xs) ys = let e = passed_erases_of-append block xs ys in omega (arith, e)

pub counts : CountsLaw
counts pages block xs ys = record {
  programs = programs_in-append xs ys;
  erases = erases_in-append xs ys;
  programs_at = programs_of-append pages block xs ys;
  erases_at = erases_of-append block xs ys;
  passed_erases_at = passed_erases_of-append block xs ys;
}

pub passed_erases : PassedErasesLaw
passed_erases log block = (
  refl,
  record {
    passes = λ left. one_more_passed log (Erase block true left) ∙ ap (λ b. passed_erases_of log block + (0 + one_if (true && b))) (eq-eqb block block refl) ∙ omega arith;
    fails = λ left. one_more_passed log (Erase block false left) ∙ omega arith;
    elsewhere = λ other passed left ne. elsewhere other passed left ne;
    programs = λ row page left passed. one_more_passed log (Program row page passed left) ∙ omega arith;
  },
)
  where
    one_more_passed : (xs : List Operation) (op : Operation) → passed_erases_of (xs ++ op ∷ []) block ≡ passed_erases_of xs block + passed_erases_of (op ∷ []) block
    one_more_passed xs op = passed_erases_of-append block xs (op ∷ [])

    elsewhere : (other : ℕ) (passed : Bool) (left : List Page) → other ≢ block → passed_erases_of (log ++ Erase other passed left ∷ []) block ≡ passed_erases_of log block
    elsewhere other true left ne = one_more_passed log (Erase other true left) ∙ ap (λ b. passed_erases_of log block + (0 + one_if b)) (ne_eqb other block ne) ∙ omega arith
    elsewhere other false left ne = one_more_passed log (Erase other false left) ∙ omega arith

-- ---- bad blocks

pub failed_in-append : (pages block : ℕ) (xs ys : List Operation) → failed_in pages (xs ++ ys) block ≡ (failed_in pages xs block || failed_in pages ys block)
failed_in-append pages block [] ys = refl
failed_in-append pages block (op ∷ xs) ys =
    let here = not (has_passed op) && (block_of pages op == block) in
    ap (λ b. here || b) (failed_in-append pages block xs ys) ∙ sym (or_assoc here (failed_in pages xs block) (failed_in pages ys block))

pub bad_join : BadJoinLaw
bad_join pages block bad xs ys = ap (λ b. bad block || b) (failed_in-append pages block xs ys) ∙ sym (or_assoc (bad block) (failed_in pages xs block) (failed_in pages ys block))

pub bad_stays : BadStaysLaw
bad_stays pages block bad xs ys h = bad_join pages block bad xs ys ∙ ap (λ b. b || failed_in pages ys block) h

-- ---- where a log leads

unfoldable pub after_all : Flash → List Operation → Flash
after_all s [] = s
after_all s (op ∷ log) = after_all (after s op) log

pub leads_after : (old new : Flash) (log : List Operation) → Leads old log new → new ≡ after_all old log
unfolding after_all
leads_after old new [] h = h
leads_after old new (op ∷ log) h = leads_after h.0 new log h.2 ∙ ap (λ s. after_all s log) h.1.left

pub after-geometry : (s : Flash) (op : Operation) → (after s op).geometry ≡ s.geometry
unfolding after
after-geometry s (Program row page passed left) = refl
after-geometry s (Erase block passed left) = refl

-- ---- a log leaves nothing out

after-length : (s : Flash) (op : Operation) → length (after s op).next_pages ≡ length s.next_pages
unfolding after
after-length s (Program row page passed left) = length-set s.next_pages _ _
after-length s (Erase block passed left) = length-set s.next_pages _ _

-- the count of a block after one operation
counted_where : Bool → ℕ → ℕ
counted_where b n = if b then counted n else n

next_page-same : (s : Flash) (block : ℕ) (next_page : NextState) → block < length s.next_pages → get_or (slice_set s.next_pages block next_page) block no_next_page ≡ next_page
next_page-same s block next_page lt = get_or-set_same s.next_pages block next_page no_next_page lt

programs_after : (s : Flash) (row : ℕ) (page left : Page) (passed : Bool) (block : ℕ) → block < length s.next_pages
    → (next_page_at (after s (Program row page passed left)) block).programs ≡ counted_where (row / s.geometry.pages == block) (next_page_at s block).programs
unfolding after counted_where
programs_after s row page left passed block lt =
    let at : ℕ = row / s.geometry.pages in
    let next_page : NextState = after_program (next_page_at s at) (may_program s row) passed in
    elim (eqb_tells at block) [
      | inl e ↦
          let here : get_or (slice_set s.next_pages at next_page) block no_next_page ≡ next_page = ap (λ n. get_or (slice_set s.next_pages at next_page) n no_next_page) (sym e.1) ∙ next_page-same s at next_page (subst (λ n. n < length s.next_pages) (sym e.1) lt) in
          ap (λ (t : NextState). t.programs) here ∙ (ap (λ n. counted (next_page_at s n).programs) e.1 ∙ ap (λ b. if b then counted (next_page_at s block).programs else (next_page_at s block).programs) (sym e.0))
      | inr e ↦
          let other : get_or (slice_set s.next_pages at next_page) block no_next_page ≡ next_page_at s block = get_or-set_other s.next_pages at block next_page no_next_page (λ x. e.1 (sym x)) in
          ap (λ (t : NextState). t.programs) other ∙ ap (λ b. if b then counted (next_page_at s block).programs else (next_page_at s block).programs) (sym e.0)
    ]

programs_erased : (s : Flash) (other : ℕ) (left : List Page) (passed : Bool) (block : ℕ) → block < length s.next_pages
    → (next_page_at (after s (Erase other passed left)) block).programs ≡ (next_page_at s block).programs
unfolding after
programs_erased s other left passed block lt =
    let next_page : NextState = after_erase (next_page_at s other) (may_erase s other) passed in
    elim (eqb_tells other block) [
      | inl e ↦
          let here : get_or (slice_set s.next_pages other next_page) block no_next_page ≡ next_page = ap (λ n. get_or (slice_set s.next_pages other next_page) n no_next_page) (sym e.1) ∙ next_page-same s other next_page (subst (λ n. n < length s.next_pages) (sym e.1) lt) in
          ap (λ (t : NextState). t.programs) here ∙ ap (λ n. (next_page_at s n).programs) e.1
      | inr e ↦ ap (λ (t : NextState). t.programs) (get_or-set_other s.next_pages other block next_page no_next_page (λ x. e.1 (sym x)))
    ]

erases_after : (s : Flash) (other : ℕ) (left : List Page) (passed : Bool) (block : ℕ) → block < length s.next_pages
    → (next_page_at (after s (Erase other passed left)) block).erases ≡ counted_where (other == block) (next_page_at s block).erases
unfolding after counted_where
erases_after s other left passed block lt =
    let next_page : NextState = after_erase (next_page_at s other) (may_erase s other) passed in
    elim (eqb_tells other block) [
      | inl e ↦
          let here : get_or (slice_set s.next_pages other next_page) block no_next_page ≡ next_page = ap (λ n. get_or (slice_set s.next_pages other next_page) n no_next_page) (sym e.1) ∙ next_page-same s other next_page (subst (λ n. n < length s.next_pages) (sym e.1) lt) in
          ap (λ (t : NextState). t.erases) here ∙ (ap (λ n. counted (next_page_at s n).erases) e.1 ∙ ap (λ b. if b then counted (next_page_at s block).erases else (next_page_at s block).erases) (sym e.0))
      | inr e ↦
          let same : get_or (slice_set s.next_pages other next_page) block no_next_page ≡ next_page_at s block = get_or-set_other s.next_pages other block next_page no_next_page (λ x. e.1 (sym x)) in
          ap (λ (t : NextState). t.erases) same ∙ ap (λ b. if b then counted (next_page_at s block).erases else (next_page_at s block).erases) (sym e.0)
    ]

erases_programmed : (s : Flash) (row : ℕ) (page left : Page) (passed : Bool) (block : ℕ) → block < length s.next_pages
    → (next_page_at (after s (Program row page passed left)) block).erases ≡ (next_page_at s block).erases
unfolding after
erases_programmed s row page left passed block lt =
    let at : ℕ = row / s.geometry.pages in
    let next_page : NextState = after_program (next_page_at s at) (may_program s row) passed in
    elim (eqb_tells at block) [
      | inl e ↦
          let here : get_or (slice_set s.next_pages at next_page) block no_next_page ≡ next_page = ap (λ n. get_or (slice_set s.next_pages at next_page) n no_next_page) (sym e.1) ∙ next_page-same s at next_page (subst (λ n. n < length s.next_pages) (sym e.1) lt) in
          ap (λ (t : NextState). t.erases) here ∙ ap (λ n. (next_page_at s n).erases) e.1
      | inr e ↦ ap (λ (t : NextState). t.erases) (get_or-set_other s.next_pages at block next_page no_next_page (λ x. e.1 (sym x)))
    ]

-- one more, below the top
one_more : (b : Bool) (n m k rest : ℕ) → m ≡ counted_where b n → n + (rest + one_if b) < 2 ^ 64 → (m + rest < 2 ^ 64 → k ≡ m + rest) → k ≡ n + (rest + one_if b)
unfolding counted_where
one_more true n m k rest is lt more = let at : m ≡ n + 1 = omega (arith, is, lt) in omega (arith, more (omega (arith, at, lt)), at)
one_more false n m k rest is lt more = let at : m ≡ n = is in omega (arith, more (omega (arith, at, lt)), at)

all_programs : (s : Flash) (log : List Operation) (pages block : ℕ) → s.geometry.pages ≡ pages → block < length s.next_pages → (next_page_at s block).programs + programs_of pages log block < 2 ^ 64
    → (next_page_at (after_all s log) block).programs ≡ (next_page_at s block).programs + programs_of pages log block
unfolding after_all
all_programs s [] pages block same lt fits = omega arith
all_programs s (Program row page passed left ∷ log) pages block same lt fits =
    let op : Operation = Program row page passed left in
    let t : Flash = after s op in
    let now : (next_page_at t block).programs ≡ counted_where (row / pages == block) (next_page_at s block).programs = programs_after s row page left passed block lt ∙ ap (λ p. counted_where (row / p == block) (next_page_at s block).programs) same in
    one_more (row / pages == block) (next_page_at s block).programs (next_page_at t block).programs (next_page_at (after_all t log) block).programs (programs_of pages log block) now fits
    (λ small. all_programs t log pages block (ap (λ g. g.pages) (after-geometry s op) ∙ same) (subst (λ n. block < n) (sym (after-length s op)) lt) small)
all_programs s (Erase other passed left ∷ log) pages block same lt fits =
    let op : Operation = Erase other passed left in
    let t : Flash = after s op in
    let now : (next_page_at t block).programs ≡ (next_page_at s block).programs = programs_erased s other left passed block lt in
    all_programs t log pages block (ap (λ g. g.pages) (after-geometry s op) ∙ same) (subst (λ n. block < n) (sym (after-length s op)) lt) (subst (λ n. n + programs_of pages log block < 2 ^ 64) (sym now) fits)
    ∙ ap (λ n. n + programs_of pages log block) now

all_erases : (s : Flash) (log : List Operation) (block : ℕ) → block < length s.next_pages → (next_page_at s block).erases + erases_of log block < 2 ^ 64
    → (next_page_at (after_all s log) block).erases ≡ (next_page_at s block).erases + erases_of log block
unfolding after_all
all_erases s [] block lt fits = omega arith
all_erases s (Program row page passed left ∷ log) block lt fits =
    let op : Operation = Program row page passed left in
    let t : Flash = after s op in
    let now : (next_page_at t block).erases ≡ (next_page_at s block).erases = erases_programmed s row page left passed block lt in
    all_erases t log block (subst (λ n. block < n) (sym (after-length s op)) lt) (subst (λ n. n + erases_of log block < 2 ^ 64) (sym now) fits) ∙ ap (λ n. n + erases_of log block) now
all_erases s (Erase other passed left ∷ log) block lt fits =
    let op : Operation = Erase other passed left in
    let t : Flash = after s op in
    one_more (other == block) (next_page_at s block).erases (next_page_at t block).erases (next_page_at (after_all t log) block).erases (erases_of log block) (erases_after s other left passed block lt) fits
    (λ small. all_erases t log block (subst (λ n. block < n) (sym (after-length s op)) lt) small)

pub complete : CompleteLaw
complete old new log block lt h =
    let end : new ≡ after_all old log = leads_after old new log h in
    record {
      programs = λ fits. ap (λ (s : Flash). (next_page_at s block).programs) end ∙ all_programs old log old.geometry.pages block refl lt fits;
      erases = λ fits. ap (λ (s : Flash). (next_page_at s block).erases) end ∙ all_erases old log block lt fits;
    }
