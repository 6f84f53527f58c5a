-- What the counts of a log are: sums over blocks, blocks with a failure, good and free blocks.
use Rattle.std.proofs.Common.{◌≡◌, ◌<◌, inl, inr, ◌+◌, ◌-◌, ◌*◌, ◌/◌, ◌%◌, ◌==◌, ℕ, Bool, true, false, not, ◌&&◌, List, [], ◌∷◌, ◌++◌, length, take}
use Rattle.std.proofs.Common.{zero, suc, drop, get_or, refl, sym, ◌∙◌, ap, subst, arith, length-take, length-drop}
use Rattle.std.specs.Prelude.{slice_get, Some, sum_by, count_by}
use Rattle.std.specs.List.{list_all, range_with_len}
use Rattle.std.proofs.lemmas.List.{get_or-take, get_or-drop, get_or_default}
use Rattle.std.proofs.lemmas.List.FromFn.{length-range_with_len}
use Rattle.std.proofs.lemmas.List.Sums.{sum_by-cons, AllPass-from_list_all, list_all-from_AllPass}
use Rattle.std.proofs.lemmas.Option.{slice_get-get_or, slice_get_within, get_or_from_slice_get}
use Rattle.std.proofs.lemmas.Nat.{div-mul-add, div_below}
use Rattle.std.proofs.lemmas.Bool.{and_parts, and_from, or_cases, or_left, or_right, not-true, not_from_false, eq-eqb, eqb-true}
use Rattle.page_layout.specs.declared.geometry.Geometry.{Geometry}
use Rattle.page_layout.specs.Page.{Page, Image}
use Rattle.page_layout.specs.Sound.{is_erased_page}
use Rattle.page_layout.specs.Block.{block_pages}
use Rattle.page_layout.specs.Change.{one_if}
use Rattle.page_layout.specs.Flash.{Flash, Operation, Program, Erase, IsLawful, IsWhole, Leads, next_page_at, no_page}
use Rattle.page_layout.proofs.CountLemmas.{bit, count_by-cons, sum_by-add, sum_by-same, sum_by_zero, count_in_range_is}
use Rattle.page_layout.proofs.FlashLemmas.{geometry-Steps}
use Rattle.page_layout.proofs.RecordingLemmas.{whole_steps}
use Rattle.promises.specs.Log.{block_of, has_passed, programs_of, erases_of, failed_in, bad_of, good_of, AreErased, CountsEach, HasFailed, SumsLaw}
use Rattle.promises.specs.Log.{SinceLaw, FailedLaw, GoodLaw, FreeLaw, FreeCountLaw, free_of}
use Rattle.promises.proofs.LogLemmas.{complete}
use Rattle.promises.proofs.LegalLemmas.{in_block}

-- ---- sums over blocks

one_if-bit : (b : Bool) → one_if b ≡ bit b
one_if-bit true = refl
one_if-bit false = refl

-- one more in one of the blocks
one_more_in : (f : ℕ → ℕ) (at blocks : ℕ) → at < blocks → sum_by (λ b. f b + one_if (at == b)) (range_with_len 0 blocks) ≡ sum_by f (range_with_len 0 blocks) + 1
one_more_in f at blocks lt =
    let all : List ℕ = range_with_len 0 blocks in
    let one : sum_by (λ b. one_if (at == b)) all ≡ 1 =
    sum_by-same (λ b. one_if (at == b)) (λ b. bit (at == b)) all (λ b. one_if-bit (at == b)) ∙ count_in_range_is at 0 blocks (omega arith) (omega (arith, lt)) in
    sum_by-add f (λ b. one_if (at == b)) all ∙ ap (λ n. sum_by f all + n) one

-- an operation of the die names one of its blocks
names_block : (s : Flash) (op : Operation) → IsWhole s → IsLawful s op → block_of s.geometry.pages op < s.geometry.blocks
names_block s (Program row page passed left) w lawful =
    let rows : row < s.geometry.blocks * s.geometry.pages = omega (arith, lawful.in_range, w.image_whole.rows) in
    div_below row s.geometry.pages s.geometry.blocks (omega (arith, s.geometry.limits.page_count.least)) rows
names_block s (Erase block passed left) w lawful = omega (arith, lawful.in_range, w.next_pages_whole)

sums_at : (g : Geometry) (old new : Flash) (log : List Operation) → old.geometry ≡ g → IsWhole old → Leads old log new → CountsEach g log
sums_at g old new [] same w leads = record { programs = sym (sum_by_zero (range_with_len 0 g.blocks)); erases = sym (sum_by_zero (range_with_len 0 g.blocks)) }
sums_at g old new (Program row page passed left ∷ log) same w leads =
    let op : Operation = Program row page passed left in
    let rest = sums_at g leads.0 new log (geometry-Steps old leads.0 op leads.1 ∙ same) (whole_steps old leads.0 op leads.1 w) leads.2 in
    let within : row / g.pages < g.blocks = subst (λ (h : Geometry). row / h.pages < h.blocks) same (names_block old op w leads.1.lawful) in
    record {
      programs = ap (λ n. n + 1) rest.programs ∙ sym (one_more_in (λ b. programs_of g.pages log b) (row / g.pages) g.blocks within);
      erases = rest.erases;
    }
sums_at g old new (Erase block passed left ∷ log) same w leads =
    let op : Operation = Erase block passed left in
    let rest = sums_at g leads.0 new log (geometry-Steps old leads.0 op leads.1 ∙ same) (whole_steps old leads.0 op leads.1 w) leads.2 in
    let within : block < g.blocks = subst (λ (h : Geometry). block < h.blocks) same (names_block old op w leads.1.lawful) in
    record {
      programs = rest.programs;
      erases = ap (λ n. n + 1) rest.erases ∙ sym (one_more_in (λ b. erases_of log b) block g.blocks within);
    }

pub sums : SumsLaw
sums old new log w leads = sums_at old.geometry old new log refl w leads

-- functions that agree on a range have one sum there
sum_in_range : (f g : ℕ → ℕ) (a n : ℕ) → ((k : ℕ) → k < a + n → f k ≡ g k) → sum_by f (range_with_len a n) ≡ sum_by g (range_with_len a n)
sum_in_range f g a zero same = refl
sum_in_range f g a (suc n) same =
    let rest : sum_by f (range_with_len (a + 1) n) ≡ sum_by g (range_with_len (a + 1) n) = sum_in_range f g (a + 1) n (λ k lt. same k (omega (arith, lt))) in
    omega (arith, rest, same a (omega arith), sum_by-cons f a (range_with_len (a + 1) n), sum_by-cons g a (range_with_len (a + 1) n))

pub since : SinceLaw
since old new log w leads =
    let n : ℕ = old.geometry.blocks in
    let each = sums old new log w leads in
    let all = λ (block : ℕ) (lt : block < n). complete old new log block (subst (λ m. block < m) (sym w.next_pages_whole) lt) leads in
    record {
      programs = λ fits.
          sum_in_range (λ b. (next_page_at new b).programs) (λ b. (next_page_at old b).programs + programs_of old.geometry.pages log b) 0 n (λ b lt. (all b (omega (arith, lt))).programs (fits b))
          ∙ (sum_by-add (λ b. (next_page_at old b).programs) (λ b. programs_of old.geometry.pages log b) (range_with_len 0 n)
          ∙ ap (λ m. sum_by (λ b. (next_page_at old b).programs) (range_with_len 0 n) + m) (sym each.programs));
      erases = λ fits.
          sum_in_range (λ b. (next_page_at new b).erases) (λ b. (next_page_at old b).erases + erases_of log b) 0 n (λ b lt. (all b (omega (arith, lt))).erases (fits b))
          ∙ (sum_by-add (λ b. (next_page_at old b).erases) (λ b. erases_of log b) (range_with_len 0 n)
          ∙ ap (λ m. sum_by (λ b. (next_page_at old b).erases) (range_with_len 0 n) + m) (sym each.erases));
    }

-- ---- blocks with a failure

has_failed : (pages block : ℕ) (log : List Operation) → failed_in pages log block ≡ true → HasFailed pages log block
has_failed pages block [] e = cc
has_failed pages block (op ∷ log) e =
    elim (or_cases (not (has_passed op) && (block_of pages op == block)) (failed_in pages log block) e) [
      | inl here ↦
          let parts = and_parts (not (has_passed op)) (block_of pages op == block) here in
          record { before = []; op = op; after = log; log_is = refl; names = eqb-true (block_of pages op) block parts.1; fails = not-true (has_passed op) parts.0 }
      | inr later ↦
          let found = has_failed pages block log later in
          record { before = op ∷ found.before; op = found.op; after = found.after; log_is = ap (λ l. op ∷ l) found.log_is; names = found.names; fails = found.fails }
    ]

failed_here : (pages block : ℕ) (before : List Operation) (op : Operation) (after : List Operation) → block_of pages op ≡ block → has_passed op ≡ false → failed_in pages (before ++ op ∷ after) block ≡ true
failed_here pages block [] op after names fails =
    or_left (not (has_passed op) && (block_of pages op == block)) (failed_in pages after block)
    (and_from (not (has_passed op)) (block_of pages op == block) (not_from_false (has_passed op) fails) (eq-eqb (block_of pages op) block names))
failed_here pages block (first ∷ before) op after names fails =
    or_right (not (has_passed first) && (block_of pages first == block)) (failed_in pages (before ++ op ∷ after) block) (failed_here pages block before op after names fails)

pub failed : FailedLaw
failed pages block log = (
  has_failed pages block log,
  λ h. ap (λ l. failed_in pages l block) h.log_is ∙ failed_here pages block h.before h.op h.after h.names h.fails,
)

-- ---- good and free blocks

bit-not : (b : Bool) → bit (not b) + bit b ≡ 1
bit-not true = refl
bit-not false = refl

-- each passes the test or its opposite
one_or_other : (test : ℕ → Bool) (xs : List ℕ) → count_by (λ x. not (test x)) xs + count_by test xs ≡ length xs
one_or_other test [] = refl
one_or_other test (x ∷ xs) = omega (arith, count_by-cons (λ y. not (test y)) x xs, count_by-cons test x xs, bit-not (test x), one_or_other test xs)

pub good : GoodLaw
good g bad log = one_or_other (bad_of g.pages bad log) (range_with_len 0 g.blocks) ∙ length-range_with_len 0 g.blocks

pub free_counted : FreeCountLaw
free_counted g bad log image = let all = one_or_other (free_of g bad log image) (range_with_len 0 g.blocks) in omega (arith, all, length-range_with_len 0 g.blocks)

-- a page of a block stands in the image, and its row is of the block
on_block : (g : Geometry) (image : Image) (block k : ℕ) → k < length (block_pages g image block)
    → ((block * g.pages + k) / g.pages ≡ block) × (slice_get image (block * g.pages + k) ≡ Some (get_or (block_pages g image block) k no_page))
on_block g image block k lt =
    let a : ℕ = block * g.pages in
    let n : ℕ = a + g.pages - a in
    let small : k < n = omega (arith, lt, length-take n (drop a image)) in
    let long : a + k < length image = omega (arith, lt, length-take n (drop a image), length-drop a image) in
    let value : get_or (take n (drop a image)) k no_page ≡ get_or image (a + k) no_page = get_or-take n (drop a image) k no_page small ∙ get_or-drop a image k no_page in
    (div-mul-add block g.pages k (omega (arith, small)), slice_get-get_or image (a + k) no_page long ∙ ap Some (sym value))

pub free : FreeLaw
free g bad log image block = (
  λ e.
      let parts = and_parts (good_of g.pages bad log block) (list_all is_erased_page pages) e in
      (not-true (bad_of g.pages bad log block) parts.0, λ row its of at. all_erased parts.1 row its of at),
  λ h. and_from (good_of g.pages bad log block) (list_all is_erased_page pages) (not_from_false (bad_of g.pages bad log block) h.0) (list_all-from_AllPass is_erased_page pages (each_erased h.1)),
)
  where
    pages : List Page
    pages = block_pages g image block

    all_erased : list_all is_erased_page pages ≡ true → AreErased g image block
    all_erased e row its of at =
        let here : slice_get pages (row % g.pages) ≡ Some its = ap (λ b. slice_get (block_pages g image b) (row % g.pages)) (sym of) ∙ in_block g image row its at in
        ap is_erased_page (sym (get_or_from_slice_get pages (row % g.pages) its no_page here)) ∙ AllPass-from_list_all is_erased_page pages e (row % g.pages) no_page (slice_get_within pages (row % g.pages) its here)

    each_erased : AreErased g image block → (k : ℕ) (d : Page) → k < length pages → is_erased_page (get_or pages k d) ≡ true
    each_erased h k d lt =
        let at = on_block g image block k lt in
        let same : get_or pages k d ≡ get_or pages k no_page = get_or_default pages k d no_page lt in
        ap is_erased_page same ∙ h (block * g.pages + k) (get_or pages k no_page) at.0 at.1
