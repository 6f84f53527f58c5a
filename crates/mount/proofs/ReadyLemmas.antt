-- What the definitions of the checker find in a formatted die.
use Rattle.std.proofs.Common.{◌≡◌, ◌≢◌, ◌↔◌, ℕ, zero, suc, ◌+◌, ◌*◌, ◌/◌, ◌%◌, ◌<◌, ◌≤◌, Bool, true, false, cond, List, [], ◌∷◌, length, length-set}
use Rattle.std.proofs.Common.{All, Some, None, refl, sym, ap, subst, ◌∙◌, arith, slice_get}
use Rattle.std.specs.Prelude.{not, ◌&&◌, ◌||◌, ◌==◌, count_by, filter}
use Rattle.std.specs.List.{range_with_len, list_any}
use Rattle.std.proofs.lemmas.List.Sums.{sum_by-cons}
use Rattle.std.proofs.lemmas.List.Elements.{All-map}
use Rattle.std.proofs.lemmas.Option.{slice_get-get_or}
use Rattle.page_layout.specs.declared.geometry.Geometry.{Geometry}
use Rattle.page_layout.specs.declared.record.Key.TheVariants.{Sector, Translation}
use Rattle.page_layout.specs.Geometry.{entries, row_count, table_pages}
use Rattle.page_layout.specs.Page.{Image}
use Rattle.page_layout.specs.Block.{block_pages, is_broken, has_gap}
use Rattle.page_layout.specs.Newest.{newest}
use Rattle.page_layout.specs.Array.{marks}
use Rattle.page_layout.specs.Flash.{Flash, Operation, Program, Erase, Leads}
use Rattle.page_layout.proofs.ArrayLemmas.{body_page}
use Rattle.page_layout.proofs.FlashLemmas.{image-program}
use Rattle.bad_blocks.specs.declared.table.TableRow.{TableRow}
use Rattle.bad_blocks.specs.Marks.{is_marked}
use Rattle.bad_blocks.specs.Table.{HasFittingWear, no_table_row}
use Rattle.bad_blocks.specs.TablePage.{code_of_class, word_or_padding, table_bytes, IsTablePage, IsWellFormed}
use Rattle.bad_blocks.proofs.PageLemmas.{table_bytes_page, right_word}
use Rattle.image_check.specs.Agrees.{HasTables}
use Rattle.image_check.specs.Blocks.{table_body, table_class, class, is_good_block, is_grown, is_shown_free, is_shown_open, is_of_data, IsTableOf}
use Rattle.image_check.specs.Mountable.{IsOrderly}
use Rattle.image_check.specs.Stale.{entry_of, is_stale, stale_sectors, stale_count}
use Rattle.image_check.proofs.MountableLemmas.{mountable}
use Rattle.image_check.proofs.TablesLemmas.{AreTaken, table_is, table_of, tables_hold}
use Rattle.promises.specs.Log.{erases_in, failed_in}
use Rattle.mount.specs.Formatted.{class_after, table_after, is_good_after, HasTablePage, IsFormatted}
use Rattle.mount.specs.Ready.{FormattedLaw}
use Rattle.mount.proofs.FinishLemmas.{zero_sector}
use Rattle.mount.proofs.SizeLemmas.{table_pages_fit}
use Rattle.mount.proofs.TableLemmas.{row_after, length-table_after, table_after-at}

-- ---- its size

-- programs leave as many pages as there were
length_after : (a b : Flash) (log : List Operation) → Leads a log b → erases_in log ≡ 0 → length b.image ≡ length a.image
length_after a b [] leads none = ap (λ (s : Flash). length s.image) leads
length_after a b (Program row its passed left ∷ log) leads none =
    length_after leads.0 b log leads.2 (omega arith)
    ∙ (ap length (image-program a leads.0 row its passed left leads.1) ∙ length-set a.image row left)
length_after a b (Erase block passed left ∷ log) leads none = absurd (omega arith)

-- ---- its tables

table_counted : (g : Geometry) (image : Image) (log : List Operation) → All HasFittingWear (table_after g image log)
table_counted g image log = All-map HasFittingWear (row_after g image log) (range_with_len 0 g.blocks) (λ k d l. record { most = omega arith })

body_is : (g : Geometry) (image : Image) (row u sequence : ℕ) (table : List TableRow) → HasTablePage g image row u sequence table → table_body image u ≡ table_bytes (entries g) table u
body_is g image row u sequence table page = table_is image u row page.newest_is ∙ (body_page image row page.its page.at ∙ page.body)

-- the table pages, word by word
tables_taken : (g : Geometry) (needed : ℕ) (old new : Flash) (good : ℕ) (f : IsFormatted g needed old new good) → AreTaken g new.image (table_pages g) (table_after g old.image f.log)
tables_taken g needed old new good f =
    let rows : List TableRow = table_after g old.image f.log in
    let page : (u : ℕ) → u < table_pages g → IsTablePage (entries g) rows u (table_body new.image u) =
    λ u l.
    let is = body_is g new.image (f.block * g.pages + u) u (f.table.first + u) rows (f.table.pages u l) in
    subst (λ (bytes : List ℕ). IsTablePage (entries g) rows u bytes) (sym is) (table_bytes_page (entries g) rows u (table_counted g old.image f.log)) in
    record {
      formed = λ u l. subst (λ n. IsWellFormed (entries g) n u (table_body new.image u)) (length-table_after g old.image f.log)
          (record { right = λ i m. rw ((page u l).words i m) (right_word rows (u * entries g + i)) });
      taken = λ u i l m. (page u l).words i m;
    }

-- ---- its blocks

code_after : (marked failed : Bool) → (code_of_class (class_after marked failed) + 256 * 0) % 256 ≡ code_of_class (class_after marked failed)
code_after true failed = refl
code_after false true = refl
code_after false false = refl

-- the class that the newest table gives a block
table_class_is : (g : Geometry) (needed : ℕ) (old new : Flash) (good b : ℕ) (f : IsFormatted g needed old new good) → b < g.blocks
    → table_class g new.image b ≡ code_of_class (class_after (is_marked g old.image b) (failed_in g.pages f.log b))
table_class_is g needed old new good b f l =
    let rows : List TableRow = table_after g old.image f.log in
    let size : length rows ≡ g.blocks = length-table_after g old.image f.log in
    let table : IsTableOf g new.image rows = table_of g new.image rows size (tables_taken g needed old new good f) in
    let row : slice_get rows b ≡ Some (row_after g old.image f.log b) =
    slice_get-get_or rows b no_table_row (omega (arith, size, l)) ∙ ap Some (table_after-at g old.image f.log b l) in
    ap (λ word. word % 256) (table.word b l ∙ ap word_or_padding row)
    ∙ code_after (is_marked g old.image b) (failed_in g.pages f.log b)

-- a class that isn't 4
other_class : (grown free first of_data : Bool) → ◌≢◌ {A = ℕ} (cond grown 5 (cond free 0 (cond first (cond of_data 1 2) 3))) 4
other_class true free first of_data = λ is. absurd (omega arith)
other_class false true first of_data = λ is. absurd (omega arith)
other_class false false true true = λ is. absurd (omega arith)
other_class false false true false = λ is. absurd (omega arith)
other_class false false false of_data = λ is. absurd (omega arith)

four : (marked failed : Bool) (code other : ℕ) → code ≡ code_of_class (class_after marked failed) → other ≢ 4 → ◌≡◌ {A = ℕ} (cond (code == 1) 4 other) 4 ↔ (marked ≡ true)
four true failed code other is ne = (λ c. refl, λ m. rw is refl)
four false true code other is ne = (λ c. absurd (ne (sym (rw is refl) ∙ c)), λ m. absurd (cc m))
four false false code other is ne = (λ c. absurd (ne (sym (rw is refl) ∙ c)), λ m. absurd (cc m))

class_four : (g : Geometry) (needed : ℕ) (old new : Flash) (good b : ℕ) → IsFormatted g needed old new good → b < g.blocks → (class g new.image b ≡ 4) ↔ (is_marked g old.image b ≡ true)
unfolding class
class_four g needed old new good b f l =
    four (is_marked g old.image b) (failed_in g.pages f.log b) (table_class g new.image b) _ (table_class_is g needed old new good b f l)
    (other_class (is_grown g new.image b) (is_shown_free g new.image b) (is_shown_open g new.image b) (is_of_data g new.image b))

good_seen : (marked failed broken gap : Bool) (code : ℕ) → code ≡ code_of_class (class_after marked failed) → (not (marked || failed) ≡ true → (broken || gap) ≡ false)
    → (not (code == 1) && not (not (code == 1) && (code == 2 || broken || gap))) ≡ not (marked || failed)
good_seen true failed broken gap code is quiet = rw is refl
good_seen false true broken gap code is quiet = rw is refl
good_seen false false broken gap code is quiet = rw (is, quiet refl) refl

-- the checker calls good what the table calls good
good_same : (g : Geometry) (needed : ℕ) (old new : Flash) (good b : ℕ) (f : IsFormatted g needed old new good) → b < g.blocks → is_good_block g new.image b ≡ is_good_after g old.image f.log b
unfolding is_good_block
good_same g needed old new good b f l =
    let ps = block_pages g new.image b in
    good_seen (is_marked g old.image b) (failed_in g.pages f.log b) (list_any is_broken ps) (has_gap ps) (table_class g new.image b) (table_class_is g needed old new good b f l) (f.shown b l)

count_within : (p q : ℕ → Bool) (from n : ℕ) → ((k : ℕ) → from ≤ k → k < from + n → p k ≡ q k) → count_by p (range_with_len from n) ≡ count_by q (range_with_len from n)
count_within p q from zero same = refl
count_within p q from (suc n) same =
    let here : ◌≡◌ {A = ℕ} (cond (p from) 1 0) (cond (q from) 1 0) = ap (λ b. cond b 1 0) (same from (omega arith) (omega arith)) in
    let rest = count_within p q (from + 1) n (λ k low high. same k (omega arith) (omega arith)) in
    omega (arith, sum_by-cons (λ k. cond (p k) 1 0) from (range_with_len (from + 1) n), sum_by-cons (λ k. cond (q k) 1 0) from (range_with_len (from + 1) n), here, rest)

-- ---- its sectors

filter_none : (p : ℕ → Bool) (from n : ℕ) → ((k : ℕ) → p k ≡ false) → filter p (range_with_len from n) ≡ []
filter_none p from zero none = refl
filter_none p from (suc n) none = rw (none from) (filter_none p (from + 1) n none)

none_stale : (g : Geometry) (image : Image) → ((n : ℕ) → newest (marks image) (Sector n) ≡ None) → ((t : ℕ) → newest (marks image) (Translation t) ≡ None) → stale_sectors g image ≡ []
unfolding stale_sectors is_stale entry_of
none_stale g image no_sector no_translation =
    filter_none (is_stale g image) 0 g.sectors (λ n. rw (no_translation (n / entries g), no_sector n) refl)

-- ---- the whole image

orderly : (g : Geometry) (needed : ℕ) (old new : Flash) (good capacity : ℕ) → IsFormatted g needed old new good → IsOrderly g capacity new.image
orderly g needed old new good capacity f =
    let rows : List TableRow = table_after g old.image f.log in
    let tables : HasTables g new.image =
    tables_hold g new.image rows (λ u l. record { row = f.block * g.pages + u; newest_is = (f.table.pages u l).newest_is }) (tables_taken g needed old new good f) in
    let none : stale_count g new.image ≡ 0 = ap length (none_stale g new.image f.blank.no_sector f.blank.no_translation) in
    record {
      numbers = record { in_range = f.blank.one.in_range };
      sequences = f.blank.one.distinct;
      tables = tables;
      last = record { below = λ row x at. omega (arith, f.blank.below.below row x at, f.few_programs, table_pages_fit g, g.limits.page_count.most) };
      fresh = omega (arith, none);
    }

pub ready : FormattedLaw
ready g needed old new good f = record {
  factory = λ b l. class_four g needed old new good b f l;
  good_is = count_within (is_good_block g new.image) (is_good_after g old.image f.log) 0 g.blocks (λ k low high. good_same g needed old new good k f (omega (arith, high))) ∙ sym f.good_is;
  fresh = none_stale g new.image f.blank.no_sector f.blank.no_translation;
  mountable = λ capacity least most.
      let size : length new.image ≡ row_count g = length_after old new f.log f.done.leads f.done.erases ∙ f.whole.rows in
      (mountable g capacity new.image size least most).1 (orderly g needed old new good capacity f);
  zero = λ n l. zero_sector g new.image n (f.blank.no_sector n);
}
