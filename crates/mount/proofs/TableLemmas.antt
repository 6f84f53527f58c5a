-- The table of a fresh die after a log.
use Rattle.std.proofs.Common.{◌≡◌, inl, inr, ℕ, ◌<◌, zero, suc, ◌+◌, Bool, true, false, cond, List, [], ◌∷◌, ◌++◌, length, map, set, length-set}
use Rattle.std.proofs.Common.{refl, sym, ◌∙◌, ap, arith}
use Rattle.std.specs.Prelude.{not, ◌||◌, count_by}
use Rattle.std.specs.List.{range_with_len}
use Rattle.std.proofs.lemmas.List.Sums.{sum_by-cons}
use Rattle.std.proofs.lemmas.Bool.{cases_eq}
use Rattle.std.proofs.lemmas.List.{get_or-set_same, get_or-set_other}
use Rattle.std.proofs.lemmas.List.FromFn.{length-map-range_with_len, get_or-map-range_with_len}
use Rattle.page_layout.specs.declared.geometry.Geometry.{Geometry}
use Rattle.page_layout.specs.Page.{Image}
use Rattle.page_layout.specs.Flash.{Operation}
use Rattle.bad_blocks.specs.declared.class.Class.TheVariants.{Grown}
use Rattle.bad_blocks.specs.declared.table.TableRow.{TableRow}
use Rattle.bad_blocks.specs.Marks.{is_marked}
use Rattle.bad_blocks.specs.Table.{no_table_row, table_row_at, wear_at, is_good, is_good_at, is_good_class, good_count, retired}
use Rattle.bad_blocks.proofs.RangeLemmas.{map_range_from_places}
use Rattle.promises.specs.Log.{block_of, failed_in}
use Rattle.mount.specs.Log.{has_failed}
use Rattle.mount.specs.Formatted.{class_after, table_after, is_good_after, good_after}
use Rattle.mount.proofs.LogLemmas.{failed_in-passed, failed_in-other, failed_in-failed}

abbrev pub row_after : Geometry → Image → List Operation → ℕ → TableRow
row_after g image log block = record { class = class_after (is_marked g image block) (failed_in g.pages log block); wear = 0 }

pub length-table_after : (g : Geometry) (image : Image) (log : List Operation) → length (table_after g image log) ≡ g.blocks
length-table_after g image log = length-map-range_with_len (row_after g image log) 0 g.blocks

pub table_after-at : (g : Geometry) (image : Image) (log : List Operation) (b : ℕ) → b < g.blocks → table_row_at (table_after g image log) b ≡ row_after g image log b
table_after-at g image log b l = get_or-map-range_with_len (row_after g image log) 0 g.blocks b b no_table_row l (omega arith)

-- what a good block is
pub record IsClear (g : Geometry) (image : Image) (log : List Operation) (b : ℕ) : Type 0 where
  pub unmarked : is_marked g image b ≡ false
  pub unfailed : failed_in g.pages log b ≡ false

clear_from : (marked failed : Bool) → is_good_class (class_after marked failed) ≡ true → (marked ≡ false) × (failed ≡ false)
clear_from true failed good = absurd (cc good)
clear_from false true good = absurd (cc good)
clear_from false false good = (refl, refl)

pub good_is_clear : (g : Geometry) (image : Image) (log : List Operation) (b : ℕ) → b < g.blocks → is_good_at (table_after g image log) b ≡ true → IsClear g image log b
good_is_clear g image log b l good =
    let parts = clear_from (is_marked g image b) (failed_in g.pages log b) (ap is_good (sym (table_after-at g image log b l)) ∙ good) in
    record { unmarked = parts.0; unfailed = parts.1 }

pub clear_is_good : (g : Geometry) (image : Image) (log : List Operation) (b : ℕ) → b < g.blocks → IsClear g image log b → is_good_at (table_after g image log) b ≡ true
clear_is_good g image log b l clear =
    ap is_good (table_after-at g image log b l) ∙ rw (clear.unmarked, clear.unfailed) refl

good_row : (marked failed : Bool) → is_good_class (class_after marked failed) ≡ not (marked || failed)
good_row true failed = refl
good_row false true = refl
good_row false false = refl

-- the table calls good what isn't marked and hasn't failed
pub good_after-table : (g : Geometry) (image : Image) (log : List Operation) (b : ℕ) → b < g.blocks → is_good_at (table_after g image log) b ≡ is_good_after g image log b
good_after-table g image log b l = ap is_good (table_after-at g image log b l) ∙ good_row (is_marked g image b) (failed_in g.pages log b)

counts_same : (p : TableRow → Bool) (f : ℕ → TableRow) (q : ℕ → Bool) (from n : ℕ) → ((k : ℕ) → p (f k) ≡ q k) → count_by p (map f (range_with_len from n)) ≡ count_by q (range_with_len from n)
counts_same p f q from zero same = refl
counts_same p f q from (suc n) same =
    let here : ◌≡◌ {A = ℕ} (cond (p (f from)) 1 0) (cond (q from) 1 0) = ap (λ b. cond b 1 0) (same from) in
    let rest : count_by p (map f (range_with_len (from + 1) n)) ≡ count_by q (range_with_len (from + 1) n) = counts_same p f q (from + 1) n same in
    omega (arith, sum_by-cons (λ x. cond (p x) 1 0) (f from) (map f (range_with_len (from + 1) n)), sum_by-cons (λ k. cond (q k) 1 0) from (range_with_len (from + 1) n), here, rest)

-- and counts them
pub good_count-table : (g : Geometry) (image : Image) (log : List Operation) → good_count (table_after g image log) ≡ good_after g image log
good_count-table g image log =
    counts_same is_good (row_after g image log) (is_good_after g image log) 0 g.blocks (λ k. good_row (is_marked g image k) (failed_in g.pages log k))

-- ---- one operation more

-- one that passed changes nothing
pub table_after-passed : (g : Geometry) (image : Image) (log : List Operation) (op : Operation) → has_failed op ≡ false → table_after g image log ≡ table_after g image (log ++ op ∷ [])
table_after-passed g image log op passed =
    map_range_from_places (row_after g image (log ++ op ∷ [])) g.blocks no_table_row (table_after g image log) (length-table_after g image log)
    (λ k l. table_after-at g image log k l ∙ ap (λ (f : Bool). of_failure k f) (sym (failed_in-passed g.pages log op k passed)))
  where
    of_failure : ℕ → Bool → TableRow
    of_failure k f = record { class = class_after (is_marked g image k) f; wear = 0 }

-- one that failed in a good block makes it grown bad
pub table_after-failed : (g : Geometry) (image : Image) (log : List Operation) (op : Operation) (block : ℕ) → has_failed op ≡ true → block_of g.pages op ≡ block → block < g.blocks
    → is_good_at (table_after g image log) block ≡ true → retired (table_after g image log) block ≡ table_after g image (log ++ op ∷ [])
table_after-failed g image log op block failed is within good =
    let old : List TableRow = table_after g image log in
    let grown : TableRow = record { class = Grown; wear = wear_at old block } in
    let size : length old ≡ g.blocks = length-table_after g image log in
    let clear : IsClear g image log block = good_is_clear g image log block within good in
    let wear : wear_at old block ≡ 0 = ap wear_of (table_after-at g image log block within) in
    let here : grown ≡ row_after g image (log ++ op ∷ []) block =
    rw (wear, clear.unmarked, failed_in-failed g.pages log op block failed is) refl in
    map_range_from_places (row_after g image (log ++ op ∷ [])) g.blocks no_table_row (set old block grown) (length-set old block grown ∙ size)
    (λ k l. elim (cases_eq k block) [
      | inl same ↦ rw same (get_or-set_same old block grown no_table_row (omega (arith, size, within)) ∙ here)
      | inr ne ↦ get_or-set_other old block k grown no_table_row ne
          ∙ (table_after-at g image log k l ∙ ap (λ (f : Bool). of_failure k f) (sym (failed_in-other g.pages log op k (λ e. ne (sym e ∙ is)))))
    ])
  where
    of_failure : ℕ → Bool → TableRow
    of_failure k f = record { class = class_after (is_marked g image k) f; wear = 0 }

    wear_of : TableRow → ℕ
    wear_of row = row.wear
