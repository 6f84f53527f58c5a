-- What a die is once all its table pages stand in one block.
use Rattle.std.proofs.Common.{[], ◌≡◌, ◌⊎◌, inl, inr, ℕ, zero, suc, ◌+◌, ◌*◌, ◌/◌, ◌%◌, ◌<◌, ◌≤◌, true, false, List, length, map, replicate, get_or}
use Rattle.std.proofs.Common.{None, slice_get, refl, sym, ◌∙◌, ap, subst, arith}
use Rattle.std.specs.Prelude.{is_some, unwrap_or}
use Rattle.std.specs.List.{list_any, range_with_len}
use Rattle.std.proofs.lemmas.Bool.{cases_lt, cases_eq, or_from, false_from_ne_true}
use Rattle.std.proofs.lemmas.Option.{unwrap_or-slice_get, get_or_from_slice_get}
use Rattle.page_layout.specs.declared.geometry.Geometry.{Geometry}
use Rattle.page_layout.specs.declared.record.Key.TheVariants.{Sector}
use Rattle.page_layout.specs.Geometry.{row_count, table_pages}
use Rattle.page_layout.specs.Page.{Page, Image}
use Rattle.page_layout.specs.Sound.{record_of, is_erased_page}
use Rattle.page_layout.specs.Block.{block_pages, is_broken, has_gap}
use Rattle.page_layout.specs.Newest.{newest}
use Rattle.page_layout.specs.OneArray.{AreBelow}
use Rattle.page_layout.specs.Array.{marks, zeros, content_at, sector_of, array_of}
use Rattle.page_layout.specs.Flash.{Flash, Operation, no_page}
use Rattle.page_layout.proofs.GeometryLemmas.{row_within}
use Rattle.bad_blocks.specs.declared.table.TableRow.{TableRow}
use Rattle.bad_blocks.specs.Marks.{is_marked}
use Rattle.bad_blocks.specs.Table.{is_good_at, good_count}
use Rattle.mount.specs.Formatted.{good_after, is_good_after, table_after, shows_failure, HasTablePage, IsFormatted}
use Rattle.mount.specs.Log.{failures}
use Rattle.mount.specs.Attempt.{done_in, IsUnderway}
use Rattle.page_layout.proofs.RecordLemmas.{erased_no_record}
use Rattle.mount.proofs.BlockLemmas.{row_block, block_of_row, page_of_row, length-block_pages, get_or-block_pages, none_of_block, gap_free, unbroken}
use Rattle.mount.proofs.TableLemmas.{IsClear, good_is_clear, good_after-table, good_count-table}
use Rattle.mount.proofs.FreshLemmas.{fresh_erased}
use Rattle.mount.proofs.AttemptLemmas.{done-same, done-other}

-- ---- zeros

map-replicate : (f : ℕ → List ℕ) (x : List ℕ) (from n : ℕ) → ((k : ℕ) → f k ≡ x) → map f (range_with_len from n) ≡ replicate n x
map-replicate f x from zero same = refl
map-replicate f x from (suc n) same =
    let head : f from ≡ x = same from in
    let tail : map f (range_with_len (from + 1) n) ≡ replicate n x = map-replicate f x (from + 1) n same in
    cc

pub zero_sector : (g : Geometry) (image : Image) (n : ℕ) → newest (marks image) (Sector n) ≡ None → sector_of g image n ≡ zeros g
unfolding sector_of
zero_sector g image n none = ap (λ row. content_at g image row) none

zero_array : (g : Geometry) (image : Image) → ((n : ℕ) → newest (marks image) (Sector n) ≡ None) → array_of g image ≡ replicate g.sectors (zeros g)
unfolding array_of
zero_array g image none = map-replicate (sector_of g image) (zeros g) 0 g.sectors (λ n. zero_sector g image n (none n))

-- ---- the pages of a good block

get_or-same : (xs ys : List Page) (i : ℕ) → slice_get xs i ≡ slice_get ys i → get_or xs i no_page ≡ get_or ys i no_page
get_or-same xs ys i same = sym (unwrap_or-slice_get xs i no_page) ∙ (ap (λ p. unwrap_or p no_page) same ∙ unwrap_or-slice_get ys i no_page)

-- the first ones of the block of the table are sound
sound_page : (g : Geometry) (first now : Flash) (table : List TableRow) (block done next b k : ℕ) (log : List Operation) → IsUnderway g first now table block done next log → k < done_in block done b
    → is_some (record_of (get_or now.image (b * g.pages + k) no_page)) ≡ true
sound_page g first now table block done next b k log u l = elim (cases_eq b block) [
  | inl same ↦
      let within : k < done = omega (arith, l, done-same block done b same) in
      let page : HasTablePage g now.image (block * g.pages + k) k (u.sequence + k) table = u.pages k within in
      let at : get_or now.image (block * g.pages + k) no_page ≡ page.its = get_or_from_slice_get now.image (block * g.pages + k) page.its no_page page.at in
      ap (λ c. is_some (record_of (get_or now.image (c * g.pages + k) no_page))) same ∙ ap is_some (ap record_of at ∙ page.says)
  | inr ne ↦ absurd (omega (arith, l, done-other block done b ne))
]

-- the others are erased
rest_erased : (g : Geometry) (first now : Flash) (table : List TableRow) (block done next b k : ℕ) (log : List Operation) → IsUnderway g first now table block done next log → b < g.blocks → is_good_at table b ≡ true → k < g.pages → done_in block done b ≤ k
    → is_erased_page (get_or now.image (b * g.pages + k) no_page) ≡ true
rest_erased g first now table block done next b k log u within good l le =
    let row : ℕ = b * g.pages + k in
    let in_block : row / g.pages ≡ b = block_of_row g b k l in
    let page : row % g.pages ≡ k = page_of_row g b k l in
    let row_in : row < row_count g = row_within g b k within l in
    let clear : IsClear g first.image log b = good_is_clear g first.image log b within (ap (λ (t : List TableRow). is_good_at t b) (sym u.table_is) ∙ good) in
    let kept : slice_get now.image row ≡ slice_get first.image row = u.kept row row_in (ap (λ c. is_good_at table c) in_block ∙ good) (rw (in_block, page) le) in
    ap is_erased_page (get_or-same now.image first.image row kept)
    ∙ fresh_erased g first.image row u.fresh row_in (ap (is_marked g first.image) in_block ∙ clear.unmarked)

shows_none : (g : Geometry) (first now : Flash) (table : List TableRow) (block done next b : ℕ) (log : List Operation) → IsUnderway g first now table block done next log → b < g.blocks → is_good_at table b ≡ true → shows_failure g now.image b ≡ false
shows_none g first now table block done next b log u within good =
    let ps : List Page = block_pages g now.image b in
    let most : length ps ≤ g.pages = length-block_pages g now.image b in
    let d : ℕ = done_in block done b in
    or_from (list_any is_broken ps) (has_gap ps)
    (none_of_block g now.image b is_broken (λ k l. elim (cases_lt k d) [
      | inl lt ↦ unbroken (get_or now.image (b * g.pages + k) no_page) (inr (sound_page g first now table block done next b k log u lt))
      | inr ge ↦ unbroken (get_or now.image (b * g.pages + k) no_page) (inl (rest_erased g first now table block done next b k log u within good l ge))
    ]))
    (gap_free ps d
    (λ k l lt.
    ap is_erased_page (get_or-block_pages g now.image b k (omega (arith, l, most)))
    ∙ sound_unerased (get_or now.image (b * g.pages + k) no_page) (sound_page g first now table block done next b k log u lt))
    (λ k l ge.
    ap is_erased_page (get_or-block_pages g now.image b k (omega (arith, l, most)))
    ∙ rest_erased g first now table block done next b k log u within good (omega (arith, l, most)) ge))
  where
    sound_unerased : (p : Page) → is_some (record_of p) ≡ true → is_erased_page p ≡ false
    sound_unerased p sound = false_from_ne_true (is_erased_page p) (λ erased. (let bad : false ≡ true = sym (ap is_some (erased_no_record p erased)) ∙ sound in cc bad))

-- ---- the whole die

pub finished : (g : Geometry) (needed : ℕ) (first now : Flash) (table : List TableRow) (block next good : ℕ) (log : List Operation) → IsUnderway g first now table block (table_pages g) next log → block < g.blocks → is_good_at table block ≡ true
    → ((lower : ℕ) → lower < block → is_good_at table lower ≡ false) → failures log ≤ 2 → next ≤ 1 + 3 * table_pages g → good ≡ good_count table → good + failures log ≡ good_after g first.image [] → needed ≤ good → IsFormatted g needed first now good
finished g needed first now table block next good log u within is_good lowest most few good_is fewer enough =
    let same : table ≡ table_after g first.image log = u.table_is in
    let alike : (b : ℕ) → b < g.blocks → is_good_at table b ≡ is_good_after g first.image log b =
    λ b l. ap (λ (t : List TableRow). is_good_at t b) same ∙ good_after-table g first.image log b l in
    record {
      whole = u.whole;
      fresh = u.fresh;
      log = log;
      done = u.did;
      at_most = most;
      few_programs = omega (arith, u.count, few);
      good_is = good_is ∙ (ap good_count same ∙ good_count-table g first.image log);
      fewer = fewer;
      enough = enough;
      block = block;
      table = record {
        within = within;
        good = sym (alike block within) ∙ is_good;
        lowest = λ lower l. sym (alike lower (omega (arith, within, l))) ∙ lowest lower l;
        tried = λ other failed. u.tried other block failed within is_good;
        first = u.sequence;
        first_is = u.sequence_is ∙ sym u.count;
        pages = λ k l. subst (λ (t : List TableRow). HasTablePage g now.image (block * g.pages + k) k (u.sequence + k) t) same (u.pages k l);
      };
      blank = record {
        one = u.one;
        zero = zero_array g now.image u.no_sector;
        no_sector = u.no_sector;
        no_translation = u.no_translation;
        below = subst (λ n. AreBelow (marks now.image) n) (sym u.count) u.below;
      };
      shown = λ b l h. shows_none g first now table block (table_pages g) next b log u l (alike b l ∙ h);
      others = λ row l h apart. u.kept row l (alike (row / g.pages) (row_block g row l) ∙ h) (past g block row apart);
    }
  where
    past : (g : Geometry) (block row : ℕ) → (row < block * g.pages) ⊎ (block * g.pages + table_pages g ≤ row) → done_in block (table_pages g) (row / g.pages) ≤ row % g.pages
    past g block row apart = elim (cases_eq (row / g.pages) block) [
      | inl same ↦
          let some : 0 < g.pages = omega (arith, g.limits.page_count.least) in
          let whole : g.pages * (row / g.pages) ≡ g.pages * block = ap (λ q. g.pages * q) same in
          let mine : done_in block (table_pages g) (row / g.pages) ≡ table_pages g = done-same block (table_pages g) (row / g.pages) same in
          elim apart [
            | inl below ↦ absurd (omega arith)
            | inr above ↦ omega arith
          ]
      | inr ne ↦ omega (arith, done-other block (table_pages g) (row / g.pages) ne)
    ]
