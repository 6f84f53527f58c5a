-- What an image shows once nothing waits for a translation page and each newest table page spells the table in memory.
use Rattle.std.proofs.Common.{◌≡◌, ℕ, zero, suc, ◌+◌, ◌*◌, ◌/◌, ◌%◌, ◌<◌, ◌≤◌, min, Bool, true, false, not, ◌&&◌, ◌||◌, ◌↔◌, List, [], ◌∷◌, length}
use Rattle.std.proofs.Common.{filter, Some, None, refl, sym, ap, subst, ◌∙◌, ◌⊎◌, inl, inr, arith, slice_get, is_some}
use Rattle.std.specs.Prelude.{◌==◌, nat_lt}
use Rattle.std.specs.List.{list_any, range_with_len}
use Rattle.std.proofs.lemmas.Bool.{cases_Bool, cases_lt, cond-false, ltb-true, lt-ltb}
use Rattle.std.specs.Int.{div_ceil}
use Rattle.std.proofs.Math.Nat.{mul-le-mul_right, div-mul-le_self}
use Rattle.std.proofs.lemmas.Grind.{div_ceil_times}
use Rattle.std.proofs.lemmas.Nat.{div-mul-add}
use Rattle.std.proofs.lemmas.List.Folds.{Any-from_list_any}
use Rattle.std.proofs.lemmas.Option.{slice_get_within, slice_get-get_or}
use Rattle.page_layout.specs.declared.geometry.Geometry.{Geometry}
use Rattle.page_layout.specs.Page.{Page, Image, IsImage}
use Rattle.page_layout.specs.Geometry.{entries, table_pages}
use Rattle.page_layout.specs.Sound.{record_of, is_erased_page}
use Rattle.page_layout.specs.Block.{block_pages, is_broken, has_gap, top_wear}
use Rattle.page_layout.specs.Word.{word_at}
use Rattle.page_layout.proofs.BlockLemmas.{gap_is, top_is}
use Rattle.page_layout.proofs.ArrayLemmas.{mark-page}
use Rattle.page_layout.proofs.ErasedLemmas.{is_erased_unsound}
use Rattle.bad_blocks.specs.declared.class.Class.{Class}
use Rattle.bad_blocks.specs.declared.class.Class.TheVariants.{Good, Factory, Grown}
use Rattle.bad_blocks.specs.Table.{is_good_at, is_good_class, class_at, wear_at, table_row_at, no_table_row, most_wear}
use Rattle.bad_blocks.specs.TablePage.{code_of_class, table_word, word_or_padding}
use Rattle.bad_blocks.proofs.PageLemmas.{table_bytes_page}
use Rattle.collection.proofs.Tables.{counted_rows}
use Rattle.allocation.specs.State.{State, pointer_at}
use Rattle.image_check.specs.Blocks.{word_of_block, table_class, table_wear, is_good_block, class, erase_count}
use Rattle.image_check.specs.Stale.{is_stale, stale_sectors, stale_count}
use Rattle.image_check.proofs.LookLemmas.{block_page, block_short}
use Rattle.image_check.proofs.StateLemmas.{class_most}
use Rattle.image_check.proofs.TablesLemmas.{table_is}
use Rattle.image_check.proofs.MountableLemmas.{mountable}
use Rattle.collection.specs.State.{Ram}
use Rattle.collection.specs.Safe.{IsRam}
use Rattle.collection.specs.Truth.{IsTrue, AreFilled, AreWorn}
use Rattle.collection.specs.Tables.{SpellsTable}
use Rattle.collection.proofs.MapLemmas.{none_not}
use Rattle.ftl_device.specs.Flush.{IsFlushed, ShowsBad, NoEntryStaleLaw, AnywhereLaw, ShownBadLaw, ShownWearLaw}
use Rattle.ftl_device.specs.Counts.{is_bad_by}
use Rattle.collection.proofs.Mounts.{right_entry, tables_are}
use Rattle.ftl_device.proofs.BlockLemmas.{good_class}

-- ---- no entry is stale

none_from : (p : ℕ → Bool) (a n : ℕ) → ((k : ℕ) → a ≤ k → k < a + n → p k ≡ false) → filter p (range_with_len a n) ≡ []
none_from p a zero none = refl
none_from p a (suc n) none =
    cond-false (p a) (a ∷ filter p (range_with_len (a + 1) n)) (filter p (range_with_len (a + 1) n)) (none a (omega arith) (omega arith))
    ∙ none_from p (a + 1) n (λ k low high. none k (omega arith) (omega arith))

pub fresh_law : NoEntryStaleLaw
unfolding stale_sectors
fresh_law r image w f = none_from (is_stale r.geometry image) 0 r.geometry.sectors
    (λ n low lt. right_entry r.geometry image n (w.maps.entry_is n (omega arith) (none_not _) (f.clean n (omega arith))))

pub anywhere_law : AnywhereLaw
anywhere_law r image capacity s w f some most =
    let none : stale_count r.geometry image ≡ 0 = ap length (fresh_law r image w f) in
    (mountable r.geometry capacity image w.whole.rows some most).1 (record {
      numbers = record { in_range = w.one.in_range };
      sequences = w.one.distinct;
      tables = tables_are r.geometry image w.tables;
      last = record { below = λ row x at. omega (arith, w.below.below row x at, s.next) };
      fresh = omega arith;
    })

-- the table page that a block is in
in_pages : (blocks n b : ℕ) → 0 < n → b < blocks → b / n < div_ceil blocks n
in_pages blocks n b some l =
    let enough = (div_ceil_times blocks n some).0 in
    let parts = div-mul-le_self b n in
    elim (cases_lt (b / n) (div_ceil blocks n)) [
      | inl below ↦ below
      | inr past ↦ absurd (let room : div_ceil blocks n * n ≤ b / n * n = mul-le-mul_right n past in omega arith)
    ]

-- ---- what the pages of a block show

module _ (s : State) (image : Image) (whole : IsImage s.geometry image) (f : AreFilled image s) (size : length s.table ≡ s.geometry.blocks)
    (tables : (u : ℕ) → u < table_pages s.geometry → SpellsTable s.geometry s.table image u) (w : AreWorn image s) (b : ℕ)
    (lt : b < s.geometry.blocks) where
  abbrev ps : List Page
  ps = block_pages s.geometry image b

  in_block : (k : ℕ) (p : Page) → slice_get ps k ≡ Some p → (k < s.geometry.pages) × (slice_get image (b * s.geometry.pages + k) ≡ Some p)
  in_block k p at =
      let few : k < s.geometry.pages = omega (arith, slice_get_within ps k p at, block_short s.geometry image b) in
      (few, sym (block_page s.geometry image b k (b * s.geometry.pages + k) refl few) ∙ at)

  -- a page of a good block is sound before its pointer and erased from there on
  sound_there : (k : ℕ) (p : Page) → is_good_at s.table b ≡ true → slice_get ps k ≡ Some p → k < pointer_at s b → is_some (record_of p) ≡ true
  sound_there k p good at before =
      let here : is_some (record_of p) ≡ is_some (record_of p) = refl in
      sym (ap is_some (mark-page image (b * s.geometry.pages + k) p (in_block k p at).1)) ∙ f.sound b k lt good before

  erased_there : (k : ℕ) (p : Page) → is_good_at s.table b ≡ true → slice_get ps k ≡ Some p → pointer_at s b ≤ k → is_erased_page p ≡ true
  erased_there k p good at past =
      let place = in_block k p at in
      let e = f.erased b k lt good past place.0 in
      let same : e.its ≡ p = (let both : Some e.its ≡ Some p = sym e.at ∙ place.1 in cc) in
      ap is_erased_page (sym same) ∙ e.is

  whole_page : (k : ℕ) (p : Page) → is_good_at s.table b ≡ true → slice_get ps k ≡ Some p → is_broken p ≡ false
  whole_page k p good at = elim (cases_lt k (pointer_at s b)) [
    | inl before ↦ by (is_erased_page p) (is_some (record_of p)) (inr (sound_there k p good at before))
    | inr past ↦ by (is_erased_page p) (is_some (record_of p)) (inl (erased_there k p good at past))
  ]
    where
      by : (erased sound : Bool) → (erased ≡ true) ⊎ (sound ≡ true) → (not erased && not sound) ≡ false
      by true sound e = refl
      by false true e = refl
      by false false (inl e) = (let no : false ≡ true = e in cc)
      by false false (inr e) = (let no : false ≡ true = e in cc)

  none_broken : is_good_at s.table b ≡ true → list_any is_broken ps ≡ false
  none_broken good = elim (cases_Bool (list_any is_broken ps)) [
    | inl some ↦
        let found = Any-from_list_any is_broken ps some in
        let at : slice_get ps found.0 ≡ Some found.1 = slice_get-get_or ps found.0 found.1 found.2 ∙ ap Some found.3 in
        let no : true ≡ false = sym found.4 ∙ whole_page found.0 found.1 good at in
        absurd (cc)
    | inr none ↦ none
  ]

  no_gap : is_good_at s.table b ≡ true → has_gap ps ≡ false
  no_gap good = elim (cases_Bool (has_gap ps)) [
    | inl some ↦ (let h = gap_is ps some in elim (cases_lt h.late (pointer_at s b)) [
      | inl before ↦
          let place = in_block h.early h.erased h.erased_at in
          let sound : is_some (record_of h.erased) ≡ true = sound_there h.early h.erased good h.erased_at (omega (arith, h.order)) in
          let none : record_of h.erased ≡ None = is_erased_unsound s.geometry h.erased (whole.pages (b * s.geometry.pages + h.early) h.erased place.1) h.is_erased in
          let no : true ≡ false = sym sound ∙ ap is_some none in
          absurd (cc)
      | inr past ↦
          let no : true ≡ false = sym (erased_there h.late h.programmed good h.programmed_at past) ∙ h.is_not in
          absurd (cc)
    ])
    | inr none ↦ none
  ]

  -- ---- what the newest table says of it

  word_is : word_of_block s.geometry image b ≡ code_of_class (class_at s.table b) + 256 * wear_at s.table b
  unfolding word_of_block
  word_is =
      let n : ℕ = entries s.geometry in
      let some : 0 < n = (let least = s.geometry.limits.data_size.least in omega arith) in
      let t = tables (b / n) (in_pages s.geometry.blocks n b some lt) in
      let parts : b / n * n + b % n ≡ b = omega arith in
      let row : slice_get s.table b ≡ Some (table_row_at s.table b) = slice_get-get_or s.table b no_table_row (omega arith) in
      ap (λ body. word_at body (4 * (b % n))) (table_is image (b / n) t.row t.newest_is)
      ∙ (ap (λ bytes. word_at bytes (4 * (b % n))) t.spelled ∙ ((table_bytes_page n s.table (b / n) (counted_rows image s w)).words (b % n) (omega arith) ∙ (ap (table_word s.table) parts ∙ ap word_or_padding row)))

  code_small : (c : Class) → code_of_class c < 3
  code_small Good = omega arith
  code_small Factory = omega arith
  code_small Grown = omega arith

  class_is : table_class s.geometry image b ≡ code_of_class (class_at s.table b)
  class_is = omega (arith, word_is, code_small (class_at s.table b))

  wear_is : table_wear s.geometry image b ≡ wear_at s.table b
  wear_is = omega (arith, word_is, code_small (class_at s.table b))

  pub good_is : is_good_block s.geometry image b ≡ is_good_at s.table b
  unfolding is_good_block
  good_is = by (class_at s.table b) (table_class s.geometry image b) (list_any is_broken ps) (has_gap ps) class_is none_broken no_gap
    where
      by : (c : Class) (code : ℕ) (broken gap : Bool) → code ≡ code_of_class c → (is_good_class c ≡ true → broken ≡ false) → (is_good_class c ≡ true → gap ≡ false) → (not (code == 1) && not (not (code == 1) && (code == 2 || broken || gap))) ≡ is_good_class c
      by Good code broken gap e h k = rw (e, h refl, k refl) refl
      by Factory code broken gap e h k = rw e refl
      by Grown code broken gap e h k = rw e refl

  top_told : min (top_wear ps) most_wear ≤ wear_at s.table b
  top_told = elim (top_is ps).met [
    | inl none ↦ omega arith
    | inr found ↦
        let place = in_block found.0 found.1 found.3 in
        let row : ℕ = b * s.geometry.pages + found.0 in
        let told = w.told row found.2 (mark-page image row found.1 place.1 ∙ found.4) in
        let its : row / s.geometry.pages ≡ b = div-mul-add b s.geometry.pages found.0 place.0 in
        let same : wear_at s.table (row / s.geometry.pages) ≡ wear_at s.table b = ap (wear_at s.table) its in
        let top : found.2.wear ≡ top_wear ps = found.5 in
        omega arith
  ]

  pub wear_shown : erase_count s.geometry image b ≡ wear_at s.table b
  unfolding erase_count
  wear_shown =
      let told = top_told in
      let its = wear_is in
      let most = w.most b in
      omega arith

-- ---- so a certificate says the same

bad_code : (code : ℕ) (good : Bool) → code ≤ 5 → nat_lt code 4 ≡ good → ((code ≡ 4) ⊎ (code ≡ 5)) ↔ (not good ≡ true)
bad_code code true le e = (
  λ is. absurd (let lt : code < 4 = ltb-true code 4 e in elim is [ inl four ↦ omega arith | inr five ↦ omega arith ]),
  λ no. absurd (let clash : false ≡ true = no in cc),
)
bad_code code false le e = (
  λ is. refl,
  λ no. elim (cases_lt code 4) [
    | inl lt ↦ absurd (let clash : true ≡ false = sym (lt-ltb code 4 lt) ∙ e in cc)
    | inr ge ↦ elim (cases_lt code 5) [ inl four ↦ inl (omega arith) | inr five ↦ inr (omega arith) ]
  ],
)

module _ (r : Ram) (image : Image) (b : ℕ) (s : IsRam r) (w : IsTrue None r image) (f : IsFlushed r image) (lt : b < r.geometry.blocks) where
  same : r.geometry ≡ r.blocks.geometry
  same = sym s.blocks_of

  whole_here : IsImage r.blocks.geometry image
  whole_here = subst (λ g. IsImage g image) same w.whole

  tables_here : (u : ℕ) → u < table_pages r.blocks.geometry → SpellsTable r.blocks.geometry r.blocks.table image u
  tables_here = subst (λ g. (u : ℕ) → u < table_pages g → SpellsTable g r.blocks.table image u) same f.tables

  lt_here : b < r.blocks.geometry.blocks
  lt_here = subst (λ (g : Geometry). b < g.blocks) same lt

  good_here : is_good_block r.geometry image b ≡ is_good_at r.blocks.table b
  good_here = ap (λ g. is_good_block g image b) same ∙ good_is r.blocks image whole_here w.filled s.blocks.table_whole tables_here w.worn b lt_here

  pub shown_bad : ShowsBad r.geometry image b ↔ (is_bad_by r b ≡ true)
  shown_bad = bad_code (class r.geometry image b) (is_good_at r.blocks.table b) (class_most r.geometry image b) (good_class r.geometry image b ∙ good_here)

  pub shown_wear : erase_count r.geometry image b ≡ wear_at r.blocks.table b
  shown_wear = ap (λ g. erase_count g image b) same ∙ wear_shown r.blocks image whole_here w.filled s.blocks.table_whole tables_here w.worn b lt_here

pub shown_bad_law : ShownBadLaw
shown_bad_law r image b s w f lt = shown_bad r image b s w f lt

pub shown_wear_law : ShownWearLaw
shown_wear_law r image b s w f lt = shown_wear r image b s w f lt
