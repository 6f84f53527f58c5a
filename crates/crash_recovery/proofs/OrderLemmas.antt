-- What was cut was not stored, and shows no damage after.
use Rattle.std.proofs.Common.{◌≡◌, ◌⊎◌, inl, inr, ◌<◌, ◌≤◌, ◌/◌, ◌%◌, ℕ, Bool, true, false, not, ◌&&◌, ◌||◌, if◌then◌else◌, List, length, get_or, slice_get, Option, Some, None, IsSome, is_some, refl, sym, ap, ◌∙◌, subst, arith}
use Rattle.std.specs.Prelude.{◌==◌}
use Rattle.std.specs.List.{list_any}
use Rattle.std.proofs.lemmas.Bool.{cases_Bool, cases_lt, cases_order, both_ways}
use Rattle.std.proofs.lemmas.List.Folds.{Any-from_list_any, list_any_at}
use Rattle.std.proofs.lemmas.Nat.{div-mul-add, mod-mul-add}
use Rattle.std.proofs.lemmas.Option.{get_or_from_slice_get, slice_get-get_or, slice_get_within}
use Rattle.page_layout.specs.declared.geometry.Geometry.{Geometry}
use Rattle.page_layout.specs.declared.record.Record.{Record}
use Rattle.page_layout.specs.Geometry.{row_count}
use Rattle.page_layout.specs.Page.{Image, Page}
use Rattle.page_layout.specs.Flash.{no_page}
use Rattle.page_layout.specs.Sound.{record_of, is_erased_page}
use Rattle.page_layout.specs.Block.{HasGap, block_pages, has_gap, is_broken}
use Rattle.page_layout.specs.Array.{marks}
use Rattle.page_layout.specs.Change.{IsUnsoundAt, erased_page}
use Rattle.page_layout.proofs.ArrayLemmas.{mark-same}
use Rattle.page_layout.proofs.BlockLemmas.{gap_is, gap_from}
use Rattle.page_layout.proofs.ErasedLemmas.{erased_page_is}
use Rattle.page_layout.proofs.RecordLemmas.{erased_no_record}
use Rattle.nand_die.proofs.NextLemmas.{block_page, length-block_pages}
use Rattle.nand_die.proofs.PagesLemmas.{block_within}
use Rattle.file_die.specs.Store.{Held, AreImages, page_in}
use Rattle.image_check.specs.Blocks.{class, is_factory, is_grown, table_class}
use Rattle.image_laws.proofs.PowerLemmas.{both, stays, which}
use Rattle.crash_recovery.specs.Torn.{IsCut, IsCutFrom, IsFirstUnsound, row_in}
use Rattle.crash_recovery.specs.Taken.{HasTaken}
use Rattle.crash_recovery.specs.Laws.{CutAgainLaw, CutLaw, GoodInOrderLaw, CutShowsNoDamageLaw, OrderLaw}
use Rattle.crash_recovery.proofs.CutLemmas.{has_it, is_cut_behind, not_before}
use Rattle.crash_recovery.proofs.TakesLemmas.{spared_same}
use Rattle.crash_recovery.proofs.Rows.{mark_in, page_below, row_split, unsound_in}

-- ---- what was stored

pub order : OrderLaw
order g stored left found block page k power in_order first le lt =
    let here : IsUnsoundAt stored (row_in g block page) = elim (which (get_or (marks stored) (row_in g block page) None)) [
      | inl none ↦ none
      | inr some ↦ absurd (both (get_or (marks found) (row_in g block page) None) some.0 first.unsound
          (mark-same found stored (row_in g block page) (stays g stored left found (row_in g block page) some.0 power some.1) ∙ some.1))
    ] in
    elim (cases_order page k) [
      | inl same ↦ subst (λ n. IsUnsoundAt stored (row_in g block n)) same here
      | inr (inl below) ↦ in_order.behind page k below lt here
      | inr (inr above) ↦ absurd (omega arith)
    ]

pub cut_law : CutLaw
cut_law g stored left found mark power in_order row is_cut =
    let block = row / g.pages in
    subst (λ n. IsUnsoundAt stored n) (row_split g row)
    (order g stored left found block is_cut.page (row % g.pages) power (in_order block is_cut.page is_cut.from) is_cut.from.first is_cut.behind (page_below g row))

-- ---- a block that is not bad

not_bad : (factory grown : Bool) (rest : ℕ) (n : ℕ) → n ≡ (if factory then 4 else (if grown then 5 else rest)) → n < 4 → (factory ≡ false) × (grown ≡ false)
not_bad true grown rest n e lt = absurd (omega (arith, e))
not_bad false true rest n e lt = absurd (omega (arith, e))
not_bad false false rest n e lt = (refl, refl)

no_damage : (factory named broken gap : Bool) → factory ≡ false → (not factory && (named || broken || gap)) ≡ false → (broken ≡ false) × (gap ≡ false)
no_damage true named broken gap f e = absurd (cc)
no_damage false true broken gap f e = absurd (cc)
no_damage false false true gap f e = absurd (cc)
no_damage false false false true f e = absurd (cc)
no_damage false false false false f e = (refl, refl)

-- a page that is not broken is erased where it has no record, and has none where it is erased
erased_of : (erased : Bool) (its : Option Record) → its ≡ None → (not erased && not (is_some its)) ≡ false → erased ≡ true
erased_of true its none e = refl
erased_of false None none e = absurd (cc)
erased_of false (Some r) none e = absurd (cc)

-- the page of a block, in the list of its pages
in_block : (g : Geometry) (image : Image) (block k : ℕ) → length image ≡ row_count g → block < g.blocks → k < g.pages → slice_get (block_pages g image block) k ≡ Some (page_in image (row_in g block k))
in_block g image block k rows lt within =
    slice_get-get_or (block_pages g image block) k no_page (subst (λ n. k < n) (sym (length-block_pages g image block rows lt)) within) ∙ ap Some (block_page g image block k within)

row_within : (g : Geometry) (block k : ℕ) → block < g.blocks → k < g.pages → row_in g block k < row_count g
row_within g block k lt within = omega (arith, block_within g block lt)

pub good_in_order : GoodInOrderLaw
unfolding class
good_in_order g image block whole lt good =
    let ps = block_pages g image block in
    let marked = not_bad (is_factory g image block) (is_grown g image block) _ (class g image block) refl good in
    let shows = no_damage (is_factory g image block) (table_class g image block == 2) (list_any is_broken ps) (has_gap ps) marked.0 marked.1 in
    record {
      behind = λ a b below within none.
          let in_a : a < g.pages = omega arith in
          let none_here : record_of (page_in image (row_in g block a)) ≡ None = sym (mark_in image (row_in g block a) (subst (λ n. row_in g block a < n) (sym whole.rows) (row_within g block a lt in_a))) ∙ none in
          let at_a = in_block g image block a whole.rows lt in_a in
          let at_b = in_block g image block b whole.rows lt within in
          let blank : is_erased_page (page_in image (row_in g block a)) ≡ true = erased_of (is_erased_page (page_in image (row_in g block a))) (record_of (page_in image (row_in g block a))) none_here (not_any ps a _ at_a shows.0) in
          elim (cases_Bool (is_erased_page (page_in image (row_in g block b)))) [
            | inl erased ↦ unsound_in image (row_in g block b) (erased_no_record (page_in image (row_in g block b)) erased)
            | inr filled ↦ absurd (both_ways (has_gap ps) shows.1
                (gap_from ps (record { early = a; late = b; order = below; erased = page_in image (row_in g block a); programmed = page_in image (row_in g block b); erased_at = at_a; programmed_at = at_b; is_erased = blank; is_not = filled })))
          ];
    }
  where
    not_any : (ps : List Page) (k : ℕ) (p : Page) → slice_get ps k ≡ Some p → list_any is_broken ps ≡ false → is_broken p ≡ false
    not_any ps k p at none = elim (cases_Bool (is_broken p)) [
      | inl broken ↦ absurd (both_ways (list_any is_broken ps) none (list_any_at is_broken ps k p (slice_get_within ps k p at) (ap is_broken (get_or_from_slice_get ps k p p at) ∙ broken)))
      | inr fine ↦ fine
    ]

-- ---- a block that was cut

not_cut : (g : Geometry) (image : Image) (mark block page k : ℕ) → IsFirstUnsound g image block page → k < page → k < g.pages → ¬ IsCut g image mark (row_in g block k)
not_cut g image mark block page k first below within is_cut =
    let of_block : row_in g block k / g.pages ≡ block = div-mul-add block g.pages k within in
    let of_page : row_in g block k % g.pages ≡ k = mod-mul-add block g.pages k within in
    let earlier : IsFirstUnsound g image block is_cut.page = subst (λ b. IsFirstUnsound g image b is_cut.page) of_block is_cut.from.first in
    not_before g image block page is_cut.page first earlier (omega (arith, is_cut.behind, of_page, below))

fine_sound : (erased : Bool) (its : Option Record) → IsSome its → (not erased && not (is_some its)) ≡ false
fine_sound true its is = refl
fine_sound false None never = absurd (cc)
fine_sound false (Some r) is = refl

fine_erased : (erased : Bool) (its : Option Record) → erased ≡ true → (not erased && not (is_some its)) ≡ false
fine_erased true its e = refl
fine_erased false its e = absurd (cc)

-- a page of the block after the cut is one of before, sound, or an erased one
after_cut : (mark : ℕ) (s t : Held) (block page k : ℕ) → AreImages s → block < s.geometry.blocks → HasTaken (IsCut s.geometry s.pages mark) s t → IsCutFrom s.geometry s.pages mark block page → k < s.geometry.pages
    → ((k < page) × IsSome (record_of (page_in t.pages (row_in s.geometry block k)))) ⊎ ((page ≤ k) × (page_in t.pages (row_in s.geometry block k) ≡ erased_page s.geometry))
after_cut mark s t block page k w lt has from within = elim (cases_lt k page) [
  | inl below ↦
      let row = row_in s.geometry block k in
      let stays : page_in t.pages row ≡ page_in s.pages row = has.others row (not_cut s.geometry s.pages mark block page k from.first below within) in
      let sound : get_or (marks s.pages) row None ≡ record_of (page_in s.pages row) = mark_in s.pages row (subst (λ n. row < n) (sym w.pages_whole.rows) (row_within s.geometry block k lt within)) in
      inl (below, subst IsSome (sound ∙ ap record_of (sym stays)) (from.first.before k below))
  | inr le ↦
      let row = row_in s.geometry block k in
      let inside : row < row_count t.geometry = subst (λ g. row < row_count g) (sym has.takes.geometry) (row_within s.geometry block k lt within) in
      inr (le, has.left.erased row inside (is_cut_behind s.geometry s.pages mark block page k from le within) ∙ ap erased_page has.takes.geometry)
]

pub healed : CutShowsNoDamageLaw
healed mark s t block page w lt has from =
    let g = s.geometry in
    let ps = block_pages g t.pages block in
    let rows : length t.pages ≡ row_count g = (has.takes.whole w).pages_whole.rows ∙ ap row_count has.takes.geometry in
    let long : length ps ≡ g.pages = length-block_pages g t.pages block rows lt in
    let is : (k : ℕ) (p : Page) → slice_get ps k ≡ Some p → p ≡ page_in t.pages (row_in g block k) = λ k p at.
    sym (get_or_from_slice_get ps k p no_page at) ∙ block_page g t.pages block k (omega (arith, slice_get_within ps k p at, long)) in
    let each : (k : ℕ) (p : Page) → slice_get ps k ≡ Some p → ((k < page) × IsSome (record_of p)) ⊎ ((page ≤ k) × (is_erased_page p ≡ true)) = λ k p at.
    elim (after_cut mark s t block page k w lt has from (omega (arith, slice_get_within ps k p at, long))) [
      | inl sound ↦ inl (sound.0, subst (λ q. IsSome (record_of q)) (sym (is k p at)) sound.1)
      | inr erased ↦ inr (erased.0, ap is_erased_page (is k p at ∙ erased.1) ∙ erased_page_is g)
    ] in (
      elim (cases_Bool (list_any is_broken ps)) [
        | inl some ↦
            let found = Any-from_list_any is_broken ps some in
            let at : slice_get ps found.0 ≡ Some found.1 = slice_get-get_or ps found.0 found.1 found.2 ∙ ap Some found.3 in
            absurd (elim (each found.0 found.1 at) [
              | inl sound ↦ both_ways (is_broken found.1) (fine_sound (is_erased_page found.1) (record_of found.1) sound.1) found.4
              | inr erased ↦ both_ways (is_broken found.1) (fine_erased (is_erased_page found.1) (record_of found.1) erased.1) found.4
            ])
        | inr none ↦ none
      ],
      elim (cases_Bool (has_gap ps)) [
        | inl some ↦ absurd (no_gap (gap_is ps some) each)
        | inr none ↦ none
      ],
    )
  where
    no_gap : {ps : List Page} → HasGap ps → ((k : ℕ) (p : Page) → slice_get ps k ≡ Some p → ((k < page) × IsSome (record_of p)) ⊎ ((page ≤ k) × (is_erased_page p ≡ true))) → ⊥
    no_gap gap each = elim (each gap.late gap.programmed gap.programmed_at) [
      | inl sound ↦ elim (each gap.early gap.erased gap.erased_at) [
        | inl first ↦ has_it (record_of gap.erased) first.1 (erased_no_record gap.erased gap.is_erased)
        | inr past ↦ omega (arith, gap.order, sound.0, past.0)
      ]
      | inr blank ↦ both_ways (is_erased_page gap.programmed) gap.is_not blank.1
    ]

-- ---- a cut that was stopped

pub again : CutAgainLaw
again mark s t block page w lt takes from =
    let g = s.geometry in
    let long : length t.pages ≡ row_count g = (takes.whole w).pages_whole.rows ∙ ap row_count takes.geometry in
    let was : (k : ℕ) → k < g.pages → get_or (marks s.pages) (row_in g block k) None ≡ record_of (page_in s.pages (row_in g block k)) = λ k within.
    mark_in s.pages (row_in g block k) (subst (λ n. row_in g block k < n) (sym w.pages_whole.rows) (row_within g block k lt within)) in
    let now : (k : ℕ) → k < g.pages → get_or (marks t.pages) (row_in g block k) None ≡ record_of (page_in t.pages (row_in g block k)) = λ k within.
    mark_in t.pages (row_in g block k) (subst (λ n. row_in g block k < n) (sym long) (row_within g block k lt within)) in
    let as_was : (k : ℕ) → k < g.pages → page_in t.pages (row_in g block k) ≡ page_in s.pages (row_in g block k) → get_or (marks t.pages) (row_in g block k) None ≡ get_or (marks s.pages) (row_in g block k) None = λ k within same.
    now k within ∙ (ap record_of same ∙ sym (was k within)) in (
      record {
        within = from.first.within;
        unsound = elim (takes.pages (row_in g block page)) [
          | inl same ↦ as_was page from.first.within same ∙ from.first.unsound
          | inr gone ↦ unsound_in t.pages (row_in g block page) gone.1
        ];
        before = λ k below.
            let within : k < g.pages = omega (arith, below, from.first.within) in
            let stays = spared_same (IsCut g s.pages mark) s t (row_in g block k) takes (not_cut g s.pages mark block page k from.first below within) in
            subst IsSome (sym (as_was k within stays)) (from.first.before k below);
      },
      record {
        unmarked = λ k r le within has. elim (takes.pages (row_in g block k)) [
          | inl same ↦ from.unmarked.unmarked k r le within (sym (as_was k within same) ∙ has)
          | inr gone ↦ absurd (both (get_or (marks t.pages) (row_in g block k) None) r (unsound_in t.pages (row_in g block k) gone.1) has)
        ];
      },
    )
