-- Operation by operation: a block that takes its pages in order has no page behind one without a record, and which blocks stay so.
use Rattle.std.proofs.Common.{◌≡◌, ◌≢◌, inl, inr, ℕ, ◌+◌, ◌*◌, ◌/◌, ◌%◌, ◌<◌, Bool, true, false, not, List, get_or, set, Option, Some, None, IsSome, refl, sym, ap, subst, ◌∙◌, arith}
use Rattle.std.specs.Prelude.{slice_get, IsSomeAnd}
use Rattle.std.proofs.lemmas.Bool.{cases_Bool, cases_eq, cases_lt}
use Rattle.std.proofs.lemmas.Nat.{div-add-mod', div-mul-add}
use Rattle.page_layout.specs.declared.geometry.Geometry.{Geometry}
use Rattle.page_layout.specs.declared.record.Record.{Record}
use Rattle.page_layout.specs.Page.{Page, Image}
use Rattle.page_layout.specs.Sound.{record_of}
use Rattle.page_layout.specs.Key.{key_of}
use Rattle.page_layout.specs.Newest.{newest}
use Rattle.page_layout.specs.Array.{marks}
use Rattle.page_layout.specs.Change.{HoldsNone}
use Rattle.page_layout.specs.Flash.{Flash, Program, Erase, Steps}
use Rattle.page_layout.proofs.ArrayLemmas.{mark-page, mark-same, newest_unwritten, slice_get-set_same}
use Rattle.page_layout.proofs.FlashLemmas.{erase_loses, image-program, program_marks, program_other, program_sets}
use Rattle.page_layout.proofs.KeyLemmas.{cases_key}
use Rattle.image_laws.proofs.PowerLemmas.{both}
use Rattle.promises.specs.Legal.{Account, account_at, accounted, IsDueErase, IsDueProgram}
use Rattle.promises.proofs.AccountLemmas.{accounted-other, accounted-same}
use Rattle.promises.proofs.LegalLemmas.{in_range}
use Rattle.crash_recovery.specs.Torn.{row_in}
use Rattle.disk_laws.specs.Spared.{CutsSpare, IsMarkedBehind}
use Rattle.disk_laws.proofs.FitLemmas.{Fits, after_block, erase_fits, its, newest_now, program_fits, unsound}
use Rattle.disk_laws.proofs.SparedLemmas.{behind_same, empty_same}

-- the pages of a block that is not barred have records up to its next one
pub record Filled (pages : ℕ) (image : Image) (accounts : List Account) : Type 0 where
  pub sound : (b p : ℕ) → (account_at accounts b).barred ≡ false → p < (account_at accounts b).next → p < pages → IsSome (get_or (marks image) (b * pages + p) None)

some_none : {A : Type 0} (o : Option A) → IsSome o → o ≡ None → ⊥
some_none None some none = (let no : ⊥ = cc in no)
some_none (Some x) some none = (let no : ⊥ = cc in no)

-- so behind one without a record there is none
pub in_order : (g : Geometry) (image : Image) (accounts : List Account) (next mark block : ℕ) → Fits g.pages image accounts next → Filled g.pages image accounts → (account_at accounts block).barred ≡ false
    → IsMarkedBehind g image mark block
in_order g image accounts next mark block fits filled good = record {
  marked = λ a k r order within none has. elim (cases_lt a (account_at accounts block).next) [
    | inl below ↦ absurd (some_none (get_or (marks image) (row_in g block a) None) (filled.sound block a good below (omega (arith, order, within))) none)
    | inr past ↦ absurd (both (get_or (marks image) (row_in g block k) None) r (fits.free block k good (omega (arith, past, order)) within) has)
  ];
}

passed_by : (c : Bool) → not c ≡ false → c ≡ true
passed_by true e = refl
passed_by false e = (let no : ⊥ = cc in absurd no)

module _ (s t : Flash) (row : ℕ) (page left : Page) (passed : Bool) (accounts : List Account) (next : ℕ)
    (step : Steps s (Program row page passed left) t) (due : IsDueProgram s.geometry.pages accounts row)
    (numbered : IsSomeAnd (record_of page) (λ (r : Record). r.sequence ≡ next)) (fits : Fits s.geometry.pages s.image accounts next) (filled : Filled s.geometry.pages s.image accounts) where
  abbrev accounts_after : List Account
  accounts_after = accounted s.geometry.pages accounts (Program row page passed left)

  kept : (other : ℕ) → other ≢ row → get_or (marks t.image) other None ≡ get_or (marks s.image) other None
  kept other apart = mark-same t.image s.image other (program_other s t row other page left passed step apart)

  -- the page that was programmed has its record
  here : passed ≡ true → IsSome (get_or (marks t.image) row None)
  here passes =
      let r = its s t row page left passed accounts next step due numbered fits in
      let same : t.image ≡ set s.image row left = image-program s t row page passed left step in
      let at : slice_get t.image row ≡ Some left = ap (λ i. slice_get i row) same ∙ slice_get-set_same s.image row left step.lawful.in_range in
      let has : get_or (marks t.image) row None ≡ Some r.0 = mark-page t.image row left at ∙ (ap record_of (step.lawful.kept passes) ∙ r.1) in
      subst IsSome (sym has) refl

  filled_here : (b p : ℕ) → b ≡ row / s.geometry.pages → passed ≡ true → p < (account_at accounts b).next + 1 → p < s.geometry.pages → IsSome (get_or (marks t.image) (b * s.geometry.pages + p) None)
  filled_here b p is passes below within =
      let next_is : (account_at accounts b).next ≡ row % s.geometry.pages = ap (λ k. (account_at accounts k).next) is ∙ due.next in
      let in_row : b * s.geometry.pages + row % s.geometry.pages ≡ row = ap (λ k. k * s.geometry.pages + row % s.geometry.pages) is ∙ div-add-mod' row s.geometry.pages in
      let good : (account_at accounts b).barred ≡ false = subst (λ k. (account_at accounts k).barred ≡ false) (sym is) due.good in
      elim (cases_eq p (account_at accounts b).next) [
        | inl last ↦ subst (λ q. IsSome (get_or (marks t.image) q None)) (sym (ap (λ q. b * s.geometry.pages + q) (last ∙ next_is) ∙ in_row)) (here passes)
        | inr apart ↦ subst IsSome (sym (kept (b * s.geometry.pages + p) (λ same. apart (omega (arith, next_is, in_row, same))))) (filled.sound b p good (omega (arith, below, apart)) within)
      ]

  -- a row of another block
  there : (b p : ℕ) → b ≢ row / s.geometry.pages → p < s.geometry.pages → b * s.geometry.pages + p ≢ row
  there b p apart within same = apart (sym (div-mul-add b s.geometry.pages p within) ∙ ap (λ k. k / s.geometry.pages) same)

  pub program_filled : Filled s.geometry.pages t.image accounts_after
  program_filled = record {
    sound = λ b p good below within. elim (cases_eq b (row / s.geometry.pages)) [
      | inl is ↦
          let now = after_block s t row page left passed accounts next step due numbered fits b is in
          let passes : passed ≡ true = passed_by passed (sym (ap (λ (a : Account). a.barred) now) ∙ good) in
          filled_here b p is passes (subst (λ (a : Account). p < a.next) now below) within
      | inr apart ↦
          let now = accounted-other s.geometry.pages accounts (Program row page passed left) b (λ same. apart (sym same)) in
          let was : (account_at accounts b).barred ≡ false = sym (ap (λ (a : Account). a.barred) now) ∙ good in
          let lt : p < (account_at accounts b).next = subst (λ (a : Account). p < a.next) now below in
          subst IsSome (sym (kept (b * s.geometry.pages + p) (there b p apart within))) (filled.sound b p was lt within)
    ];
  }

  -- the block that was programmed is in order, done or not
  own_block : (g : Geometry) (mark : ℕ) → s.geometry ≡ g → IsMarkedBehind g t.image mark (row / s.geometry.pages)
  own_block g mark sized = subst (λ h. IsMarkedBehind h t.image mark (row / s.geometry.pages)) sized (elim (cases_Bool passed) [
    | inl passes ↦
        let now = after_block s t row page left passed accounts next step due numbered fits (row / s.geometry.pages) refl in
        in_order s.geometry t.image accounts_after (next + 1) mark (row / s.geometry.pages) (program_fits s t row page left passed accounts next step due numbered fits) program_filled
        (ap (λ (a : Account). a.barred) now ∙ ap not passes)
    | inr fails ↦
        let same : marks t.image ≡ marks s.image = program_marks s t row page left (subst (λ c. Steps s (Program row page c left) t) fails step) (unsound s t row page left passed accounts next step due numbered fits) in
        behind_same s.geometry s.image t.image mark (row / s.geometry.pages) (λ k within. ap (λ ms. get_or ms (row_in s.geometry (row / s.geometry.pages) k) None) same)
        (in_order s.geometry s.image accounts next mark (row / s.geometry.pages) fits filled due.good)
  ])

  -- each block that is marked behind stays so, and the one that was programmed is
  pub program_behind : (mark block : ℕ) → (block ≢ row / s.geometry.pages → IsMarkedBehind s.geometry s.image mark block) → IsMarkedBehind s.geometry t.image mark block
  program_behind mark block behind = elim (cases_eq block (row / s.geometry.pages)) [
    | inl is ↦ subst (IsMarkedBehind s.geometry t.image mark) (sym is) (own_block s.geometry mark refl)
    | inr apart ↦ behind_same s.geometry s.image t.image mark block (λ k within. kept (row_in s.geometry block k) (there block k apart within)) (behind apart)
  ]

  -- another block that holds no newest page holds none
  program_empty : (block : ℕ) → block ≢ row / s.geometry.pages → passed ≡ true → HoldsNone s.geometry.pages block s.image → HoldsNone s.geometry.pages block t.image
  program_empty block apart passes none =
      let r = its s t row page left passed accounts next step due numbered fits in
      let same : t.image ≡ set s.image row page = program_sets s t row page left (subst (λ c. Steps s (Program row page c left) t) passes step) in
      record {
        none = λ key q top. elim (cases_key (key_of r.0) key) [
          | inl own ↦ λ in_block.
              let now : newest (marks t.image) key ≡ Some row = subst (λ k. newest (marks t.image) k ≡ Some row) own (newest_now s t row page left passed accounts next step due numbered fits passes) in
              let both_top : Some q ≡ Some row = sym top ∙ now in
              let is : q ≡ row = cc in
              apart (sym in_block ∙ ap (λ x. x / s.geometry.pages) is)
          | inr other ↦
              let was : newest (marks t.image) key ≡ newest (marks s.image) key = ap (λ i. newest (marks i) key) same
              ∙ newest_unwritten s.image row page r.0 key step.lawful.in_range (unsound s t row page left passed accounts next step due numbered fits) r.1 other in
              none.none key q (sym was ∙ top)
        ];
      }

  pub program_spare : (mark : ℕ) → CutsSpare s.geometry s.image mark → CutsSpare s.geometry t.image mark
  program_spare mark cuts block = elim (cuts block) [
    | inl behind ↦ inl (program_behind mark block (λ apart. behind))
    | inr none ↦ elim (cases_eq block (row / s.geometry.pages)) [
      | inl is ↦ inl (program_behind mark block (λ apart. absurd (apart is)))
      | inr apart ↦ elim (cases_Bool passed) [
        | inl passes ↦ inr (program_empty block apart passes none)
        | inr fails ↦
            let same : marks t.image ≡ marks s.image = program_marks s t row page left (subst (λ c. Steps s (Program row page c left) t) fails step) (unsound s t row page left passed accounts next step due numbered fits) in
            inr (empty_same s.geometry.pages s.image t.image block (λ key. ap (λ ms. newest ms key) same) none)
      ]
    ]
  ]

module _ (s t : Flash) (block : ℕ) (passed : Bool) (left : List Page) (accounts : List Account) (next : ℕ)
    (step : Steps s (Erase block passed left) t) (due : IsDueErase accounts block) (fits : Fits s.geometry.pages s.image accounts next) (filled : Filled s.geometry.pages s.image accounts) where
  others : (b p : ℕ) → b ≢ block → p < s.geometry.pages → get_or (marks t.image) (row_in s.geometry b p) None ≡ get_or (marks s.image) (row_in s.geometry b p) None
  others b p apart within = mark-same t.image s.image (row_in s.geometry b p) ((erase_loses s t block passed left step).others (row_in s.geometry b p) (λ here. apart (sym (div-mul-add b s.geometry.pages p within) ∙ here)))

  begun : (b : ℕ) → b ≡ block → account_at (accounted s.geometry.pages accounts (Erase block passed left)) b ≡ record { next = 0; barred = not passed }
  begun b is = accounted-same s.geometry.pages accounts (Erase block passed left) b (sym is) (in_range accounts b (subst (λ k. (account_at accounts k).barred ≡ false) (sym is) due.good))

  pub erase_filled : Filled s.geometry.pages t.image (accounted s.geometry.pages accounts (Erase block passed left))
  erase_filled = record {
    sound = λ b p good below within. elim (cases_eq b block) [
      | inl is ↦ (let none : p < 0 = subst (λ (a : Account). p < a.next) (begun b is) below in absurd (omega (arith, none)))
      | inr apart ↦
          let now = accounted-other s.geometry.pages accounts (Erase block passed left) b (λ same. apart (sym same)) in
          subst IsSome (sym (others b p apart within)) (filled.sound b p (sym (ap (λ (a : Account). a.barred) now) ∙ good) (subst (λ (a : Account). p < a.next) now below) within)
    ];
  }

  -- where it passed
  pub erase_behind : (mark b : ℕ) → passed ≡ true → IsMarkedBehind s.geometry s.image mark b → IsMarkedBehind s.geometry t.image mark b
  erase_behind mark b passes behind = elim (cases_eq b block) [
    | inl is ↦ in_order s.geometry t.image (accounted s.geometry.pages accounts (Erase block passed left)) next mark b (erase_fits s t block passed left accounts next step due fits) erase_filled
        (ap (λ (a : Account). a.barred) (begun b is) ∙ ap not passes)
    | inr apart ↦ behind_same s.geometry s.image t.image mark b (λ k within. others b k apart within) behind
  ]
