-- Operation by operation: the next page of each block that takes one has no record, and each page that is programmed is the newest of its key.
use Rattle.std.proofs.Common.{◌≡◌, ◌≢◌, ◌⊎◌, inl, inr, ℕ, ◌+◌, ◌*◌, ◌/◌, ◌%◌, ◌<◌, ◌≤◌, Bool, true, false, not, List, length, set, Option, Some, None, refl, sym, ap, subst, ◌∙◌, arith}
use Rattle.std.specs.Prelude.{slice_get, IsSomeAnd}
use Rattle.std.proofs.lemmas.Bool.{cases_Bool, cases_eq}
use Rattle.std.proofs.lemmas.Nat.{div-add-mod', div-mul-add}
use Rattle.std.proofs.lemmas.Option.{slice_get-get_or}
use Rattle.page_layout.specs.declared.record.Record.{Record}
use Rattle.page_layout.specs.Page.{Page, Image}
use Rattle.page_layout.specs.Sound.{record_of}
use Rattle.page_layout.specs.Key.{key_of}
use Rattle.page_layout.specs.Newest.{newest}
use Rattle.page_layout.specs.OneArray.{AreBelow}
use Rattle.page_layout.specs.Array.{marks}
use Rattle.page_layout.specs.Change.{IsUnsoundAt}
use Rattle.page_layout.specs.Flash.{Flash, Program, Erase, Steps, page_at, no_page}
use Rattle.page_layout.proofs.ArrayLemmas.{IsNewer, mark-page, mark-same, newest_written, unsound_at}
use Rattle.page_layout.proofs.NewestLemmas.{sequence_at-is}
use Rattle.page_layout.proofs.StepLemmas.{erased_unsound}
use Rattle.page_layout.proofs.FlashLemmas.{erase_below, erase_erases, erase_loses, image-program, program_next, program_other}
use Rattle.promises.specs.Legal.{Account, account_at, accounted, account_after, IsDueErase, IsDueProgram}
use Rattle.promises.proofs.AccountLemmas.{accounted-other, accounted-same}
use Rattle.promises.proofs.LegalLemmas.{in_range}

-- an image by the accounts of its blocks: no record has this sequence or a later one, and of a block that is not barred no page from its next one on has a record
pub record Fits (pages : ℕ) (image : Image) (accounts : List Account) (next : ℕ) : Type 0 where
  pub below : AreBelow (marks image) next
  pub free : (b p : ℕ) → (account_at accounts b).barred ≡ false → (account_at accounts b).next ≤ p → p < pages → IsUnsoundAt image (b * pages + p)

some_and : {A : Type 0} {P : A → Type 0} (o : Option A) → IsSomeAnd o P → (x : A) × (o ≡ Some x) × P x
some_and None h = absurd h
some_and (Some x) h = (x, refl, h)

unsound_as : (a b : Image) (row : ℕ) → slice_get a row ≡ slice_get b row → IsUnsoundAt b row → IsUnsoundAt a row
unsound_as a b row same none = mark-same a b row same ∙ none

-- WHAT A PROGRAM LEFT has no record, or one whose page is the newest of its key
abbrev pub IsLeftNewest : Image → ℕ → Page → Type 0
IsLeftNewest image row left = (record_of left ≡ None) ⊎ ((r : Record) × (record_of left ≡ Some r) × (newest (marks image) (key_of r) ≡ Some row))

module _ (s t : Flash) (row : ℕ) (page left : Page) (passed : Bool) (accounts : List Account) (next : ℕ)
    (step : Steps s (Program row page passed left) t) (due : IsDueProgram s.geometry.pages accounts row)
    (numbered : IsSomeAnd (record_of page) (λ (r : Record). r.sequence ≡ next)) (fits : Fits s.geometry.pages s.image accounts next) where
  some : 0 < s.geometry.pages
  some = omega (arith, s.geometry.limits.page_count.least)

  pub unsound : IsUnsoundAt s.image row
  unsound = subst (IsUnsoundAt s.image) (div-add-mod' row s.geometry.pages) (fits.free (row / s.geometry.pages) (row % s.geometry.pages) due.good (omega (arith, due.next)) (omega (arith, some)))

  pub its : (r : Record) × (record_of page ≡ Some r) × (r.sequence ≡ next)
  its = some_and (record_of page) numbered

  below_its : AreBelow (marks s.image) its.0.sequence
  below_its = subst (AreBelow (marks s.image)) (sym its.2) fits.below

  pub newest_now : passed ≡ true → newest (marks t.image) (key_of its.0) ≡ Some row
  newest_now e =
      let newer : IsNewer s.image its.0 = record {
        above = λ q n at.
            let found = sequence_at-is (marks s.image) (key_of its.0) q n at in
            omega (arith, below_its.below q found.its found.is, found.sequence_is);
      } in
      let same : t.image ≡ set s.image row page = image-program s t row page passed left step ∙ ap (set s.image row) (step.lawful.kept e) in
      subst (λ i. newest (marks i) (key_of its.0) ≡ Some row) (sym same) (newest_written s.image row page its.0 step.lawful.in_range its.1 newer)

  unsound_left : passed ≡ false → record_of left ≡ None
  unsound_left e = elim (step.lawful.failed e) [
    | inl was ↦
        let here : record_of (page_at s row) ≡ None = sym (mark-page s.image row (page_at s row) (slice_get-get_or s.image row no_page step.lawful.in_range)) ∙ unsound in
        ap record_of was ∙ here
    | inr none ↦ none
  ]

  pub left_newest : IsLeftNewest t.image row left
  left_newest = elim (cases_Bool passed) [
    | inl passes ↦ inr (its.0, ap record_of (step.lawful.kept passes) ∙ its.1, newest_now passes)
    | inr fails ↦ inl (unsound_left fails)
  ]

  -- the accounts after it
  pub after_block : (b : ℕ) → b ≡ row / s.geometry.pages → account_at (accounted s.geometry.pages accounts (Program row page passed left)) b ≡ account_after (account_at accounts b) (Program row page passed left)
  after_block b is =
      accounted-same s.geometry.pages accounts (Program row page passed left) b (sym is) (in_range accounts b (subst (λ k. (account_at accounts k).barred ≡ false) (sym is) due.good))

  free_here : (b p : ℕ) → b ≡ row / s.geometry.pages → passed ≡ true → (account_at accounts b).next + 1 ≤ p → p < s.geometry.pages → IsUnsoundAt t.image (b * s.geometry.pages + p)
  free_here b p is passes from within =
      let next_is : (account_at accounts b).next ≡ row % s.geometry.pages = ap (λ k. (account_at accounts k).next) is ∙ due.next in
      let here : b * s.geometry.pages + row % s.geometry.pages ≡ row = ap (λ k. k * s.geometry.pages + row % s.geometry.pages) is ∙ div-add-mod' row s.geometry.pages in
      let good : (account_at accounts b).barred ≡ false = subst (λ k. (account_at accounts k).barred ≡ false) (sym is) due.good in
      unsound_as t.image s.image (b * s.geometry.pages + p) (program_other s t row (b * s.geometry.pages + p) page left passed step (λ same. omega (arith, next_is, here, from, same)))
      (fits.free b p good (omega (arith, from)) within)

  free_there : (b p : ℕ) → b ≢ row / s.geometry.pages → (account_at accounts b).barred ≡ false → (account_at accounts b).next ≤ p → p < s.geometry.pages → IsUnsoundAt t.image (b * s.geometry.pages + p)
  free_there b p apart good from within =
      unsound_as t.image s.image (b * s.geometry.pages + p)
      (program_other s t row (b * s.geometry.pages + p) page left passed step (λ same. apart (sym (div-mul-add b s.geometry.pages p within) ∙ ap (λ k. k / s.geometry.pages) same)))
      (fits.free b p good from within)

  free_after : (b p : ℕ) → (account_at (accounted s.geometry.pages accounts (Program row page passed left)) b).barred ≡ false
      → (account_at (accounted s.geometry.pages accounts (Program row page passed left)) b).next ≤ p → p < s.geometry.pages → IsUnsoundAt t.image (b * s.geometry.pages + p)
  free_after b p good from within = elim (cases_eq b (row / s.geometry.pages)) [
    | inl is ↦
        let now = after_block b is in
        let passes : not passed ≡ false = sym (ap (λ (a : Account). a.barred) now) ∙ good in
        free_here b p is (passed_by passed passes) (subst (λ (a : Account). a.next ≤ p) now from) within
    | inr apart ↦
        let now = accounted-other s.geometry.pages accounts (Program row page passed left) b (λ same. apart (sym same)) in
        free_there b p apart (sym (ap (λ (a : Account). a.barred) now) ∙ good) (subst (λ (a : Account). a.next ≤ p) now from) within
  ]
    where
      passed_by : (c : Bool) → not c ≡ false → c ≡ true
      passed_by true e = refl
      passed_by false e = (let no : ⊥ = cc in absurd no)

  pub program_fits : Fits s.geometry.pages t.image (accounted s.geometry.pages accounts (Program row page passed left)) (next + 1)
  program_fits = record {
    below = subst (λ n. AreBelow (marks t.image) (n + 1)) its.2 (program_next s t row page left passed its.0 step unsound its.1 below_its);
    free = free_after;
  }

module _ (s t : Flash) (block : ℕ) (passed : Bool) (left : List Page) (accounts : List Account) (next : ℕ)
    (step : Steps s (Erase block passed left) t) (due : IsDueErase accounts block) (fits : Fits s.geometry.pages s.image accounts next) where
  -- the rows of the block are erased
  erased_here : (b p : ℕ) → b ≡ block → passed ≡ true → p < s.geometry.pages → IsUnsoundAt t.image (b * s.geometry.pages + p)
  erased_here b p is passes within =
      let passed_step : Steps s (Erase block true left) t = subst (λ c. Steps s (Erase block c left) t) passes step in
      let erases = erase_erases s.geometry s t block left refl passed_step in
      let row : ℕ = b * s.geometry.pages + p in
      let in_block : row / s.geometry.pages ≡ block = div-mul-add b s.geometry.pages p within ∙ is in
      let fits_in : block * s.geometry.pages + s.geometry.pages ≤ length s.image = step.lawful.in_image in
      let here : row < length s.image = omega (arith, within, fits_in, ap (λ k. k * s.geometry.pages) is) in
      unsound_at t.image row _ (erases.inside row in_block here) (erased_unsound s.geometry)

  as_it_was : (b p : ℕ) → b ≢ block → (account_at accounts b).barred ≡ false → (account_at accounts b).next ≤ p → p < s.geometry.pages → IsUnsoundAt t.image (b * s.geometry.pages + p)
  as_it_was b p apart good from within =
      unsound_as t.image s.image (b * s.geometry.pages + p) ((erase_loses s t block passed left step).others (b * s.geometry.pages + p) (λ in_block. apart (sym (div-mul-add b s.geometry.pages p within) ∙ in_block)))
      (fits.free b p good from within)

  pub erase_fits : Fits s.geometry.pages t.image (accounted s.geometry.pages accounts (Erase block passed left)) next
  erase_fits = record {
    below = erase_below s t block next passed left step fits.below;
    free = λ b p good from within. elim (cases_eq b block) [
      | inl is ↦
          let now = accounted-same s.geometry.pages accounts (Erase block passed left) b (sym is) (in_range accounts b (subst (λ k. (account_at accounts k).barred ≡ false) (sym is) due.good)) in
          erased_here b p is (passed_so passed (sym (ap (λ (a : Account). a.barred) now) ∙ good)) within
      | inr apart ↦
          let now = accounted-other s.geometry.pages accounts (Erase block passed left) b (λ same. apart (sym same)) in
          as_it_was b p apart (sym (ap (λ (a : Account). a.barred) now) ∙ good) (subst (λ (a : Account). a.next ≤ p) now from) within
    ];
  }
    where
      passed_so : (c : Bool) → not c ≡ false → c ≡ true
      passed_so true e = refl
      passed_so false e = (let no : ⊥ = cc in absurd no)
