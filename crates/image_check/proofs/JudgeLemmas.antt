-- What the judges are told of a survey whose pairs are sorted.
use Rattle.std.proofs.Common.{◌≡◌, ℕ, zero, suc, ◌-◌, ◌^◌, ◌<◌, ◌≤◌, List, [], Bool, length, get_or, refl, sym, ap, subst, ◌∙◌, inl, inr, arith}
use Rattle.std.specs.Prelude.{IsPermutation}
use Rattle.page_layout.specs.declared.geometry.Geometry.{Geometry}
use Rattle.image_check.specs.declared.newest.Newest.{Newest}
use Rattle.page_layout.specs.Geometry.{key_count, row_count}
use Rattle.page_layout.specs.Page.{Image, IsImage}
use Rattle.page_layout.specs.Array.{marks}
use Rattle.page_layout.specs.OneArray.{AreDistinct}
use Rattle.bad_blocks.specs.declared.table.TableRow.{TableRow}
use Rattle.certificate.specs.declared.block_state.BlockState.{BlockState}
use Rattle.certificate.specs.Claim.{Claim, sizes_of}
use Rattle.image_check.specs.declared.refusal.Refusal.{Refusal}
use Rattle.image_check.specs.declared.look.BlockLook.{BlockLook}
use Rattle.image_check.specs.declared.survey.Survey.{Survey}
use Rattle.image_check.specs.Agrees.{IsAsked, AreInRange}
use Rattle.image_check.specs.Blocks.{AreStates, IsTableOf}
use Rattle.image_check.specs.Survey.{HasLooks, HasPassed, AreLiveCounts}
use Rattle.image_check.specs.Surveyed.{IsSized, IsSurvey, Surveys, SurveysKeys, SurveysPairs}
use Rattle.image_check.specs.Stale.{stale_sectors, stale_count}
use Rattle.image_check.specs.Rising.{IsRisingBelow}
use Rattle.image_check.specs.Accepted.{Acceptance, IsAcceptance}
use Rattle.std.proofs.lemmas.Bool.{cases_lt}
use Rattle.page_layout.specs.Flash.{Flash}
use Rattle.image_check.specs.Refused.{Asked, Numbers, Sequences, Fresh, HoldBetween, FailsFrom, IsFirstWrong}
use Rattle.image_check.specs.declared.refusal.Refusal.TheVariants as refusals
use Rattle.image_check.proofs.ChainLemmas.{hold_none, hold_one, hold_join, hold_more, fails_here, fails_later, fails_first, agrees_of}

-- the survey with its pairs in another order
pub record IsSorted (g : Geometry) (image : Image) (s : Survey) : Type 0 where
  pub geometry_is : s.geometry ≡ g
  pub keys : SurveysKeys g image s.newest.items
  pub looks : HasLooks g image (row_count g) s.looks.items
  pub pairs : SurveysPairs g image s.pairs.items

pub sorted_of : (image : Image) (old new : Survey) → Surveys old.geometry image old → new ≡ record old { pairs = new.pairs } → IsPermutation old.pairs.items new.pairs.items → IsSorted old.geometry image new
sorted_of image old new h others moved = record {
  geometry_is = ap (λ (s : Survey). s.geometry) others;
  keys = subst (λ xs. SurveysKeys old.geometry image xs) (sym (ap (λ (s : Survey). s.newest.items) others)) (record { whole = h.whole; noted = h.survey.newest });
  looks = subst (λ xs. HasLooks old.geometry image (row_count old.geometry) xs) (sym (ap (λ (s : Survey). s.looks.items) others)) h.survey.looks;
  pairs = record { whole = h.whole; moved = subst (λ ps. IsPermutation ps new.pairs.items) h.survey.pairs moved };
}

pub rows_hold : (g k : Geometry) (capacity : ℕ) (image : Image) (items : List Newest) (c : Claim) (passed : List Bool) → k ≡ g → SurveysKeys g image items → HasPassed (marks image) (row_count g) c.sectors passed
    → ((capacity : ℕ) (image : Image) → SurveysKeys k image items → HasPassed (marks image) (row_count k) c.sectors passed → HoldBetween k capacity image c 4 6) → HoldBetween g capacity image c 4 6
rows_hold g k capacity image items c passed e keys passes h =
    (subst (λ x. (capacity : ℕ) (image : Image) → SurveysKeys x image items → HasPassed (marks image) (row_count x) c.sectors passed → HoldBetween x capacity image c 4 6) e h) capacity image keys passes

pub rows_fail : (g k : Geometry) (capacity : ℕ) (image : Image) (items : List Newest) (c : Claim) (passed : List Bool) (r : Refusal) → k ≡ g → SurveysKeys g image items → HasPassed (marks image) (row_count g) c.sectors passed → AreDistinct (marks image)
    → ((capacity : ℕ) (image : Image) → SurveysKeys k image items → HasPassed (marks image) (row_count k) c.sectors passed → AreDistinct (marks image) → FailsFrom k capacity image c 4 r) → FailsFrom g capacity image c 4 r
rows_fail g k capacity image items c passed r e keys passes distinct h =
    (subst (λ x. (capacity : ℕ) (image : Image) → SurveysKeys x image items → HasPassed (marks image) (row_count x) c.sectors passed → AreDistinct (marks image) → FailsFrom x capacity image c 4 r) e h) capacity image keys passes distinct

-- the states that were made are those of the blocks
pub states_known : (g k : Geometry) (image : Image) (s : Survey) (newest : List Newest) (looks : List BlockLook) (counts given : List ℕ)
    (rows : List TableRow) (states : List BlockState) → k ≡ g → IsSorted g image s → AreInRange g (marks image) → IsTableOf g image rows
    → newest ≡ s.newest.items → looks ≡ s.looks.items → given ≡ counts
    → ((image : Image) → SurveysKeys k image newest → AreLiveCounts k image counts)
    → ((g : Geometry) (image : Image) → AreInRange g (marks image) → HasLooks g image (row_count g) looks → IsTableOf g image rows → AreLiveCounts g image given → AreStates g image states) → AreStates g image states
states_known g k image s newest looks counts given rows states e sorted numbers table same_newest same_looks same_counts live make =
    let keys : SurveysKeys k image newest = subst (λ x. SurveysKeys x image newest) (sym e) (subst (λ xs. SurveysKeys g image xs) (sym same_newest) sorted.keys) in
    let lives : AreLiveCounts g image given = subst (λ x. AreLiveCounts x image given) e (subst (λ xs. AreLiveCounts k image xs) (sym same_counts) (live image keys)) in
    make g image numbers (subst (λ xs. HasLooks g image (row_count g) xs) (sym same_looks) sorted.looks) table lives

pub states_given : (g : Geometry) (image : Image) (states given : List BlockState) → given ≡ states → AreStates g image states → AreStates g image given
states_given g image states given e h = subst (λ xs. AreStates g image xs) (sym e) h

pub pairs_given : (g : Geometry) (image : Image) (pairs given : List (ℕ × ℕ)) → given ≡ pairs → SurveysPairs g image pairs → SurveysPairs g image given
pairs_given g image pairs given e h = subst (λ xs. SurveysPairs g image xs) (sym e) h

pub numbers_of : (g : Geometry) (capacity : ℕ) (image : Image) (c : Claim) → HoldBetween g capacity image c 1 4 → AreInRange g (marks image)
numbers_of g capacity image c h = h.part Numbers (omega arith) (omega arith)

pub distinct_of : (g : Geometry) (capacity : ℕ) (image : Image) (c : Claim) → HoldBetween g capacity image c 1 4 → AreDistinct (marks image)
distinct_of g capacity image c h = h.part Sequences (omega arith) (omega arith)

-- ---- the sizes of a survey whose pairs were sorted

pub record IsStillSized (old new : Survey) : Type 0 where
  pub geometry_is : new.geometry ≡ old.geometry
  pub newest : length new.newest.items ≡ key_count new.geometry
  pub looks : length new.looks.items ≡ old.geometry.blocks

pub still_sized : (old new : Survey) (rows : ℕ) → new ≡ record old { pairs = new.pairs } → IsSized old.geometry rows old → IsStillSized old new
still_sized old new rows others h = subst (λ s. IsStillSized old s) (sym others) (record { geometry_is = refl; newest = h.newest; looks = h.looks })

pub blocks_few : (g : Geometry) (n : ℕ) → n ≡ g.blocks → n < 2 ^ 32
blocks_few g n is = (let most = g.limits.block_count.most in omega arith)

-- ---- part after part, by a survey whose pairs were sorted since

pub rows_held : (capacity : ℕ) (image : Image) (old new : Survey) (c : Claim) (passed : List Bool) → Surveys old.geometry image old → new ≡ record old { pairs = new.pairs } → IsPermutation old.pairs.items new.pairs.items
    → HasPassed (marks image) (row_count old.geometry) c.sectors passed → HoldBetween old.geometry capacity image c 1 4
    → ((capacity : ℕ) (image : Image) → SurveysKeys new.geometry image new.newest.items → HasPassed (marks image) (row_count new.geometry) c.sectors passed → HoldBetween new.geometry capacity image c 4 6) → HoldBetween old.geometry capacity image c 1 6
rows_held capacity image old new c passed h others moved passes first ok =
    let sorted : IsSorted old.geometry image new = sorted_of image old new h others moved in
    hold_join old.geometry capacity image c 1 4 6 first (rows_hold old.geometry new.geometry capacity image new.newest.items c passed sorted.geometry_is sorted.keys passes ok)

pub rows_refused : (capacity : ℕ) (image : Image) (old new : Survey) (c : Claim) (passed : List Bool) (r : Refusal) → Surveys old.geometry image old → new ≡ record old { pairs = new.pairs } → IsPermutation old.pairs.items new.pairs.items
    → HasPassed (marks image) (row_count old.geometry) c.sectors passed → HoldBetween old.geometry capacity image c 1 4
    → ((capacity : ℕ) (image : Image) → SurveysKeys new.geometry image new.newest.items → HasPassed (marks image) (row_count new.geometry) c.sectors passed → AreDistinct (marks image) → FailsFrom new.geometry capacity image c 4 r) → FailsFrom old.geometry capacity image c 1 r
rows_refused capacity image old new c passed r h others moved passes first err =
    let sorted : IsSorted old.geometry image new = sorted_of image old new h others moved in
    fails_later old.geometry capacity image c 1 4 r first (rows_fail old.geometry new.geometry capacity image new.newest.items c passed r sorted.geometry_is sorted.keys passes (distinct_of old.geometry capacity image c first) err)

pub blocks_held : (g : Geometry) (capacity : ℕ) (image : Image) (c : Claim) (states given : List BlockState) → HoldBetween g capacity image c 1 6 → given ≡ states → AreStates g image states
    → ((g : Geometry) (capacity : ℕ) (image : Image) → AreStates g image given → HoldBetween g capacity image c 6 10) → HoldBetween g capacity image c 1 10
blocks_held g capacity image c states given rows same are ok = hold_join g capacity image c 1 6 10 rows (ok g capacity image (states_given g image states given same are))

pub blocks_refused : (g : Geometry) (capacity : ℕ) (image : Image) (c : Claim) (states given : List BlockState) (r : Refusal) → HoldBetween g capacity image c 1 6 → given ≡ states → AreStates g image states
    → ((g : Geometry) (capacity : ℕ) (image : Image) → AreStates g image given → FailsFrom g capacity image c 6 r) → FailsFrom g capacity image c 1 r
blocks_refused g capacity image c states given r rows same are err = fails_later g capacity image c 1 6 r rows (err g capacity image (states_given g image states given same are))

pub pairs_sorted : (image : Image) (old new : Survey) (given : List (ℕ × ℕ)) → Surveys old.geometry image old → new ≡ record old { pairs = new.pairs } → IsPermutation old.pairs.items new.pairs.items → given ≡ new.pairs.items → SurveysPairs old.geometry image given
pairs_sorted image old new given h others moved same =
    let sorted : IsSorted old.geometry image new = sorted_of image old new h others moved in
    pairs_given old.geometry image new.pairs.items given same sorted.pairs

-- the pairs were put in another order where they are kept
pub pairs_moved : (items given moved kept : List (ℕ × ℕ)) → given ≡ items → kept ≡ moved → IsPermutation given moved → IsPermutation items kept
pairs_moved items given moved kept same is h = subst (λ ps. IsPermutation ps kept) same (subst (λ ps. IsPermutation given ps) (sym is) h)

-- a certificate that says nothing
abbrev no_claim : Geometry → Claim
no_claim g = record { sizes = sizes_of g; capacity = 0; next = 0; blocks = []; directory = []; sectors = [] }

-- what holds whatever a certificate says
pub numbers_any : (g : Geometry) (image : Image) → ((claim : Claim) → HoldBetween g 0 image claim 1 4) → AreInRange g (marks image)
numbers_any g image h = numbers_of g 0 image (no_claim g) (h (no_claim g))

-- ---- from the pass to the judges

pub surveys_of : (g : Geometry) (first now : Flash) (s : Survey) → now ≡ first → IsImage g now.image → IsSurvey g first.image (row_count g) s → Surveys g first.image s
surveys_of g first now s same whole h = record { whole = sym (ap (λ (f : Flash). length f.image) same) ∙ whole.rows; survey = h }

pub keys_after : (g : Geometry) (image : Image) (s new : Survey) (given : List Newest) → Surveys g image s → new ≡ record s { pairs = new.pairs } → given ≡ new.newest.items → SurveysKeys g image given
keys_after g image s new given h others same =
    subst (λ xs. SurveysKeys g image xs) (sym (same ∙ ap (λ (x : Survey). x.newest.items) others)) (record { whole = h.whole; noted = h.survey.newest })

-- ---- the first part and the last

pub not_asked : (g : Geometry) (capacity : ℕ) (image : Image) (c : Claim) → (IsAsked g capacity c → ⊥) → IsFirstWrong g capacity image c refusals.GeometryDiffers
not_asked g capacity image c ne = fails_first g capacity image c refusals.GeometryDiffers (fails_here g capacity image c Asked 0 refusals.GeometryDiffers (hold_none g capacity image c 0) (record { part_is = refl; fails = ne; says = tt }))

all_but_last : (g : Geometry) (capacity : ℕ) (image : Image) (c : Claim) → IsAsked g capacity c → HoldBetween g capacity image c 1 11 → HoldBetween g capacity image c 0 11
all_but_last g capacity image c asked h = hold_join g capacity image c 0 1 11 (hold_one g capacity image c Asked 0 1 refl refl asked) h

pub too_stale : (g : Geometry) (capacity : ℕ) (image : Image) (c : Claim) (stale : List ℕ) (n : ℕ) → IsAsked g capacity c
    → HoldBetween g capacity image c 1 11 → stale ≡ stale_sectors g image → n ≡ length stale → capacity < n
    → IsFirstWrong g capacity image c (refusals.TooStale n capacity)
too_stale g capacity image c stale n asked h is size over =
    let count : n ≡ stale_count g image = size ∙ ap length is in
    fails_first g capacity image c (refusals.TooStale n capacity) (fails_here g capacity image c Fresh 0 (refusals.TooStale n capacity) (all_but_last g capacity image c asked h)
    (record { part_is = refl; fails = λ (few : stale_count g image ≤ capacity). absurd (omega arith); says = (count, refl) }))

pub accepted_is : (g : Geometry) (capacity : ℕ) (image : Image) (c : Claim) (stale : List ℕ) (a : Acceptance) → IsAsked g capacity c
    → HoldBetween g capacity image c 1 11 → stale ≡ stale_sectors g image → length stale ≤ capacity → a.claim ≡ c → a.stale ≡ stale
    → IsAcceptance g capacity image c a
accepted_is g capacity image c stale a asked h is few claim_is stale_is =
    let count : stale_count g image ≡ length stale = ap length (sym is) in
    record {
      claim_is = claim_is;
      agrees = agrees_of g capacity image c (hold_more g capacity image c Fresh 0 11 12 refl refl (all_but_last g capacity image c asked h) (omega arith));
      stale_is = stale_is ∙ is;
    }

-- a rising list below n has at most n numbers
at_least : (n : ℕ) (xs : List ℕ) (i : ℕ) → IsRisingBelow n xs → i < length xs → i ≤ get_or xs i 0
at_least n xs zero h l = omega arith
at_least n xs (suc i) h l = let before = at_least n xs i h (omega arith) in let up = h.rising i (suc i) (omega arith) l in omega arith

pub rising_length : (n : ℕ) (xs : List ℕ) → IsRisingBelow n xs → length xs ≤ n
rising_length n xs h = elim (cases_lt 0 (length xs)) [
  | inl some ↦ let low = at_least n xs (length xs - 1) h (omega arith) in let high = h.below (length xs - 1) (omega arith) in omega arith
  | inr none ↦ omega arith
]

pub stale_after : (g : Geometry) (first now : Flash) (newest : List Newest) (stale : List ℕ) → now ≡ first → SurveysKeys g first.image newest → (SurveysKeys g now.image newest → stale ≡ stale_sectors g now.image) → stale ≡ stale_sectors g first.image
stale_after g first now newest stale same keys h = (subst (λ (f : Flash). SurveysKeys g f.image newest → stale ≡ stale_sectors g f.image) same h) keys
