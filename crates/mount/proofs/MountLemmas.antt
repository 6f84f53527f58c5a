-- From what the pages show to the certificate.
use Rattle.std.proofs.Common.{◌≡◌, ◌↔◌, ℕ, ◌+◌, ◌≤◌, All, List, length, map, Some, refl, sym, ap, subst, ◌∙◌, arith, get_or}
use Rattle.std.specs.Prelude.{IsPermutation}
use Rattle.page_layout.specs.declared.geometry.Geometry.{Geometry}
use Rattle.image_check.specs.Newest.{place_in, no_newest}
use Rattle.page_layout.specs.Geometry.{row_count, translation_pages, table_pages}
use Rattle.page_layout.specs.Page.{Image}
use Rattle.page_layout.specs.Word.{row_of_word}
use Rattle.certificate.specs.declared.block_state.BlockState.{BlockState}
use Rattle.certificate.specs.Claim.{Claim, sizes_of, claim_from}
use Rattle.certificate.specs.Parts.{FitTogether}
use Rattle.certificate.specs.Spelling.{FitsBlock, IsRowOf}
use Rattle.image_check.specs.declared.survey.Survey.{Survey}
use Rattle.image_check.specs.Agrees.{EachState, HasTables}
use Rattle.image_check.specs.Blocks.{block_state, AreStates}
use Rattle.image_check.specs.Refused.{Numbers, Sequences, Tables, HoldBetween}
use Rattle.image_check.specs.Stale.{stale_sectors, stale_count}
use Rattle.image_check.specs.Surveyed.{IsSized, Surveys, SurveysPairs}
use Rattle.image_check.proofs.PartLemmas.{sectors_hold, directory_holds}
use Rattle.mount.specs.declared.mount_pages.Shown.{Shown}
use Rattle.mount.specs.Mounted.{IsMounted}
use Rattle.mount.specs.Shown.{IsShownSized, IsShown, HasWords}
use Rattle.mount.proofs.RefuseLemmas.{no_claim}
use Rattle.mount.proofs.WordLemmas.{row_told, words_fit}

-- ---- from the survey

-- it is sized for its own geometry
pub own_sized : (g : Geometry) (s : Survey) → IsSized g (row_count g) s → IsSized s.geometry (row_count s.geometry) s
own_sized g s h = subst (λ k. IsSized k (row_count k) s) (sym h.geometry_is) h

-- what is shown is as large as the survey was
pub shown_sized : (g : Geometry) (old new : Survey) (shown : Shown) → IsSized g (row_count g) old → new ≡ record old { pairs = new.pairs } → shown.newest.items ≡ new.newest.items
    → length shown.blocks.items ≡ old.geometry.blocks → All FitsBlock shown.blocks.items → IsShownSized g shown
shown_sized g old new shown h others newest size fits =
    let kept : shown.newest.items ≡ old.newest.items = newest ∙ ap (λ (s : Survey). s.newest.items) others in
    record {
      newest = ap length kept ∙ h.newest;
      within = subst (λ xs. All (λ x. IsRowOf (row_count g) (place_in x)) xs) (sym kept) h.within;
      blocks = size ∙ ap (λ (k : Geometry). k.blocks) h.geometry_is;
      fits = fits;
    }

pub orderly_at : (g k : Geometry) (image : Image) (s : Survey) → k ≡ g → Surveys g image s → ((capacity : ℕ) (image : Image) (claim : Claim) → Surveys k image s → HoldBetween k capacity image claim 1 4) → (capacity : ℕ) (claim : Claim) → HoldBetween g capacity image claim 1 4
orderly_at g k image s e surveys h capacity claim =
    (subst (λ x. (capacity : ℕ) (image : Image) (claim : Claim) → Surveys x image s → HoldBetween x capacity image claim 1 4) e h) capacity image claim surveys

pub states_at : (g k : Geometry) (image : Image) (s : Survey) (states : List BlockState) → k ≡ g → Surveys g image s → ((image : Image) → Surveys k image s → AreStates k image states) → AreStates g image states
states_at g k image s states e surveys h = (subst (λ x. (image : Image) → Surveys x image s → AreStates x image states) e h) image surveys

pub pairs_after : (g : Geometry) (image : Image) (s new : Survey) (given : List (ℕ × ℕ)) → Surveys g image s → IsPermutation s.pairs.items new.pairs.items → given ≡ new.pairs.items → SurveysPairs g image given
pairs_after g image s new given surveys moved same =
    subst (λ ps. SurveysPairs g image ps) (sym same) (record { whole = surveys.whole; moved = subst (λ ps. IsPermutation ps new.pairs.items) surveys.survey.pairs moved })

pub tables_of : (g : Geometry) (image : Image) → ((capacity : ℕ) (claim : Claim) → HoldBetween g capacity image claim 1 4) → HasTables g image
tables_of g image h = (h 0 (no_claim g)).part Tables (omega arith) (omega arith)

-- ---- the certificate

pub parts_fit : (g : Geometry) (capacity : ℕ) (shown : Shown) (directory sectors : List ℕ) → 1 ≤ capacity → capacity ≤ 65536 → IsShownSized g shown
    → HasWords shown.newest.items 0 g.sectors sectors → HasWords shown.newest.items g.sectors (translation_pages g + table_pages g) directory
    → FitTogether g capacity shown.blocks.items directory sectors
parts_fit g capacity shown directory sectors least most h s d =
    let keys = h.newest in
    record {
      capacity_least = least;
      capacity_most = most;
      states = h.fits;
      directory_words = words_fit g shown.newest.items g.sectors (translation_pages g + table_pages g) directory d h.within (omega arith);
      sector_words = words_fit g shown.newest.items 0 g.sectors sectors s h.within (omega arith);
      blocks_length = h.blocks;
      directory_length = d.size;
      sectors_length = s.size;
    }

from_zero : (n : ℕ) → 0 + n ≡ n
from_zero n = omega arith

same_fact : {P : Type 0} → P ↔ P
same_fact = (λ x. x, λ x. x)

each : (g : Geometry) (image : Image) (states : List BlockState) (P : ℕ → BlockState → Type 0) → AreStates g image states → ((b : ℕ) → P b (block_state g image b)) → EachState g.blocks states P
each g image states P h p = record { state = λ b l. (block_state g image b, h.state b l, p b) }

pub mounted : (g : Geometry) (capacity : ℕ) (image : Image) (shown : Shown) (directory sectors stale : List ℕ) → IsShownSized g shown
    → IsShown g image shown → HasWords shown.newest.items 0 g.sectors sectors
    → HasWords shown.newest.items g.sectors (translation_pages g + table_pages g) directory → stale ≡ stale_sectors g image
    → length stale ≤ capacity
    → IsMounted g capacity image (claim_from (sizes_of g) capacity shown.next shown.blocks.items directory sectors)
mounted g capacity image shown directory sectors stale sized h s d is few =
    let c : Claim = claim_from (sizes_of g) capacity shown.next shown.blocks.items directory sectors in
    let parts = h.orderly capacity c in
    let size = sized.newest in
    let items = shown.newest.items in
    let count : stale_count g image ≡ length stale = ap length (sym is) in
    record {
      agrees = record {
        asked = record { geometry = refl; capacity_same = refl };
        numbers = parts.part Numbers (omega arith) (omega arith);
        sequences = parts.part Sequences (omega arith) (omega arith);
        tables = parts.part Tables (omega arith) (omega arith);
        directory = directory_holds g image items (map row_of_word directory) h.keys.whole h.keys.noted (λ i l. row_told g items g.sectors (translation_pages g + table_pages g) directory i d sized.within (omega arith) l);
        sectors = sectors_hold g image items (map row_of_word sectors) h.keys.whole h.keys.noted (λ n l. row_told g items 0 g.sectors sectors n s sized.within (omega arith) l ∙ ap (λ k. Some (place_in (get_or items k no_newest))) (from_zero n));
        bad_set = each g image shown.blocks.items _ h.states (λ b. (same_fact, same_fact));
        states = each g image shown.blocks.items _ h.states (λ b. (refl, refl));
        live = each g image shown.blocks.items _ h.states (λ b. refl);
        wear = each g image shown.blocks.items _ h.states (λ b. refl);
        next = h.next.above;
        fresh = omega arith;
      };
      next = h.next;
    }
