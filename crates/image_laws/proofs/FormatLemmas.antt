-- What a format did, and what it did not.
use Rattle.std.proofs.Common.{subst, ◌∙◌, ◌≡◌, ℕ, ◌+◌, ◌⊎◌, Bool, true, false, List, [], ◌∷◌, inl, inr, refl, arith, ap, slice_get, Some}
use Rattle.page_layout.specs.Page.{Page, Image}
use Rattle.page_layout.specs.Sound.{record_of, version_of}
use Rattle.page_layout.specs.Flash.{Operation, Program, Erase}
use Rattle.page_layout.proofs.CountLemmas.{count_by-cons}
use Rattle.promises.specs.Log.{failed_in}
use Rattle.promises.specs.Legal.{IsLegal}
use Rattle.promises.proofs.LegalLemmas.{no_bad_block}
use Rattle.bad_blocks.specs.Marks.{is_marked}
use Rattle.std.specs.Prelude.{◌||◌}
use Rattle.mount.specs.Log.{has_failed, failures}
use Rattle.image_laws.specs.Formats.{RefusedFormatLaw, LostBlocksLaw, EnoughLaw, AloneLaw, NoFailureLaw, TablePageLaw, LowSequenceLaw}
use Rattle.image_laws.proofs.KeptLemmas.{lowest_table}

pub untouched : RefusedFormatLaw
untouched g needed old new before after row = (
  λ h. (elim h [ inl same ↦ same | inr used ↦ used.untouched ]),
  λ h. (elim h [ inl same ↦ same | inr used ↦ used.1 ]),
  λ used. used.0,
)

pub lost : LostBlocksLaw
lost g needed old new before after good asked = (
  λ h. (elim h [
    | inl f ↦ let few = f.at_most in let fewer = f.fewer in omega arith
    | inr f ↦ let few = f.at_most in let fewer = f.fewer in omega arith
  ]),
  λ f. (f.three, f.fewer),
  λ more. more,
)

pub enough : EnoughLaw
enough g needed old new before after good asked = (
  λ h. (elim h [ inl f ↦ f.enough | inr a ↦ a.0 ]),
  λ h. (elim h [
    | inl f ↦ let few = f.few in let is = f.asked_is in (omega arith, is)
    | inr a ↦ let few = a.0 in let is = a.1 in (omega arith, is)
  ]),
  λ a. a.1,
)

neither : (a b : Bool) → (a || b) ≡ false → a ≡ false
neither true b is = is
neither false b is = refl

pub alone : AloneLaw
alone g old new log did = (
  did.erases,
  λ before after op is. neither _ _ (no_bad_block g old.image (is_marked g old.image) before after op (subst (IsLegal g old.image (is_marked g old.image)) is did.legal)),
)

-- a log of no failure fails in no block
none_failed : (pages : ℕ) (log : List Operation) (block : ℕ) → failures log ≡ 0 → failed_in pages log block ≡ false
none_failed pages [] block none = refl
none_failed pages (Program row p true left ∷ log) block none =
    none_failed pages log block (let one : failures (Program row p true left ∷ log) ≡ 0 + failures log = count_by-cons has_failed (Program row p true left) log in omega (arith, none, one))
none_failed pages (Program row p false left ∷ log) block none = absurd (let one : failures (Program row p false left ∷ log) ≡ 1 + failures log = count_by-cons has_failed (Program row p false left) log in omega (arith, none, one))
none_failed pages (Erase b true left ∷ log) block none =
    none_failed pages log block (let one : failures (Erase b true left ∷ log) ≡ 0 + failures log = count_by-cons has_failed (Erase b true left) log in omega (arith, none, one))
none_failed pages (Erase b false left ∷ log) block none = absurd (let one : failures (Erase b false left ∷ log) ≡ 1 + failures log = count_by-cons has_failed (Erase b false left) log in omega (arith, none, one))

marked_below : (a b : Bool) → b ≡ false → (a ≡ true) ⊎ (b ≡ true) → a ≡ true
marked_below a b none (inl is) = is
marked_below a b none (inr is) = absurd cc

pub no_failure : NoFailureLaw
no_failure g needed old new good f none = (
  (let fewer = f.fewer in omega arith),
  λ lower below. marked_below _ _ (none_failed g.pages f.log lower none) (lowest_table g old new f.log f.block lower f.table below),
)

same_page : (image : Image) (row : ℕ) (p q : Page) → slice_get image row ≡ Some p → slice_get image row ≡ Some q → p ≡ q
same_page image row p q e f = cc

pub table_page : TablePageLaw
table_page g image row u sequence table p h at =
    let same : p ≡ h.its = same_page image row p h.its at h.at in
    (ap record_of same ∙ h.says, ap version_of same ∙ h.version, ap (λ (q : Page). q.body) same ∙ h.body)

pub low_sequence : LowSequenceLaw
low_sequence g needed old new good row r f here = let below = f.blank.below.below row r here in let few = f.few_programs in omega arith
