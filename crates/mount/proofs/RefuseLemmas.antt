-- What keeps an image from having a certificate.
use Rattle.std.proofs.Common.{Result, Ok, Err, ◌≡◌, ℕ, ◌<◌, ◌⊎◌, inl, inr, List, [], length, Some, None, refl, sym, ap, subst, ◌∙◌, arith}
use Rattle.page_layout.specs.declared.geometry.Geometry.{Geometry}
use Rattle.page_layout.specs.Page.{Image}
use Rattle.page_layout.specs.Array.{marks}
use Rattle.certificate.specs.Claim.{Claim, sizes_of}
use Rattle.image_check.specs.declared.refusal.Refusal.{Refusal}
use Rattle.image_check.specs.declared.refusal.Refusal.TheVariants as refusals
use Rattle.image_check.specs.declared.survey.Survey.{Survey}
use Rattle.image_check.specs.Agrees.{Agrees}
use Rattle.image_check.specs.Mountable.{IsMountable}
use Rattle.image_check.specs.Stale.{stale_sectors, stale_count}
use Rattle.image_check.specs.Surveyed.{Surveys}
use Rattle.image_check.specs.Refused.{Part, Asked, Numbers, Sequences, Tables, Directory, Sectors, BadSet, States, Live, Wear, Next, Fresh, Holds}
use Rattle.image_check.specs.Refused.{RefusalSays, order, part_of, HoldBetween, FailsFrom, IsMemory, StopsCheck, IsOfImage}
use Rattle.mount.specs.Mounted.{ShowsRefusal, IsAfter, IsSpent, Refuses, IsOfMounting}

-- each part of the agreement
pub holds : (g : Geometry) (capacity : ℕ) (image : Image) (c : Claim) (p : Part) → Agrees g capacity image c → Holds g capacity image c p
holds g capacity image c Asked h = h.asked
holds g capacity image c Numbers h = h.numbers
holds g capacity image c Sequences h = h.sequences
holds g capacity image c Tables h = h.tables
holds g capacity image c Directory h = h.directory
holds g capacity image c Sectors h = h.sectors
holds g capacity image c BadSet h = h.bad_set
holds g capacity image c States h = h.states
holds g capacity image c Live h = h.live
holds g capacity image c Wear h = h.wear
holds g capacity image c Next h = h.next
holds g capacity image c Fresh h = h.fresh

-- what a refusal that is of the image says, it says of the image alone
shows : (g : Geometry) (capacity : ℕ) (image : Image) (c : Claim) (r : Refusal) (part : Part) → IsOfImage r → part_of r ≡ Some part → RefusalSays g capacity image c r → ShowsRefusal g capacity image r
shows g capacity image c (refusals.NumberRange row) part kind is said = said
shows g capacity image c (refusals.SequenceRepeated a b) part kind is said = said
shows g capacity image c refusals.NotFormatted part kind is said = said
shows g capacity image c (refusals.TableDamaged u) part kind is said = said
shows g capacity image c refusals.OutOfMemory part kind is said = absurd (let clash : None ≡ Some part = is in cc)
shows g capacity image c refusals.NextSequence part kind is said = absurd kind
shows g capacity image c (refusals.TooStale stale most) part kind is said = absurd kind
shows g capacity image c refusals.GeometryDiffers part kind is said = absurd kind
shows g capacity image c (refusals.DirectoryWrong i) part kind is said = absurd kind
shows g capacity image c (refusals.NoSuchRecord n row) part kind is said = absurd kind
shows g capacity image c (refusals.NotNewest n row) part kind is said = absurd kind
shows g capacity image c (refusals.BadSetWrong b) part kind is said = absurd kind
shows g capacity image c (refusals.BlockState b) part kind is said = absurd kind
shows g capacity image c (refusals.LiveWrong b) part kind is said = absurd kind
shows g capacity image c (refusals.WearWrong b) part kind is said = absurd kind
shows g capacity image c refusals.Source part kind is said = absurd kind
shows g capacity image c refusals.WrongLength part kind is said = absurd kind

-- a certificate that says nothing
abbrev pub no_claim : Geometry → Claim
no_claim g = record { sizes = sizes_of g; capacity = 0; next = 0; blocks = []; directory = []; sectors = [] }

no_part : (r : Refusal) (part : Part) → IsMemory r → part_of r ≡ Some part → ⊥
no_part r part memory is = let clash : None ≡ Some part = sym (ap part_of memory) ∙ is in cc

-- a part that fails whatever a certificate says leaves the image without one
pub refused_of : (g : Geometry) (capacity : ℕ) (image : Image) (r : Refusal) → IsOfImage r → ((claim : Claim) → IsMemory r ⊎ FailsFrom g capacity image claim 1 r) → Refuses g capacity image r
refused_of g capacity image r kind h = by_case (h (no_claim g))
  where
    fails_always : (part : Part) → part_of r ≡ Some part → (m : IsMountable g capacity image) → IsMemory r ⊎ FailsFrom g capacity image m.certificate 1 r → ⊥
    fails_always part is m (inl memory) = no_part r part memory is
    fails_always part is m (inr f) = f.wrong.fails (holds g capacity image m.certificate f.part m.agrees)

    -- a part that comes before the one that the refusal names comes before the first that fails
    later : (f : FailsFrom g capacity image (no_claim g) 1 r) (part : Part) → IsAfter part r → order part < order f.part
    later f part after =
        let same : after.0 ≡ f.part = (let both : Some after.0 ≡ Some f.part = sym after.1 ∙ f.wrong.part_is in cc) in
        subst (λ (p : Part). order part < order p) same after.2

    by_case : IsMemory r ⊎ FailsFrom g capacity image (no_claim g) 1 r → Refuses g capacity image r
    by_case (inl memory) = inl (inr memory)
    by_case (inr f) = inr (record {
      none = λ m. fails_always f.part f.wrong.part_is m (h m.certificate);
      shows = shows g capacity image (no_claim g) r f.part kind f.wrong.part_is f.wrong.says;
      numbers = λ after. f.before Numbers (omega arith) (later f Numbers after);
      sequences = λ after. f.before Sequences (omega arith) (later f Sequences after);
      tables = λ after. f.before Tables (omega arith) (later f Tables after);
    })

-- the same where the geometry goes by another name
pub survey_refused : (g k : Geometry) (capacity : ℕ) (image : Image) (s : Survey) (r : Refusal) → k ≡ g → Surveys g image s → IsOfImage r
    → ((capacity : ℕ) (image : Image) (claim : Claim) → Surveys k image s → IsMemory r ⊎ FailsFrom k capacity image claim 1 r)
    → Refuses g capacity image r
survey_refused g k capacity image s r e surveys kind h =
    refused_of g capacity image r kind (λ claim. (subst (λ x. (capacity : ℕ) (image : Image) (claim : Claim) → Surveys x image s → IsMemory r ⊎ FailsFrom x capacity image claim 1 r) e h) capacity image claim surveys)

pub of_mounting : (r : Refusal) → IsOfImage r → IsOfMounting r
of_mounting (refusals.NumberRange row) kind = tt
of_mounting (refusals.SequenceRepeated a b) kind = tt
of_mounting refusals.NotFormatted kind = tt
of_mounting (refusals.TableDamaged u) kind = tt
of_mounting refusals.OutOfMemory kind = tt
of_mounting refusals.NextSequence kind = tt
of_mounting (refusals.TooStale stale most) kind = tt
of_mounting refusals.Source kind = tt
of_mounting refusals.GeometryDiffers kind = absurd kind
of_mounting (refusals.DirectoryWrong i) kind = absurd kind
of_mounting (refusals.NoSuchRecord n row) kind = absurd kind
of_mounting (refusals.NotNewest n row) kind = absurd kind
of_mounting (refusals.BadSetWrong b) kind = absurd kind
of_mounting (refusals.BlockState b) kind = absurd kind
of_mounting (refusals.LiveWrong b) kind = absurd kind
of_mounting (refusals.WearWrong b) kind = absurd kind
of_mounting refusals.WrongLength kind = absurd kind

pub stop_of_mounting : (r : Refusal) → StopsCheck r → IsOfMounting r
stop_of_mounting r (inl source) = subst IsOfMounting (sym source) tt
stop_of_mounting r (inr memory) = subst IsOfMounting (sym memory) tt

pub spent_refused : (g : Geometry) (capacity : ℕ) (image : Image) (r : Refusal) → r ≡ refusals.NextSequence → IsSpent (marks image) → HoldBetween g capacity image (no_claim g) 1 4 → Refuses g capacity image r
spent_refused g capacity image r is spent right = subst (Refuses g capacity image) (sym is) (inr (record {
  none = λ m. let below = m.agrees.next.below spent.row spent.last spent.here in let small = m.fits.next in let e = spent.is in absurd (omega arith);
  shows = spent;
  numbers = λ after. right.part Numbers (omega arith) (omega arith);
  sequences = λ after. right.part Sequences (omega arith) (omega arith);
  tables = λ after. right.part Tables (omega arith) (omega arith);
}))

pub stale_refused : (g : Geometry) (capacity : ℕ) (image : Image) (stale : List ℕ) (n : ℕ) → stale ≡ stale_sectors g image → n ≡ length stale → capacity < n → HoldBetween g capacity image (no_claim g) 1 4 → Refuses g capacity image (refusals.TooStale n capacity)
stale_refused g capacity image stale n is size over right =
    let count : n ≡ stale_count g image = size ∙ ap length is in
    inr (record {
      none = λ m. let few = m.agrees.fresh in absurd (omega arith);
      shows = (count, refl, over);
      numbers = λ after. right.part Numbers (omega arith) (omega arith);
      sequences = λ after. right.part Sequences (omega arith) (omega arith);
      tables = λ after. right.part Tables (omega arith) (omega arith);
    })

-- ---- what an answer is not

pub given_not : {T : Type 0} (r : Result T Refusal) (x : T) (e : Refusal) → r ≡ Ok x → r ≡ Err e → ⊥
given_not r x e h k = (let never : ⊥ = cc in never)

pub stale_not_source : (count most : ℕ) → refusals.TooStale count most ≡ refusals.Source → ⊥
stale_not_source count most e = (let never : ⊥ = cc in never)

pub next_not_source : refusals.NextSequence ≡ refusals.Source → ⊥
next_not_source e = (let never : ⊥ = cc in never)

pub image_not_source : (r : Refusal) → IsOfImage r → r ≡ refusals.Source → ⊥
image_not_source r kind e = subst IsOfImage e kind
