-- The laws of mounting.
use Rattle.std.proofs.Common.{◌≡◌, ℕ, ◌⊎◌, inl, inr, length, Some, None, refl, sym, ap, ◌∙◌, arith}
use Rattle.page_layout.specs.declared.record.Key.{Key}
use Rattle.page_layout.specs.declared.record.Key.TheVariants.{Table}
use Rattle.page_layout.specs.Newest.{sequence_at}
use Rattle.page_layout.specs.OneArray.{AreDistinct}
use Rattle.page_layout.specs.Array.{marks}
use Rattle.page_layout.proofs.NewestLemmas.{sequence_at-key}
use Rattle.image_check.specs.declared.refusal.Refusal.{Refusal}
use Rattle.image_check.specs.declared.refusal.Refusal.TheVariants as refusals
use Rattle.image_check.specs.Refused.{Tables, Next, Fresh, IsRefusal, StopsCheck, IsUnformatted}
use Rattle.image_check.specs.Survey.{IsFirstOutside}
use Rattle.mount.specs.Mounted.{IsUnmountable, Refuses}
use Rattle.mount.specs.MountLaws.{AcceptedLaw, IsShared, SharedLaw, SoundPageLaw, TableTieLaw}
use Rattle.mount.proofs.RefuseLemmas.{holds}

pub accepted : AcceptedLaw
accepted g capacity image c m = record {
  refused = λ r why. refused r why;
  counted = λ a is. ap length is.stale_is;
}
  where
    refused : (r : Refusal) → IsRefusal g capacity image c r → StopsCheck r
    refused r (inl stop) = stop
    refused r (inr first) = absurd (first.wrong.fails (holds g capacity image c first.part m.agrees))

pub tie : TableTieLaw
tie g capacity image sound why = refuted why
  where
    unformatted : IsUnformatted g image → ⊥
    unformatted h =
        let page = sound h.page h.within in
        let none : sequence_at (marks image) (Table h.page) page.row ≡ None = h.missing page.row in
        let some = sequence_at-key (marks image) page.row page.its page.here in
        let key : sequence_at (marks image) (Table h.page) page.row ≡ Some page.its.sequence = ap (λ (k : Key). sequence_at (marks image) k page.row) (sym page.of_key) ∙ some in
        let clash : None ≡ Some page.its.sequence = sym none ∙ key in
        cc

    refuted : Refuses g capacity image refusals.NotFormatted → ⊥
    refuted (inl (inl source)) = cc
    refuted (inl (inr memory)) = cc
    refuted (inr h) = unformatted h.shows

pub sound_page : SoundPageLaw
sound_page marks row its here = record { row = row; its = its; here = here; of_key = refl }

pub shared : SharedLaw
shared g capacity image a b r in_range repeated why = by_reason why
  where
    apart : AreDistinct (marks image) → ⊥
    apart distinct =
        let same : a ≡ b = distinct.apart a b repeated.first repeated.second repeated.at_first repeated.at_second repeated.same in
        let below = repeated.order in
        absurd (omega arith)

    outside : (row : ℕ) → IsFirstOutside g (marks image) row → ⊥
    outside row h = h.at.outside (in_range.in_range row h.at.found h.at.here)

    by_refusal : (r : Refusal) → IsUnmountable g capacity image r → IsShared r
    by_refusal (refusals.SequenceRepeated x y) u = (x, y, refl)
    by_refusal (refusals.NumberRange row) u = absurd (outside row u.shows)
    by_refusal refusals.NotFormatted u = absurd (apart (u.sequences (Tables, refl, omega arith)))
    by_refusal (refusals.TableDamaged t) u = absurd (apart (u.sequences (Tables, refl, omega arith)))
    by_refusal refusals.NextSequence u = absurd (apart (u.sequences (Next, refl, omega arith)))
    by_refusal (refusals.TooStale stale most) u = absurd (apart (u.sequences (Fresh, refl, omega arith)))
    by_refusal refusals.GeometryDiffers u = absurd u.shows
    by_refusal (refusals.DirectoryWrong i) u = absurd u.shows
    by_refusal (refusals.NoSuchRecord n row) u = absurd u.shows
    by_refusal (refusals.NotNewest n row) u = absurd u.shows
    by_refusal (refusals.BadSetWrong k) u = absurd u.shows
    by_refusal (refusals.BlockState k) u = absurd u.shows
    by_refusal (refusals.LiveWrong k) u = absurd u.shows
    by_refusal (refusals.WearWrong k) u = absurd u.shows
    by_refusal refusals.Source u = absurd u.shows
    by_refusal refusals.OutOfMemory u = absurd u.shows
    by_refusal refusals.WrongLength u = absurd u.shows

    by_reason : Refuses g capacity image r → StopsCheck r ⊎ IsShared r
    by_reason (inl stop) = inl stop
    by_reason (inr u) = inr (by_refusal r u)
