-- What the taking of pages leaves.
use Rattle.std.proofs.Common.{◌≡◌, ◌≢◌, ◌⊎◌, inl, inr, ◌/◌, ℕ, length, get_or, slice_get, Some, None, refl, sym, ap, ◌∙◌}
use Rattle.page_layout.specs.declared.geometry.Geometry.{Geometry}
use Rattle.page_layout.specs.declared.record.Key.{Key}
use Rattle.page_layout.specs.declared.record.Key.TheVariants.{Sector}
use Rattle.page_layout.specs.declared.record.Record.{Record}
use Rattle.page_layout.specs.Geometry.{row_count}
use Rattle.page_layout.specs.Page.{Image}
use Rattle.page_layout.specs.Sound.{record_of}
use Rattle.page_layout.specs.Newest.{newest}
use Rattle.page_layout.specs.Array.{marks, HasOneArray}
use Rattle.page_layout.specs.Change.{IsUnsoundAt, Keeps}
use Rattle.page_layout.proofs.ArrayLemmas.{body_same, mark-same, newest-other, sector-same}
use Rattle.page_layout.proofs.LiveLemmas.{live_same}
use Rattle.page_layout.proofs.NewestLemmas.{Forgets, newest-record, newest_forgets}
use Rattle.page_layout.proofs.StepLemmas.{none_live}
use Rattle.page_layout.proofs.VersionLemmas.{version_same}
use Rattle.file_die.specs.Store.{Held, AreImages, page_in}
use Rattle.image_check.specs.Torn.{StandsFor}
use Rattle.image_check.proofs.TornLemmas.{kept}
use Rattle.image_laws.specs.Power.{LosesSince}
use Rattle.image_laws.proofs.PowerLemmas.{both, which}
use Rattle.crash_recovery.specs.Torn.{IsCut, IsDeadRow}
use Rattle.crash_recovery.specs.Taken.{Takes, lasting}
use Rattle.crash_recovery.specs.Laws.{SpareLaw, DeadSpareLaw, LossLaw, LossLastsLaw, TailLaw, DeadLaw, TakesNoNewest, TakesNoneStored}
use Rattle.crash_recovery.proofs.OrderLemmas.{cut_law}
use Rattle.crash_recovery.proofs.Rows.{same_at, page_at_same, unsound_in, mark_in, mark_within}

-- ---- no newest page

-- each row is as it was, or has no record now and was no newest page
record Spares (old new : Image) : Type 0 where
  size : length new ≡ length old
  rows : (row : ℕ) → (slice_get new row ≡ slice_get old row) ⊎ (IsUnsoundAt new row × ((key : Key) → newest (marks old) key ≢ Some row))

spare_keeps : (g : Geometry) (old new : Image) → HasOneArray g old → Spares old new → Keeps g old new
spare_keeps g old new one spares =
    let same : (key : Key) → newest (marks new) key ≡ newest (marks old) key = λ key. newest_forgets (marks old) (marks new) key one.distinct f (λ row is. mark-same new old row (there key row is)) in
    record {
      size = spares.size;
      newest_same = same;
      bodies = λ key q is. body_same new old q (there key q is);
      versions = λ key q is. version_same new old q (there key q is);
      sector_same = λ n. sector-same g old new n (same (Sector n)) (λ row is. there (Sector n) row is);
      live_same = λ b. live_same g (marks old) (marks new) b same;
      one = record {
        distinct = record { apart = λ a b x y p q e. one.distinct.apart a b x y (was a x p) (was b y q) e };
        in_range = λ row r is. one.in_range row r (was row r is);
      };
      unsound = λ q is. elim (f.at q) [ inl kept ↦ kept ∙ is | inr gone ↦ gone ];
      records = was;
      below = λ next is. record { below = λ q x at. is.below q x (was q x at) };
    }
  where
    f : Forgets (marks old) (marks new)
    f = record { at = λ row. elim (spares.rows row) [ inl same ↦ inl (mark-same new old row same) | inr gone ↦ inr gone.0 ] }

    was : (q : ℕ) (x : Record) → get_or (marks new) q None ≡ Some x → get_or (marks old) q None ≡ Some x
    was q x at = elim (f.at q) [ inl kept ↦ (cc) | inr gone ↦ absurd (cc) ]

    there : (key : Key) (row : ℕ) → newest (marks old) key ≡ Some row → slice_get new row ≡ slice_get old row
    there key row is = elim (spares.rows row) [ inl same ↦ same | inr gone ↦ absurd (gone.1 key is) ]

-- the images are as long as they were
pub long_pages : (taken : ℕ → Type 0) (s t : Held) → AreImages s → Takes taken s t → length t.pages ≡ length s.pages
long_pages taken s t w takes = (takes.whole w).pages_whole.rows ∙ (ap row_count takes.geometry ∙ sym w.pages_whole.rows)

pub long_durable : (taken : ℕ → Type 0) (s t : Held) → AreImages s → Takes taken s t → length t.durable ≡ length s.durable
long_durable taken s t w takes = (takes.whole w).durable_whole.rows ∙ (ap row_count takes.geometry ∙ sym w.durable_whole.rows)

spare_taken : (taken : ℕ → Type 0) (s t : Held) → AreImages s → HasOneArray s.geometry s.pages → TakesNoNewest taken s.pages → Takes taken s t → StandsFor s.geometry s.pages t.pages
spare_taken taken s t w one none takes = kept s.geometry s.pages t.pages w.pages_whole (spare_keeps s.geometry s.pages t.pages one (record {
  size = long_pages taken s t w takes;
  rows = λ row. elim (takes.pages row) [
    | inl same ↦ inl (same_at t.pages s.pages row (long_pages taken s t w takes) same)
    | inr gone ↦ inr (unsound_in t.pages row gone.1, none row gone.0)
  ];
}))

-- a row that lost its record was no newest page: it was not to be taken then, and has gone on to last
not_newest : (taken : ℕ → Type 0) (s t : Held) (row : ℕ) (key : Key) → TakesNoNewest taken s.pages → s.durable ≡ s.pages → Takes taken s t → record_of (page_in t.durable row) ≡ None → newest (marks s.pages) key ≢ Some row
not_newest taken s t row key none lasted takes gone is =
    let its = newest-record (marks s.pages) key row is in
    let spared : ¬ taken row = λ takes_it. none row takes_it key is in
    let stays : page_in t.durable row ≡ page_in s.pages row = takes.kept row spared (ap (λ image. page_in image row) lasted) in
    let here : record_of (page_in s.pages row) ≡ Some its.0 = sym (mark_in s.pages row (mark_within s.pages row its.0 its.1)) ∙ its.1 in
    both (record_of (page_in s.pages row)) its.0 (ap record_of (sym stays) ∙ gone) here

spare_lasts : (taken : ℕ → Type 0) (s t : Held) → AreImages s → HasOneArray s.geometry s.pages → TakesNoNewest taken s.pages → s.durable ≡ s.pages → Takes taken s t → StandsFor s.geometry s.pages t.durable
spare_lasts taken s t w one none lasted takes =
    let long : length t.durable ≡ length s.pages = long_durable taken s t w takes ∙ ap length lasted in
    kept s.geometry s.pages t.durable w.pages_whole (spare_keeps s.geometry s.pages t.durable one (record {
      size = long;
      rows = λ row. elim (takes.durable row) [
        | inl same ↦ inl (same_at t.durable s.pages row long (same ∙ ap (λ image. page_in image row) lasted))
        | inr other ↦ elim other [
          | inl same ↦ inl (same_at t.durable s.pages row long same)
          | inr gone ↦ inr (unsound_in t.durable row gone, λ key. not_newest taken s t row key none lasted takes gone)
        ]
      ];
    }))

pub tail : TailLaw
tail g image mark unsound row is_cut key is = newest-other image row row key (unsound row is_cut) is refl

pub dead : DeadLaw
dead g image one row is_dead key is = (none_live g (row / g.pages) image one is_dead.none).none key row is refl

-- ---- after a loss of power

loss_taken : (taken : ℕ → Type 0) (stored left : Image) (s t : Held) → AreImages s → TakesNoneStored taken stored → Takes taken s t → LosesSince stored left s.pages → LosesSince stored left t.pages
loss_taken taken stored left s t w none takes loses = record {
  size = long_pages taken s t w takes ∙ loses.size;
  rows = λ row. elim (takes.pages row) [
    | inl same ↦ again s.pages t.pages row (same_at t.pages s.pages row (long_pages taken s t w takes) same) (loses.rows row)
    | inr gone ↦ inr (none row gone.0, unsound_in t.pages row gone.1)
  ];
}
  where
    again : (found now : Image) (row : ℕ) → slice_get now row ≡ slice_get found row → (slice_get found row ≡ slice_get left row) ⊎ (IsUnsoundAt stored row × IsUnsoundAt found row)
        → (slice_get now row ≡ slice_get left row) ⊎ (IsUnsoundAt stored row × IsUnsoundAt now row)
    again found now row same (inl as_left) = inl (same ∙ as_left)
    again found now row same (inr lost) = inr (lost.0, mark-same now found row same ∙ lost.1)

lasts_taken : (taken : ℕ → Type 0) (stored left : Image) (s t : Held) → AreImages s → TakesNoneStored taken stored → Takes taken s t → LosesSince stored left s.pages
    → LosesSince stored left s.durable → LosesSince stored left t.durable
lasts_taken taken stored left s t w none takes loses lasts = record {
  size = long_durable taken s t w takes ∙ lasts.size;
  rows = λ row. elim (takes.durable row) [
    | inl same ↦ again s.durable t.durable row (same_at t.durable s.durable row (long_durable taken s t w takes) same) (lasts.rows row)
    | inr other ↦ elim other [
      | inl same ↦ again s.pages t.durable row (same_at t.durable s.pages row (long_durable taken s t w takes ∙ (lasts.size ∙ sym loses.size)) same) (loses.rows row)
      | inr gone ↦ torn row gone
    ]
  ];
}
  where
    again : (found now : Image) (row : ℕ) → slice_get now row ≡ slice_get found row → (slice_get found row ≡ slice_get left row) ⊎ (IsUnsoundAt stored row × IsUnsoundAt found row)
        → (slice_get now row ≡ slice_get left row) ⊎ (IsUnsoundAt stored row × IsUnsoundAt now row)
    again found now row same (inl as_left) = inl (same ∙ as_left)
    again found now row same (inr lost) = inr (lost.0, mark-same now found row same ∙ lost.1)

    as_left : (found : Image) (row : ℕ) (r : Record) → get_or (marks stored) row None ≡ Some r → (slice_get found row ≡ slice_get left row) ⊎ (IsUnsoundAt stored row × IsUnsoundAt found row) → slice_get found row ≡ slice_get left row
    as_left found row r has (inl same) = same
    as_left found row r has (inr lost) = absurd (both (get_or (marks stored) row None) r lost.0 has)

    long : length t.durable ≡ length s.pages
    long = long_durable taken s t w takes ∙ (lasts.size ∙ sym loses.size)

    torn : (row : ℕ) → record_of (page_in t.durable row) ≡ None → (slice_get t.durable row ≡ slice_get left row) ⊎ (IsUnsoundAt stored row × IsUnsoundAt t.durable row)
    torn row gone = elim (which (get_or (marks stored) row None)) [
      | inl unstored ↦ inr (unstored, unsound_in t.durable row gone)
      | inr some ↦
          let spared : ¬ taken row = λ takes_it. both (get_or (marks stored) row None) some.0 (none row takes_it) some.1 in
          let pages_left : slice_get s.pages row ≡ slice_get left row = as_left s.pages row some.0 some.1 (loses.rows row) in
          let durable_left : slice_get s.durable row ≡ slice_get left row = as_left s.durable row some.0 some.1 (lasts.rows row) in
          let lasted : page_in s.durable row ≡ page_in s.pages row = page_at_same s.durable s.pages row (lasts.size ∙ sym loses.size) (durable_left ∙ sym pages_left) in
          inl (same_at t.durable s.pages row long (takes.kept row spared lasted) ∙ pages_left)
    ]

-- ---- of what is cut, and what is erased again

pub spare : SpareLaw
spare mark s t w one none takes = spare_taken (IsCut s.geometry s.pages mark) s t w one none takes

pub dead_spare : DeadSpareLaw
dead_spare s t w one takes =
    let whole : AreImages (lasting s) = record { pages_whole = w.pages_whole; durable_whole = w.pages_whole } in (
      spare_taken (IsDeadRow s.geometry s.pages) (lasting s) t whole one (dead s.geometry s.pages one) takes,
      spare_lasts (IsDeadRow s.geometry s.pages) (lasting s) t whole one (dead s.geometry s.pages one) refl takes,
    )

pub loss : LossLaw
loss mark stored left s t w power in_order takes = record {
  one = power.one;
  grows = power.grows;
  loses = loss_taken (IsCut s.geometry s.pages mark) stored left s t w (cut_law s.geometry stored left s.pages mark power in_order) takes power.loses;
}

pub loss_lasts : LossLastsLaw
loss_lasts mark stored left s t w power in_order takes lasts = record {
  one = power.one;
  grows = power.grows;
  loses = lasts_taken (IsCut s.geometry s.pages mark) stored left s t w (cut_law s.geometry stored left s.pages mark power in_order) takes power.loses lasts;
}
