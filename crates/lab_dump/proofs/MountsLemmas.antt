-- A die mounts just where its survey has no reason against it.
use Rattle.std.proofs.Common.{◌≡◌, ℕ, zero, suc, ◌+◌, ◌-◌, ◌^◌, ◌<◌, ◌≤◌, List, [], ◌∷◌, length, get_or, Option, Some, None, Bool, true, false}
use Rattle.std.proofs.Common.{refl, sym, ap, ◌∙◌, arith, cond, slice_get, count_by}
use Rattle.std.specs.Prelude.{not, nat_lt}
use Rattle.std.proofs.lemmas.Bool.{lt-ltb, ltb-true, not-false}
use Rattle.std.proofs.lemmas.List.Sums.{sum_by-cons}
use Rattle.page_layout.specs.declared.geometry.Geometry.{Geometry}
use Rattle.page_layout.specs.declared.record.Record.{Record}
use Rattle.page_layout.specs.declared.record.Key.{Key}
use Rattle.page_layout.specs.declared.record.Key.TheVariants.{Sector, Translation, Table}
use Rattle.page_layout.specs.Geometry.{table_pages, translation_pages}
use Rattle.page_layout.specs.Page.{Page, Image}
use Rattle.page_layout.specs.Sound.{record_of}
use Rattle.page_layout.specs.Key.{key_of}
use Rattle.page_layout.specs.Live.{IsKeyOf}
use Rattle.page_layout.specs.OneArray.{AreDistinct, AreBelow}
use Rattle.page_layout.specs.Array.{marks}
use Rattle.page_layout.proofs.ArrayLemmas.{mark-page, length-marks}
use Rattle.image_check.specs.Agrees.{AreInRange}
use Rattle.image_check.specs.Mountable.{IsOrderly}
use Rattle.image_check.specs.Stale.{stale_count}
use Rattle.image_check.proofs.PartLemmas.{mark_within}
use Rattle.image_check.proofs.MountableLemmas.{mountable}
use Rattle.lab_dump.specs.declared.counts.PageCounts.{PageCounts}
use Rattle.lab_dump.specs.declared.survey.DieSurvey.{DieSurvey}
use Rattle.lab_dump.specs.Count.{page_counts_of, is_in_range, is_outside, is_last}
use Rattle.lab_dump.specs.Surveyed.{HasNoReason, IsSurveyed, MountsLaw, RepeatsAs}
use Rattle.lab_dump.proofs.KeyLemmas.{found_of, place_found}

-- ---- counts that are 0

cond_zero : (b : Bool) (n : ℕ) → cond b 1 0 + n ≡ 0 → b ≡ false
cond_zero true n e = absurd (omega arith)
cond_zero false n e = refl

cond_rest : (b : Bool) (n : ℕ) → cond b 1 0 + n ≡ 0 → n ≡ 0
cond_rest true n e = absurd (omega arith)
cond_rest false n e = omega arith

none_at : (test : Page → Bool) (ps : List Page) (row : ℕ) (p : Page) → count_by test ps ≡ 0 → slice_get ps row ≡ Some p → test p ≡ false
none_at test [] row p e is = absurd (cc)
none_at test (q ∷ ps) zero p e is = let same : q ≡ p = cc in ap test (sym same) ∙ cond_zero (test q) (count_by test ps) (sym (sum_by-cons (λ y. cond (test y) 1 0) q ps) ∙ e)
none_at test (q ∷ ps) (suc row) p e is = none_at test ps row p (cond_rest (test q) (count_by test ps) (sym (sum_by-cons (λ y. cond (test y) 1 0) q ps) ∙ e)) is

none_all : (test : Page → Bool) (ps : List Page) → ((row : ℕ) (p : Page) → slice_get ps row ≡ Some p → test p ≡ false) → count_by test ps ≡ 0
none_all test [] h = refl
none_all test (q ∷ ps) h = sum_by-cons (λ y. cond (test y) 1 0) q ps ∙ (ap (λ b. cond b 1 0 + count_by test ps) (h 0 q refl) ∙ no_more (count_by test ps) (none_all test ps (λ row p is. h (suc row) p is)))
  where
    no_more : (n : ℕ) → n ≡ 0 → cond false 1 0 + n ≡ 0
    no_more n e = omega arith

-- the page of a mark
pub record IsMarked (image : Image) (row : ℕ) (r : Record) : Type 0 where
  pub its : Page
  pub is : slice_get image row ≡ Some its
  pub says : record_of its ≡ Some r

some_at : (image : Image) (row : ℕ) → row < length image → (p : Page) × (slice_get image row ≡ Some p)
some_at [] row l = absurd (omega arith)
some_at (p ∷ ps) zero l = (p, refl)
some_at (p ∷ ps) (suc row) l = some_at ps row (omega arith)

marked : (image : Image) (row : ℕ) (r : Record) → get_or (marks image) row None ≡ Some r → IsMarked image row r
marked image row r e =
    let within = mark_within (marks image) row r e in
    let at = some_at image row (omega (arith, length-marks image)) in
    record { its = at.0; is = at.1; says = sym (mark-page image row at.0 at.1) ∙ e }

-- ---- numbers and sequences

range_of : (g : Geometry) (key : Key) → is_in_range g key ≡ true → IsKeyOf g key
range_of g (Sector n) e = ltb-true n g.sectors e
range_of g (Translation t) e = ltb-true t (translation_pages g) e
range_of g (Table u) e = ltb-true u (table_pages g) e

in_range : (g : Geometry) (key : Key) → IsKeyOf g key → is_in_range g key ≡ true
in_range g (Sector n) l = lt-ltb n g.sectors l
in_range g (Translation t) l = lt-ltb t (translation_pages g) l
in_range g (Table u) l = lt-ltb u (table_pages g) l

numbers_of : (g : Geometry) (image : Image) → count_by (λ p. is_outside g (record_of p)) image ≡ 0 → AreInRange g (marks image)
numbers_of g image e = record {
  in_range = λ row r at.
      let m = marked image row r at in
      range_of g (key_of r) (not-false (is_in_range g (key_of r)) (sym (ap (is_outside g) m.says) ∙ none_at (λ p. is_outside g (record_of p)) image row m.its e m.is));
}

outside_none : (g : Geometry) (image : Image) → AreInRange g (marks image) → count_by (λ p. is_outside g (record_of p)) image ≡ 0
outside_none g image h = none_all (λ p. is_outside g (record_of p)) image (λ row p is. by (record_of p) row (mark-page image row p is))
  where
    by : (o : Option Record) (row : ℕ) → get_or (marks image) row None ≡ o → is_outside g o ≡ false
    by None row e = refl
    by (Some r) row e = ap not (in_range g (key_of r) (h.in_range row r e))

last_of : (image : Image) → count_by (λ p. is_last (record_of p)) image ≡ 0 → AreBelow (marks image) (2 ^ 64 - 1)
last_of image e = record {
  below = λ row r at.
      let m = marked image row r at in
      ltb-true r.sequence (2 ^ 64 - 1) (not-false (nat_lt r.sequence (2 ^ 64 - 1)) (sym (ap is_last m.says) ∙ none_at (λ p. is_last (record_of p)) image row m.its e m.is));
}

last_none : (image : Image) → AreBelow (marks image) (2 ^ 64 - 1) → count_by (λ p. is_last (record_of p)) image ≡ 0
last_none image h = none_all (λ p. is_last (record_of p)) image (λ row p is. by (record_of p) row (mark-page image row p is))
  where
    by : (o : Option Record) (row : ℕ) → get_or (marks image) row None ≡ o → is_last o ≡ false
    by None row e = refl
    by (Some r) row e = ap not (lt-ltb r.sequence (2 ^ 64 - 1) (h.below row r e))

-- ---- the counts of a survey

pub outside_is : (g : Geometry) (image : Image) (c : PageCounts) → c ≡ page_counts_of g image → c.outside ≡ count_by (λ p. is_outside g (record_of p)) image
unfolding page_counts_of
outside_is g image c e = ap (λ x. x.outside) e

pub last_is : (g : Geometry) (image : Image) (c : PageCounts) → c ≡ page_counts_of g image → c.last ≡ count_by (λ p. is_last (record_of p)) image
unfolding page_counts_of
last_is g image c e = ap (λ x. x.last) e

apart : (image : Image) (o : Option (ℕ × ℕ)) → RepeatsAs (marks image) o → AreDistinct (marks image) → o ≡ None
apart image None h distinct = refl
apart image (Some rows) h distinct =
    let pair = h.pair in
    let below = pair.order in
    let same = distinct.apart rows.0 rows.1 pair.first pair.second pair.at_first pair.at_second pair.same in
    absurd (omega arith)

distinct_of : (image : Image) (o : Option (ℕ × ℕ)) → RepeatsAs (marks image) o → o ≡ None → AreDistinct (marks image)
distinct_of image None h e = h
distinct_of image (Some rows) h e = absurd (cc)

-- ---- the law

reasons_of : (g : Geometry) (capacity : ℕ) (image : Image) (s : DieSurvey) → IsSurveyed g image s → IsOrderly g capacity image → HasNoReason g s
reasons_of g capacity image s h o =
    let found = λ (u : ℕ) (l : u < table_pages g). (let at = o.tables.formatted u l in found_of image (Table u) at.row at.newest_is) in
    record {
      outside = outside_is g image s.counts h.counts ∙ outside_none g image o.numbers;
      repeated = apart image s.repeated h.repeated o.sequences;
      tables = λ u l. h.keys (Table u) l ∙ found u l;
      formed = λ u l. (h.formed u l (found u l)).1 (o.tables.formed u l);
      last = last_is g image s.counts h.counts ∙ last_none image o.last;
    }

orderly_from : (g : Geometry) (capacity : ℕ) (image : Image) (s : DieSurvey) → IsSurveyed g image s → HasNoReason g s → stale_count g image ≤ capacity → IsOrderly g capacity image
orderly_from g capacity image s h none fresh =
    let found = λ (u : ℕ) (l : u < table_pages g). sym (h.keys (Table u) l) ∙ none.tables u l in
    record {
      numbers = numbers_of g image (sym (outside_is g image s.counts h.counts) ∙ none.outside);
      sequences = distinct_of image s.repeated h.repeated none.repeated;
      tables = record {
        formatted = λ u l. (let at = place_found image (Table u) (found u l) in record { row = at.row; newest_is = at.newest_is });
        formed = λ u l. (h.formed u l (found u l)).0 (none.formed u l);
      };
      last = last_of image (sym (last_is g image s.counts h.counts) ∙ none.last);
      fresh = fresh;
    }

pub mounts : MountsLaw
mounts g capacity image s whole least most h =
    let both = mountable g capacity image whole least most in
    (λ m. (let o = both.0 m in (reasons_of g capacity image s h o, o.fresh)), λ r. both.1 (orderly_from g capacity image s h r.0 r.1))
