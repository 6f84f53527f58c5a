-- Pages that are not sound and are shown where they are newer.
use Rattle.std.proofs.Common.{◌≡◌, inl, inr, ℕ, zero, suc, ◌<◌, ◌≤◌, ◌↔◌, List, length, get_or, Option, Some, None, Bool, true, false, refl, sym, ap, ◌∙◌, subst, arith, slice_get, cond, ltb}
use Rattle.std.proofs.lemmas.Bool.{cases_eq, cases_lt, cond_both, ltb-true}
use Rattle.std.proofs.lemmas.List.{get_or-map, get_or_past, length-map}
use Rattle.std.proofs.lemmas.Option.{slice_get_cases, slice_get_within, slice_get-get_or}
use Rattle.page_layout.specs.declared.geometry.Geometry.{Geometry}
use Rattle.page_layout.specs.declared.record.Record.{Record}
use Rattle.page_layout.specs.declared.record.Key.{Key}
use Rattle.page_layout.specs.declared.record.Key.TheVariants as key
use Rattle.page_layout.specs.declared.newest.Latest.{Latest}
use Rattle.page_layout.specs.declared.newest.Latest.TheVariants.{Never, Once, Tied}
use Rattle.page_layout.specs.Greatest.{best, place_of, step}
use Rattle.page_layout.specs.Page.{Page, Image}
use Rattle.page_layout.specs.Sound.{record_of, spelled}
use Rattle.page_layout.specs.Newest.{latest_below, sequence_at}
use Rattle.page_layout.specs.Array.{marks, content_at, content_of_kind, content_of_record, sector_of}
use Rattle.page_layout.specs.Block.{is_broken}
use Rattle.page_layout.proofs.ArrayLemmas.{latest-newest, length-marks}
use Rattle.page_layout.proofs.GreatestLemmas.{Says, best_says}
use Rattle.page_layout.proofs.NewestLemmas.{sequence_at-is, sequence_at-key}
use Rattle.lab_dump.specs.declared.held.SectorShown.TheVariants as shown
use Rattle.lab_dump.specs.Damaged.{DamagedLaw, IsSaidNewer, IsNewestSaid, OtherwiseLaw, Broken, content_in, damaged_sector, row_said_newer, broken_or_whole, said_content, said_marks, said_reads, shown_place}
use Rattle.lab_dump.specs.Held.{shown_by, shown_with}
use Rattle.lab_dump.specs.Said.{is_after, says}
use Rattle.lab_dump.specs.Until.{record_until, until}
use Rattle.lab_dump.specs.Written.{MarkedLaw, damaged_state, sector_state}
use Rattle.lab_dump.proofs.SaidLemmas.{after_all, before_all, none_is, past, same_of, says_is, says_whole}
use Rattle.lab_dump.proofs.UntilLemmas.{until_size}
use Rattle.lab_dump.proofs.WritingLemmas.{sound_whole}

-- ---- one page

pub said_mark : (g : Geometry) (last : Option ℕ) (image : Image) (row : ℕ) (p : Page) → slice_get image row ≡ Some p → get_or (said_marks g last image) row None ≡ record_until last (says g p)
unfolding said_marks
said_mark g last image row p at =
    let inside = slice_get_within image row p at in
    let here : get_or image row p ≡ p = same_page _ _ (sym (slice_get-get_or image row p inside) ∙ at) in
    get_or-map (λ q. record_until last (says g q)) image row p None inside ∙ ap (λ q. record_until last (says g q)) here
  where
    same_page : (a b : Page) → Some a ≡ Some b → a ≡ b
    same_page a b e = cc

pub counted_none : (last : Option ℕ) → record_until last None ≡ None
counted_none None = refl
counted_none (Some last) = refl

pub sound_silent : (g : Geometry) (p : Page) (r : Record) → record_of p ≡ Some r → says g p ≡ None
sound_silent g p r is = says_whole g p (sound_whole p r is)

pub said_broken : (g : Geometry) (p : Page) (r : Record) → says g p ≡ Some r → (is_broken p ≡ true) × (spelled p.spare ≡ Some r)
said_broken g p r is = let its = says_is g p r is in (its.broken, its.spelled_is)

pub said_here : (g : Geometry) (image : Image) (row : ℕ) (p : Page) (r : Record) → slice_get image row ≡ Some p → says g p ≡ Some r → said_reads g image row ≡ content_of_kind g r.kind p.body
said_here g image row p r at is = ap (said_content g) at ∙ ap (λ o. content_of_record g o p.body) is

marks_size : (g : Geometry) (last : Option ℕ) (image : Image) → length (said_marks g last image) ≡ length image
unfolding said_marks
marks_size g last image = length-map image (λ p. record_until last (says g p))

none_some : {o : Option Record} {r : Record} → o ≡ None → o ≡ Some r → ⊥
none_some a b = cc

-- the page that a mark is of
page_said : (g : Geometry) (last : Option ℕ) (image : Image) (row : ℕ) (r : Record) → get_or (said_marks g last image) row None ≡ Some r → (p : Page) × (slice_get image row ≡ Some p) × (record_until last (says g p) ≡ Some r)
page_said g last image row r mark = elim (slice_get_cases image row).1 [
  | inl h ↦ (h.0, h.2, sym (said_mark g last image row h.0 h.2) ∙ mark)
  | inr h ↦ absurd (none_some (get_or_past (said_marks g last image) row None (omega (arith, h.0, marks_size g last image))) mark)
]

-- ---- the first of the greatest

abbrev IsFirstIn : (ℕ → Option ℕ) → ℕ → Latest → Type 0
IsFirstIn f n Never = Unit {0}
IsFirstIn f n (Once a t) = (q : ℕ) → q < n → f q ≡ Some t → a ≤ q
IsFirstIn f n (Tied a b t) = (q : ℕ) → q < n → f q ≡ Some t → a ≤ q

first_new : (f : ℕ → Option ℕ) (n s : ℕ) → ((q t : ℕ) → q < n → f q ≡ Some t → t < s) → IsFirstIn f (suc n) (Once n s)
first_new f n s low q l at = elim (cases_lt q n) [
  | inl below ↦ absurd (let lt = low q s below at in omega arith)
  | inr le ↦ le
]

first_old : (f : ℕ → Option ℕ) (n a t : ℕ) → a < n → ((q : ℕ) → q < n → f q ≡ Some t → a ≤ q) → (q : ℕ) → q < suc n → f q ≡ Some t → a ≤ q
first_old f n a t in_range first q l at = elim (cases_lt q n) [
  | inl below ↦ first q below at
  | inr le ↦ omega arith
]

first_some : (f : ℕ → Option ℕ) (n s : ℕ) (b : Latest) → f n ≡ Some s → Says f n b → IsFirstIn f n b → IsFirstIn f (suc n) (step b n (Some s))
first_some f n s Never e h first = first_new f n s (λ q t l at. absurd (none_is (h.all q l) at))
first_some f n s (Once a t) e h first =
    let P : Latest → Type 0 = λ l. IsFirstIn f (suc n) l in
    cond_both (ltb t s) (Once n s) (cond (ltb s t) (Once a t) (Tied a n t)) P
    (λ lt. first_new f n s (λ q v l at. elim (cases_eq q a) [
      | inl same ↦ (let value : t ≡ v = same_of h.here (ap f (sym same) ∙ at) in let less = ltb-true t s lt in omega arith)
      | inr ne ↦ (let low = h.others q v l ne at in let less = ltb-true t s lt in omega arith)
    ]))
    (λ ge. cond_both (ltb s t) (Once a t) (Tied a n t) P (λ lt. first_old f n a t h.within first) (λ le. first_old f n a t h.within first))
first_some f n s (Tied a b t) e h first =
    let P : Latest → Type 0 = λ l. IsFirstIn f (suc n) l in
    let low : a < n = omega (arith, h.order, h.within) in
    cond_both (ltb t s) (Once n s) (Tied a b t) P
    (λ lt. first_new f n s (λ q v l at. let le = h.all q v l at in let less = ltb-true t s lt in omega arith))
    (λ ge. first_old f n a t low first)

first_none : (f : ℕ → Option ℕ) (n : ℕ) (b : Latest) → f n ≡ None → IsFirstIn f n b → IsFirstIn f (suc n) b
first_none f n Never e first = tt
first_none f n (Once a t) e first = λ q l at. elim (cases_eq q n) [
  | inl same ↦ absurd (none_is (ap f same ∙ e) at)
  | inr ne ↦ first q (omega arith) at
]
first_none f n (Tied a b t) e first = λ q l at. elim (cases_eq q n) [
  | inl same ↦ absurd (none_is (ap f same ∙ e) at)
  | inr ne ↦ first q (omega arith) at
]

first_step : (f : ℕ → Option ℕ) (n : ℕ) (b : Latest) (m : Option ℕ) → f n ≡ m → Says f n b → IsFirstIn f n b → IsFirstIn f (suc n) (step b n m)
first_step f n b None e h first = first_none f n b e first
first_step f n b (Some s) e h first = first_some f n s b e h first

first_best : (f : ℕ → Option ℕ) (n : ℕ) → IsFirstIn f n (best f n)
unfolding best
first_best f zero = tt
first_best f (suc n) = first_step f n (best f n) (f n) refl (best_says f n) (first_best f n)

-- ---- one sector

-- this row's page has this sequence, none of the sector has a greater one, and none before has it
record IsTop (ds : List (Option Record)) (key : Key) (row s : ℕ) : Type 0 where
  here : sequence_at ds key row ≡ Some s
  greatest : (q t : ℕ) → sequence_at ds key q ≡ Some t → t ≤ s
  first : (q : ℕ) → sequence_at ds key q ≡ Some s → row ≤ q

only_top : (ds : List (Option Record)) (key : Key) (a b s t : ℕ) → IsTop ds key a s → IsTop ds key b t → (a ≡ b) × (s ≡ t)
only_top ds key a b s t x y =
    let same : s ≡ t = let one = x.greatest b t y.here in let two = y.greatest a s x.here in omega arith in
    let one : a ≤ b = x.first b (y.here ∙ ap Some (sym same)) in
    let two : b ≤ a = y.first a (x.here ∙ ap Some same) in
    (omega arith, same)

once_top : (ds : List (Option Record)) (key : Key) (row s : ℕ) → Says (sequence_at ds key) (length ds) (Once row s) → IsFirstIn (sequence_at ds key) (length ds) (Once row s) → IsTop ds key row s
once_top ds key row s h first = record {
  here = h.here;
  greatest = λ q t at. elim (cases_eq q row) [
    | inl same ↦ (let value : s ≡ t = same_of h.here (ap (sequence_at ds key) (sym same) ∙ at) in omega arith)
    | inr ne ↦ (let low = h.others q t (past ds key q t at) ne at in omega arith)
  ];
  first = λ q at. first q (past ds key q s at) at;
}

tied_top : (ds : List (Option Record)) (key : Key) (a b s : ℕ) → Says (sequence_at ds key) (length ds) (Tied a b s) → IsFirstIn (sequence_at ds key) (length ds) (Tied a b s) → IsTop ds key a s
tied_top ds key a b s h first = record {
  here = h.at_first;
  greatest = λ q t at. h.all q t (past ds key q t at) at;
  first = λ q at. first q (past ds key q s at) at;
}

-- the top is newer than all of the others
record IsOver (ms ds : List (Option Record)) (key : Key) (row : ℕ) : Type 0 where
  sequence : ℕ
  top : IsTop ds key row sequence
  newer : (q s : ℕ) → sequence_at ms key q ≡ Some s → s < sequence

if_after : (b : Bool) (a row : ℕ) → cond b (Some a) None ≡ Some row → (b ≡ true) × (a ≡ row)
if_after true a row e = (refl, cc)
if_after false a row e = absurd (cc)

over_is : (ms ds : List (Option Record)) (key : Key) (l d : Latest) (row : ℕ) → Says (sequence_at ms key) (length ms) l → Says (sequence_at ds key) (length ds) d → IsFirstIn (sequence_at ds key) (length ds) d
    → row_said_newer l d ≡ Some row → IsOver ms ds key row
over_is ms ds key l Never row ml dl first e = absurd (cc)
over_is ms ds key l (Once a s) row ml dl first e =
    let its = if_after (is_after s l) a row e in
    record { sequence = s; top = subst (λ r. IsTop ds key r s) its.1 (once_top ds key a s dl first); newer = before_all ms key s l ml its.0 }
over_is ms ds key l (Tied a b s) row ml dl first e =
    let its = if_after (is_after s l) a row e in
    record { sequence = s; top = subst (λ r. IsTop ds key r s) its.1 (tied_top ds key a b s dl first); newer = before_all ms key s l ml its.0 }

over_top : (ms : List (Option Record)) (ds : List (Option Record)) (key : Key) (l : Latest) (a s t : ℕ) → Says (sequence_at ms key) (length ms) l → s ≤ t → ((q v : ℕ) → sequence_at ms key q ≡ Some v → v < s) → cond (is_after t l) (Some a) None ≡ Some a
over_top ms ds key l a s t ml le newer =
    let after : is_after t l ≡ true = after_all ms key t l ml (λ q v at. let lt = newer q v at in omega arith) in
    ap (λ b. cond b (Some a) None) after

-- where a page is newer, one is shown
over_some : (ms ds : List (Option Record)) (key : Key) (l d : Latest) (row s : ℕ) → Says (sequence_at ms key) (length ms) l → Says (sequence_at ds key) (length ds) d → IsFirstIn (sequence_at ds key) (length ds) d
    → sequence_at ds key row ≡ Some s → ((q v : ℕ) → sequence_at ms key q ≡ Some v → v < s) → (a : ℕ) × (row_said_newer l d ≡ Some a)
over_some ms ds key l Never row s ml dl first here newer = absurd (none_is (dl.all row (past ds key row s here)) here)
over_some ms ds key l (Once a t) row s ml dl first here newer = (a, over_top ms ds key l a s t ml ((once_top ds key a t dl first).greatest row s here) newer)
over_some ms ds key l (Tied a b t) row s ml dl first here newer = (a, over_top ms ds key l a s t ml ((tied_top ds key a b t dl first).greatest row s here) newer)

over_from : (ms ds : List (Option Record)) (key : Key) (l d : Latest) (row : ℕ) → Says (sequence_at ms key) (length ms) l → Says (sequence_at ds key) (length ds) d → IsFirstIn (sequence_at ds key) (length ds) d
    → IsOver ms ds key row → row_said_newer l d ≡ Some row
over_from ms ds key l d row ml dl first h =
    let some = over_some ms ds key l d row h.sequence ml dl first h.top.here h.newer in
    let its = over_is ms ds key l d some.0 ml dl first some.1 in
    some.1 ∙ ap Some (only_top ds key some.0 row its.sequence h.sequence its.top h.top).0

-- ---- of an image

-- the sound pages that count, and what the others say
abbrev sound_of : Geometry → Option ℕ → Image → ℕ → Latest
sound_of g last image n = latest_below (marks (until g last image)) (key.Sector n) (length image)

abbrev others_of : Geometry → Option ℕ → Image → ℕ → Latest
others_of g last image n = latest_below (said_marks g last image) (key.Sector n) (length image)

sound_says : (g : Geometry) (last : Option ℕ) (image : Image) (n : ℕ) → Says (sequence_at (marks (until g last image)) (key.Sector n)) (length (marks (until g last image))) (sound_of g last image n)
unfolding latest_below
sound_says g last image n =
    let ms = marks (until g last image) in
    let size : length ms ≡ length image = length-marks (until g last image) ∙ until_size g last image in
    subst (λ k. Says (sequence_at ms (key.Sector n)) (length ms) (best (sequence_at ms (key.Sector n)) k)) size (best_says (sequence_at ms (key.Sector n)) (length ms))

others_says : (g : Geometry) (last : Option ℕ) (image : Image) (n : ℕ) → Says (sequence_at (said_marks g last image) (key.Sector n)) (length (said_marks g last image)) (others_of g last image n)
unfolding latest_below
others_says g last image n =
    let ds = said_marks g last image in
    subst (λ k. Says (sequence_at ds (key.Sector n)) (length ds) (best (sequence_at ds (key.Sector n)) k)) (marks_size g last image) (best_says (sequence_at ds (key.Sector n)) (length ds))

others_first : (g : Geometry) (last : Option ℕ) (image : Image) (n : ℕ) → IsFirstIn (sequence_at (said_marks g last image) (key.Sector n)) (length (said_marks g last image)) (others_of g last image n)
unfolding latest_below
others_first g last image n =
    let ds = said_marks g last image in
    subst (λ k. IsFirstIn (sequence_at ds (key.Sector n)) (length ds) (best (sequence_at ds (key.Sector n)) k)) (marks_size g last image) (first_best (sequence_at ds (key.Sector n)) (length ds))

abbrev IsOverIn : Geometry → Option ℕ → Image → ℕ → ℕ → Type 0
IsOverIn g last image n row = IsOver (marks (until g last image)) (said_marks g last image) (key.Sector n) row

shown_from : (g : Geometry) (last : Option ℕ) (image : Image) (n row : ℕ) → IsOverIn g last image n row → IsNewestSaid g last image n row
shown_from g last image n row h =
    let ds = said_marks g last image in
    let its = sequence_at-is ds (key.Sector n) row h.sequence h.top.here in
    let page = page_said g last image row its.its its.is in
    let same : h.sequence ≡ its.its.sequence = sym its.sequence_is in
    record {
      is = record { page = page.0; its = its.its; at = page.1; says_is = page.2; key_is = its.of_key; newer = λ q s at. subst (λ t. s < t) same (h.newer q s at) };
      greatest = λ q s at. subst (λ t. s ≤ t) same (h.top.greatest q s at);
      first = λ q at. h.top.first q (at ∙ ap Some (sym same));
    }

-- what the page of a row says that is newer
newer_here : (g : Geometry) (last : Option ℕ) (image : Image) (n row : ℕ) (h : IsSaidNewer g last image n row) → sequence_at (said_marks g last image) (key.Sector n) row ≡ Some h.its.sequence
newer_here g last image n row h =
    let ds = said_marks g last image in
    subst (λ k. sequence_at ds k row ≡ Some h.its.sequence) h.key_is (sequence_at-key ds row h.its (said_mark g last image row h.page h.at ∙ h.says_is))

from_shown : (g : Geometry) (last : Option ℕ) (image : Image) (n row : ℕ) → IsNewestSaid g last image n row → IsOverIn g last image n row
from_shown g last image n row h = record {
  sequence = h.is.its.sequence;
  top = record { here = newer_here g last image n row h.is; greatest = h.greatest; first = h.first };
  newer = h.is.newer;
}

over_shown : (g : Geometry) (last : Option ℕ) (image : Image) (n row : ℕ) → (row_said_newer (sound_of g last image n) (others_of g last image n) ≡ Some row) ↔ IsNewestSaid g last image n row
over_shown g last image n row =
    let ms = marks (until g last image) in
    let ds = said_marks g last image in (
      λ e. shown_from g last image n row (over_is ms ds (key.Sector n) (sound_of g last image n) (others_of g last image n) row (sound_says g last image n) (others_says g last image n) (others_first g last image n) e),
      λ h. over_from ms ds (key.Sector n) (sound_of g last image n) (others_of g last image n) row (sound_says g last image n) (others_says g last image n) (others_first g last image n) (from_shown g last image n row h),
    )

broken_place : (o p : Option ℕ) (row : ℕ) → (broken_or_whole o p ≡ Broken row) ↔ (o ≡ Some row)
broken_place (Some a) p row = (λ e. let same : a ≡ row = cc in ap Some same, λ e. let same : a ≡ row = cc in ap Broken same)
broken_place None (Some a) row = (λ e. absurd (cc), λ e. absurd (cc))
broken_place None None row = (λ e. absurd (cc), λ e. absurd (cc))

pub damaged_law : DamagedLaw
unfolding shown_place
damaged_law g last image n row =
    let place = broken_place (row_said_newer (sound_of g last image n) (others_of g last image n)) (place_of (sound_of g last image n)) row in
    let shown = over_shown g last image n row in
    (λ e. shown.0 (place.0 e), λ h. place.1 (shown.1 h))

-- none is newer
none_over : (g : Geometry) (last : Option ℕ) (image : Image) (n : ℕ) → ((row : ℕ) → ¬ IsSaidNewer g last image n row) → row_said_newer (sound_of g last image n) (others_of g last image n) ≡ None
none_over g last image n none = by (row_said_newer (sound_of g last image n) (others_of g last image n)) refl
  where
    by : (o : Option ℕ) → row_said_newer (sound_of g last image n) (others_of g last image n) ≡ o → o ≡ None
    by None e = refl
    by (Some row) e = absurd (none row ((over_shown g last image n row).0 e).is)

whole_place : (g : Geometry) (image : Image) (reads : ℕ → List ℕ) (o : Option ℕ) → content_in g image reads (broken_or_whole None o) ≡ content_at g image o
whole_place g image reads None = refl
whole_place g image reads (Some row) = refl

pub otherwise_law : OtherwiseLaw
unfolding damaged_sector shown_place sector_of
otherwise_law g last image n none =
    let now : Image = until g last image in
    let reads = said_reads g image in
    ap (λ o. content_in g now reads (broken_or_whole o (place_of (sound_of g last image n)))) (none_over g last image n none)
    ∙ (whole_place g now reads (place_of (sound_of g last image n))
    ∙ sym (ap (content_at g now) (latest-newest (marks now) (key.Sector n) ∙ ap (λ k. place_of (latest_below (marks now) (key.Sector n) k)) (length-marks now ∙ until_size g last image))))

-- ---- how it is marked

marked_some : (o : Option ℕ) (l : Latest) → shown_with o l ≡ shown.Damaged → (row : ℕ) × (o ≡ Some row)
marked_some (Some row) l e = (row, refl)
marked_some None Never e = absurd (cc)
marked_some None (Once a s) e = absurd (cc)
marked_some None (Tied a b s) e = absurd (cc)

pub marked_law : MarkedLaw
unfolding damaged_state sector_state
marked_law g last image n =
    let ms = marks (until g last image) in
    let ds = said_marks g last image in
    let l = sound_of g last image n in
    let d = others_of g last image n in (
      (
        λ e. let some = marked_some (row_said_newer l d) l e in (some.0, ((over_shown g last image n some.0).0 some.1).is),
        λ h.
            let some = over_some ms ds (key.Sector n) l d h.0 h.1.its.sequence (sound_says g last image n) (others_says g last image n) (others_first g last image n) (newer_here g last image n h.0 h.1) h.1.newer in
            ap (λ o. shown_with o l) some.1,
      ),
      λ none.
          ap (λ o. shown_with o l) (none_over g last image n none) ∙ ap (λ k. shown_by (latest_below ms (key.Sector n) k)) (sym (until_size g last image)),
    )
