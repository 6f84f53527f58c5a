-- The image as of a sequence.
use Rattle.std.proofs.Common.{◌≡◌, ◌↔◌, inl, inr, ℕ, suc, ◌<◌, ◌≤◌, length, get_or, set, map, [], ◌∷◌, Option, Some, None, Bool, true, false, refl, sym, ap, ◌∙◌, subst, arith, cond}
use Rattle.std.specs.Prelude.{slice_get, option_map, nat_lt}
use Rattle.std.proofs.lemmas.Bool.{cases_Bool, cases_eq}
use Rattle.std.proofs.lemmas.Bool.Decides.{nat_tests}
use Rattle.std.proofs.lemmas.List.{length-map, length-set, get_or_past}
use Rattle.std.proofs.lemmas.Option.{slice_get-map, slice_get_cases}
use Rattle.page_layout.specs.declared.geometry.Geometry.{Geometry}
use Rattle.page_layout.specs.declared.record.Record.{Record}
use Rattle.page_layout.specs.declared.record.Key.TheVariants as key
use Rattle.page_layout.specs.Page.{Page, Image}
use Rattle.page_layout.specs.Sound.{record_of}
use Rattle.page_layout.specs.Change.{erased_page}
use Rattle.page_layout.specs.Newest.{newest}
use Rattle.page_layout.specs.Array.{marks}
use Rattle.page_layout.proofs.ArrayLemmas.{mark-page, mark-same, length-marks, page_of_mark, sector-same, array-same, slice_get-set_other, slice_get-set_same}
use Rattle.page_layout.proofs.NewestLemmas.{newest-record, newest_same, sequence_at-same}
use Rattle.page_layout.proofs.GreatestLemmas.{IsGreatest-same}
use Rattle.page_layout.proofs.StepLemmas.{erased_unsound}
use Rattle.lab_dump.specs.Until.{is_later, record_until, page_until, until, CountsUntilLaw, AllCountLaw, IsUncollected, LaterPageLaw, ThenLaw}

-- ---- its pages

pub until_size : (g : Geometry) (last : Option ℕ) (image : Image) → length (until g last image) ≡ length image
unfolding until
until_size g last image = length-map image (page_until g last)

until_at : (g : Geometry) (last : Option ℕ) (image : Image) (row : ℕ) → slice_get (until g last image) row ≡ option_map (page_until g last) (slice_get image row)
unfolding until
until_at g last image row = slice_get-map (page_until g last) image row

pub until_page : (g : Geometry) (last : Option ℕ) (image : Image) (row : ℕ) (p : Page) → slice_get image row ≡ Some p → slice_get (until g last image) row ≡ Some (page_until g last p)
until_page g last image row p at = until_at g last image row ∙ ap (option_map (page_until g last)) at

-- a page that does not count has no record
pub counted_record : (g : Geometry) (last : Option ℕ) (p : Page) → record_of (page_until g last p) ≡ record_until last (record_of p)
counted_record g None p = refl
counted_record g (Some l) p = by (is_later l (record_of p))
  where
    by : (b : Bool) → record_of (cond b (erased_page g) p) ≡ cond b None (record_of p)
    by true = erased_unsound g
    by false = refl

-- one that counts stands as it is
pub counted_page : (g : Geometry) (last : Option ℕ) (p : Page) (r : Record) → record_until last (record_of p) ≡ Some r → page_until g last p ≡ p
counted_page g None p r is = refl
counted_page g (Some l) p r is = by (is_later l (record_of p)) is
  where
    by : (b : Bool) → cond b None (record_of p) ≡ Some r → cond b (erased_page g) p ≡ p
    by true e = absurd (cc)
    by false e = refl

pub counted_was : (last : Option ℕ) (found : Option Record) (r : Record) → record_until last found ≡ Some r → found ≡ Some r
counted_was None found r is = is
counted_was (Some l) found r is = by (is_later l found) is
  where
    by : (b : Bool) → cond b None found ≡ Some r → found ≡ Some r
    by true e = absurd (cc)
    by false e = e

-- ---- its records

mark_until : (g : Geometry) (last : Option ℕ) (image : Image) (row : ℕ) → get_or (marks (until g last image)) row None ≡ record_until last (get_or (marks image) row None)
mark_until g last image row = elim ((slice_get_cases image row).1) [
  | inl (p, inside, at, here) ↦ mark-page (until g last image) row (page_until g last p) (until_page g last image row p at) ∙ (counted_record g last p ∙ ap (record_until last) (sym (mark-page image row p at)))
  | inr (past, none) ↦
      get_or_past (marks (until g last image)) row None (omega (arith, length-marks (until g last image), until_size g last image))
      ∙ (sym (nothing last) ∙ ap (record_until last) (sym (get_or_past (marks image) row None (omega (arith, length-marks image)))))
]
  where
    nothing : (last : Option ℕ) → record_until last None ≡ None
    nothing None = refl
    nothing (Some l) = refl

-- ---- laws

counted_some : (last : ℕ) (found : Option Record) (r : Record) → (record_until (Some last) found ≡ Some r) ↔ ((found ≡ Some r) × (r.sequence ≤ last))
counted_some last None r = (λ e. absurd (cc), λ h. h.0)
counted_some last (Some x) r = (
  λ e. elim (cases_Bool (nat_lt last x.sequence)) [
    | inl late ↦ absurd (let no : None ≡ Some r = sym (ap (λ b. cond b None (Some x)) late) ∙ e in cc)
    | inr early ↦
        let is : Some x ≡ Some r = sym (ap (λ b. cond b None (Some x)) early) ∙ e in
        let same : x ≡ r = cc in
        (is, subst (λ y. y.sequence ≤ last) same (grind (arith, nat_tests)))
  ],
  λ h.
      let same : x ≡ r = (let e = h.0 in cc) in
      let early : nat_lt last x.sequence ≡ false = (let le : x.sequence ≤ last = subst (λ y. y.sequence ≤ last) (sym same) h.1 in grind (arith, nat_tests)) in
      ap (λ b. cond b None (Some x)) early ∙ h.0,
)

pub counts_law : CountsUntilLaw
counts_law g image last row r =
    let mark = mark_until g (Some last) image row in
    let some = counted_some last (get_or (marks image) row None) r in
    (λ e. some.0 (sym mark ∙ e), λ h. mark ∙ some.1 h)

-- each page stays as it is
all_same : (f : Page → Page) (image : Image) → ((row : ℕ) (p : Page) → slice_get image row ≡ Some p → f p ≡ p) → map f image ≡ image
all_same f [] same = refl
all_same f (p ∷ ps) same = let head : f p ≡ p = same 0 p refl in let tail = all_same f ps (λ row q at. same (suc row) q at) in cc

pub all_count_law : AllCountLaw
unfolding until
all_count_law g image = (
  all_same (page_until g None) image (λ row p at. refl),
  λ last early. all_same (page_until g (Some last)) image (λ row p at. stays last p (record_of p) refl (λ r is. early row r (mark-page image row p at ∙ is))),
)
  where
    stays : (last : ℕ) (p : Page) (o : Option Record) → record_of p ≡ o → ((r : Record) → record_of p ≡ Some r → r.sequence ≤ last) → page_until g (Some last) p ≡ p
    stays last p None is early = ap (λ found. cond (is_later last found) (erased_page g) p) is
    stays last p (Some r) is early =
        let le = early r is in
        let not_later : nat_lt last r.sequence ≡ false = grind (arith, nat_tests) in
        ap (λ found. cond (is_later last found) (erased_page g) p) is ∙ ap (λ b. cond b (erased_page g) p) not_later

-- ---- a die that was not collected since

then_mark : (g : Geometry) (last : ℕ) (old new : Image) (row : ℕ) → IsUncollected last old new → get_or (marks (until g (Some last) new)) row None ≡ get_or (marks old) row None
then_mark g last old new row h = mark_until g (Some last) new row ∙ by (get_or (marks old) row None) refl
  where
    late : (o : Option Record) → get_or (marks new) row None ≡ o → get_or (marks old) row None ≡ None → record_until (Some last) o ≡ None
    late None is none = refl
    late (Some r) is none =
        let lt = h.late row r none is in
        let later : nat_lt last r.sequence ≡ true = grind (arith, nat_tests) in
        ap (λ b. cond b None (Some r)) later

    by : (o : Option Record) → get_or (marks old) row None ≡ o → record_until (Some last) (get_or (marks new) row None) ≡ o
    by None is = late (get_or (marks new) row None) refl is
    by (Some r) is =
        let p = page_of_mark old row r is in
        let now : get_or (marks new) row None ≡ Some r = mark-page new row p.0 (h.kept row r is ∙ p.1) ∙ p.2 in
        (counted_some last (get_or (marks new) row None) r).1 (now, h.early row r is)

then_page : (g : Geometry) (last : ℕ) (old new : Image) (row : ℕ) (r : Record) → IsUncollected last old new → get_or (marks old) row None ≡ Some r → slice_get (until g (Some last) new) row ≡ slice_get old row
then_page g last old new row r h is =
    let p = page_of_mark old row r is in
    let at : slice_get new row ≡ Some p.0 = h.kept row r is ∙ p.1 in
    let counts : record_until (Some last) (record_of p.0) ≡ Some r = (counted_some last (record_of p.0) r).1 (p.2, h.early row r is) in
    until_page g (Some last) new row p.0 at ∙ (ap Some (counted_page g (Some last) p.0 r counts) ∙ sym p.1)

then_newest : (g : Geometry) (last : ℕ) (old new : Image) (n : ℕ) → IsUncollected last old new → newest (marks (until g (Some last) new)) (key.Sector n) ≡ newest (marks old) (key.Sector n)
then_newest g last old new n h =
    let now = marks (until g (Some last) new) in
    let same = λ (row : ℕ). sequence_at-same now (marks old) (key.Sector n) row (then_mark g last old new row h) in
    newest_same now (marks old) (key.Sector n) (λ row is. IsGreatest-same _ _ row (λ q. sym (same q)) is) (λ row is. IsGreatest-same _ _ row same is)

pub then_law : ThenLaw
then_law g last old new h = array-same g old (until g (Some last) new) (λ n.
    sector-same g old (until g (Some last) new) n (then_newest g last old new n h) (λ row is.
    let found = newest-record (marks old) (key.Sector n) row is in
    then_page g last old new row found.0 h found.1))

-- ---- there is such a die

pub later_page_law : LaterPageLaw
later_page_law last old row p r within free is late early = record {
  size = length-set old row p;
  early = early;
  kept = λ at its mark. elim (cases_eq at row) [
    | inl same ↦ absurd (let clash : Some its ≡ None = sym mark ∙ (ap (λ k. get_or (marks old) k None) same ∙ free) in cc)
    | inr ne ↦ slice_get-set_other old row at p ne
  ];
  late = λ at its none mark. elim (cases_eq at row) [
    | inl same ↦
        (let here : get_or (marks (set old row p)) at None ≡ Some r = ap (λ k. get_or (marks (set old row p)) k None) same ∙ (mark-page (set old row p) row p (slice_get-set_same old row p within) ∙ is) in
        let both : Some its ≡ Some r = sym mark ∙ here in
        let its_is : r ≡ its = cc in
        subst (λ (x : Record). last < x.sequence) its_is late)
    | inr ne ↦ absurd (let clash : Some its ≡ None = sym mark ∙ (mark-same (set old row p) old at (slice_get-set_other old row at p ne) ∙ none) in cc)
  ];
}
