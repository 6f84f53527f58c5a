-- What pages say of themselves that are neither erased nor sound.
use Rattle.std.proofs.Common.{◌≡◌, ◌≢◌, inl, inr, ℕ, zero, suc, ◌+◌, ◌-◌, ◌<◌, ◌≤◌, List, [], ◌∷◌, ◌++◌, length, length-append, get_or, map, set, take, drop, Option, Some, None}
use Rattle.std.proofs.Common.{All, Bool, true, false, refl, sym, ap, ◌∙◌, subst, arith, slice_get, cond}
use Rattle.std.specs.Prelude.{◌==◌, ◌&&◌, ◌||◌, nat_le, nat_lt, slice_index, slice_range, option_map, Contains}
use Rattle.std.proofs.Math.Seq.{take-length}
use Rattle.std.proofs.lemmas.Bool.{cases_Bool, cases_eq, cases_lt, lt-ltb, ltb-true}
use Rattle.std.proofs.lemmas.List.{append_assoc, take-append-le, drop-append-le, drop_at, length-append, length-drop, get_or_append_left, append-nil, get_or-map, get_or-set_same, get_or-set_other, get_or_default, length-map, length-set, same_lists}
use Rattle.std.proofs.lemmas.List.Elements.{Contains-append_cases, Contains-append_left, Contains-append_right, Contains-get_or, Contains-push, Contains-push_cases}
use Rattle.std.proofs.lemmas.Option.{slice_get_within}
use Rattle.byteorder.specs.Endian.{little_number}
use Rattle.page_layout.specs.declared.geometry.Geometry.{Geometry}
use Rattle.page_layout.specs.declared.record.Record.{Record}
use Rattle.page_layout.specs.declared.record.Key.{Key}
use Rattle.page_layout.specs.declared.newest.Latest.{Latest}
use Rattle.page_layout.specs.declared.newest.Latest.TheVariants as latest
use Rattle.page_layout.specs.Geometry.{row_count}
use Rattle.page_layout.specs.Greatest.{best}
use Rattle.page_layout.specs.Page.{Page, Image}
use Rattle.page_layout.specs.Sound.{has_seal, is_filled, kind_from, record_of, seal_end, seal_size, spelled}
use Rattle.page_layout.specs.Key.{key_of}
use Rattle.page_layout.specs.Newest.{latest_below, sequence_at}
use Rattle.page_layout.specs.Live.{IsKeyOf}
use Rattle.page_layout.specs.Array.{marks}
use Rattle.page_layout.specs.Block.{is_broken}
use Rattle.page_layout.proofs.ArrayLemmas.{length-marks}
use Rattle.page_layout.proofs.GreatestLemmas.{Says, best_says}
use Rattle.page_layout.proofs.NewestLemmas.{sequence_at_past}
use Rattle.page_layout.proofs.RecordLemmas.{sound_is}
use Rattle.image_check.specs.Survey.{index_of}
use Rattle.image_check.proofs.SurveyLemmas.{index_within}
use Rattle.lab_dump.specs.Count.{is_outside}
use Rattle.lab_dump.specs.declared.said.SaidPage.{SaidPage}
use Rattle.lab_dump.specs.declared.trace.Trace.{Trace}
use Rattle.lab_dump.specs.declared.trace.Trace.TheVariants.{Never, Once, Tied}
use Rattle.lab_dump.specs.Trace.{TellsTrace, is_before}
use Rattle.lab_dump.specs.Doubting.{HasTraces}
use Rattle.lab_dump.specs.Said.{IsBesideSeal, IsSpelled, NewerLaw, OtherSealLaw, SaidLaw, SpelledLaw, WasLaw, is_after, is_newer, judged, of_die, said_below, said_by, said_in_row, said_of, says}
use Rattle.lab_dump.proofs.BadLemmas.{in_range, within_range}

-- ---- what a spare area spells, but for its seal

abbrev pub spelled_by : (first : List ℕ) (version code n : ℕ) (gap rest number sequence wear : List ℕ) → Option Record
spelled_by first version code n gap rest number sequence wear =
    cond (((is_filled first && ((version == 1) || ((version == 2) && nat_le 40 n))) && is_filled gap) && is_filled rest)
    (option_map (λ k. record { kind = k; number = little_number 4 number; sequence = little_number 8 sequence; wear = little_number 4 wear }) (kind_from code)) None

spelled_parts : (s : List ℕ) → spelled s ≡ spelled_by (take 2 s) (slice_index s 2) (slice_index s 3) (length s) (slice_range s 20 24) (slice_range s (seal_end s) (length s)) (slice_range s 4 8) (slice_range s 8 16) (slice_range s 16 20)
unfolding spelled
spelled_parts s = refl

range_head : (head xs : List ℕ) (a b : ℕ) → a ≤ b → b ≤ length head → slice_range (head ++ xs) a b ≡ slice_range head a b
range_head head xs a b le within =
    let here : b - a ≤ length (drop a head) = omega (arith, length-drop a head) in
    ap (take (b - a)) (drop-append-le a head xs (omega arith)) ∙ take-append-le (b - a) (drop a head) xs here

tail_is : (head seal rest : List ℕ) (size : ℕ) → length head ≡ 24 → length seal ≡ size → slice_range (head ++ (seal ++ rest)) (24 + size) (length (head ++ (seal ++ rest))) ≡ rest
tail_is head seal rest size h k =
    let both : length (head ++ seal) ≡ 24 + size = omega (arith, length-append head seal) in
    let left : length (head ++ (seal ++ rest)) - (24 + size) ≡ length rest = omega (arith, length-append head (seal ++ rest), length-append seal rest) in
    rw (left, ← append_assoc head seal rest, drop_at (head ++ seal) rest (24 + size) both, take-length rest)

-- by its head, its length and what stands behind the seal
pub spelled_head : (head seal rest : List ℕ) → length head ≡ 24 → length seal ≡ seal_size (slice_index head 2)
    → spelled (head ++ (seal ++ rest)) ≡ spelled_by (take 2 head) (slice_index head 2) (slice_index head 3) (24 + seal_size (slice_index head 2) + length rest) (slice_range head 20 24) rest (slice_range head 4 8) (slice_range head 8 16) (slice_range head 16 20)
spelled_head head seal rest h k =
    let xs : List ℕ = seal ++ rest in
    let s : List ℕ = head ++ xs in
    let version : slice_index s 2 ≡ slice_index head 2 = get_or_append_left head xs 0 2 (omega arith) in
    let first : take 2 s ≡ take 2 head = take-append-le 2 head xs (omega arith) in
    let code : slice_index s 3 ≡ slice_index head 3 = get_or_append_left head xs 0 3 (omega arith) in
    let size : length s ≡ 24 + seal_size (slice_index head 2) + length rest = omega (arith, length-append head xs, length-append seal rest) in
    let gap : slice_range s 20 24 ≡ slice_range head 20 24 = range_head head xs 20 24 (omega arith) (omega arith) in
    let tail : slice_range s (seal_end s) (length s) ≡ rest = ap (λ v. slice_range s (24 + seal_size v) (length s)) version ∙ tail_is head seal rest (seal_size (slice_index head 2)) h k in
    let number : slice_range s 4 8 ≡ slice_range head 4 8 = range_head head xs 4 8 (omega arith) (omega arith) in
    let sequence : slice_range s 8 16 ≡ slice_range head 8 16 = range_head head xs 8 16 (omega arith) (omega arith) in
    let wear : slice_range s 16 20 ≡ slice_range head 16 20 = range_head head xs 16 20 (omega arith) (omega arith) in
    spelled_parts s ∙ same_parts _ _ first _ _ version _ _ code _ _ size _ _ gap _ _ tail _ _ number _ _ sequence _ _ wear
  where
    same_parts : (f f' : List ℕ) → f ≡ f' → (v v' : ℕ) → v ≡ v' → (c c' : ℕ) → c ≡ c' → (n n' : ℕ) → n ≡ n' → (g g' : List ℕ) → g ≡ g' → (r r' : List ℕ) → r ≡ r' → (x x' : List ℕ) → x ≡ x' → (y y' : List ℕ) → y ≡ y'
        → (z z' : List ℕ) → z ≡ z' → spelled_by f v c n g r x y z ≡ spelled_by f' v' c' n' g' r' x' y' z'
    same_parts f f' a v v' b c c' d n n' e g g' h r r' i x x' j y y' k z z' l = cc

same_beside : (was now : List ℕ) → IsBesideSeal was now → spelled now ≡ spelled was
same_beside was now h =
    ap spelled h.now_is ∙ (spelled_head h.head h.other h.rest h.head_size h.other_size_is ∙ (sym (spelled_head h.head h.seal h.rest h.head_size h.seal_size_is) ∙ ap spelled (sym h.was_is)))

sound_spells : (p : Page) (r : Record) → record_of p ≡ Some r → spelled p.spare ≡ Some r
sound_spells p r is = by (has_seal p) (sym (sound_is p) ∙ is)
  where
    by : (b : Bool) → cond b (spelled p.spare) None ≡ Some r → spelled p.spare ≡ Some r
    by true e = e
    by false e = absurd (let clash : None ≡ Some r = e in cc)

says_broken : (g : Geometry) (p : Page) (b : Bool) → is_broken p ≡ b → says g p ≡ cond b (of_die g (spelled p.spare)) None
unfolding says
says_broken g p b e = ap (λ t. cond t (of_die g (spelled p.spare)) None) e

of_die_in : (g : Geometry) (r : Record) → IsKeyOf g (key_of r) → of_die g (Some r) ≡ Some r
of_die_in g r of = ap (λ b. cond b None (Some r)) (within_range g r of)

pub other_seal_law : OtherSealLaw
other_seal_law head seal other rest size seal_is other_is = record {
  head = head;
  seal = seal;
  other = other;
  rest = rest;
  head_size = size;
  seal_size_is = seal_is;
  other_size_is = other_is;
  was_is = refl;
  now_is = refl;
}

pub was_law : WasLaw
was_law g was now r is of beside broken =
    says_broken g now true broken ∙ (ap (of_die g) (same_beside was.spare now.spare beside ∙ sound_spells was r is) ∙ of_die_in g r of)

of_die_is : (g : Geometry) (o : Option Record) (r : Record) → of_die g o ≡ Some r → (o ≡ Some r) × IsKeyOf g (key_of r)
of_die_is g o r e = by (is_outside g o) refl e
  where
    by : (b : Bool) → is_outside g o ≡ b → cond b None o ≡ Some r → (o ≡ Some r) × IsKeyOf g (key_of r)
    by true outside h = absurd (let clash : None ≡ Some r = h in cc)
    by false outside h = (h, in_range g r (ap (is_outside g) (sym h) ∙ outside))

pub says_is : (g : Geometry) (p : Page) (r : Record) → says g p ≡ Some r → IsSpelled g p r
says_is g p r e = elim (cases_Bool (is_broken p)) [
  | inl broken ↦ (let found = of_die_is g (spelled p.spare) r (sym (says_broken g p true broken) ∙ e) in record { broken = broken; spelled_is = found.0; of_die = found.1 })
  | inr whole ↦ absurd (let clash : None ≡ Some r = sym (says_broken g p false whole) ∙ e in cc)
]

pub spelled_law : SpelledLaw
spelled_law g p r = (says_is g p r, λ h. says_broken g p true h.broken ∙ (ap (of_die g) h.spelled_is ∙ of_die_in g r h.of_die))

-- ---- newer

pub none_is : {o : Option ℕ} {s : ℕ} → o ≡ None → o ≡ Some s → ⊥
none_is a b = cc

pub same_of : {o : Option ℕ} {s t : ℕ} → o ≡ Some s → o ≡ Some t → s ≡ t
same_of a b = cc

pub past : (ms : List (Option Record)) (key : Key) (q s : ℕ) → sequence_at ms key q ≡ Some s → q < length ms
past ms key q s e = elim (cases_lt q (length ms)) [
  | inl l ↦ l
  | inr le ↦ absurd (none_is ((sequence_at_past ms key).all q le) e)
]

-- each page that is known has an earlier sequence
pub before_all : (ms : List (Option Record)) (key : Key) (n : ℕ) (l : Latest) → Says (sequence_at ms key) (length ms) l → is_after n l ≡ true → (row s : ℕ) → sequence_at ms key row ≡ Some s → s < n
before_all ms key n latest.Never d e row s at = absurd (none_is (d.all row (past ms key row s at)) at)
before_all ms key n (latest.Once place t) d e row s at = elim (cases_eq row place) [
  | inl same ↦ (let value : t ≡ s = same_of d.here (ap (sequence_at ms key) (sym same) ∙ at) in let less = ltb-true t n e in omega arith)
  | inr ne ↦ (let lt = d.others row s (past ms key row s at) ne at in let less = ltb-true t n e in omega arith)
]
before_all ms key n (latest.Tied a b t) d e row s at = (let le = d.all row s (past ms key row s at) at in let less = ltb-true t n e in omega arith)

pub after_all : (ms : List (Option Record)) (key : Key) (n : ℕ) (l : Latest) → Says (sequence_at ms key) (length ms) l → ((row s : ℕ) → sequence_at ms key row ≡ Some s → s < n) → is_after n l ≡ true
after_all ms key n latest.Never d h = refl
after_all ms key n (latest.Once place t) d h = lt-ltb t n (h place t d.here)
after_all ms key n (latest.Tied a b t) d h = lt-ltb t n (h a t d.at_first)

pub newer_law : NewerLaw
unfolding is_newer latest_below
newer_law image r =
    let ms = marks image in
    let f = sequence_at ms (key_of r) in
    let size : length ms ≡ length image = length-marks image in
    let told : Says f (length ms) (best f (length image)) = subst (λ n. Says f (length ms) (best f n)) size (best_says f (length ms)) in (
      before_all ms (key_of r) r.sequence (best f (length image)) told,
      after_all ms (key_of r) r.sequence (best f (length image)) told,
    )

-- ---- the list

-- the same page, newer or not
abbrev with_newer : SaidPage → Bool → SaidPage
with_newer y b = record { row = y.row; says = y.says; newer = b }

pub below_more : (g : Geometry) (image : Image) (row : ℕ) → said_below g image (row + 1) ≡ said_below g image row ++ said_in_row g row (slice_get image row)
unfolding said_below
below_more g image row = let next : row + 1 ≡ suc row = omega arith in ap (said_below g image) next

pub below_none : (g : Geometry) (image : Image) → said_below g image 0 ≡ []
unfolding said_below
below_none g image = refl

-- a page of the list that is known before the end
pub record IsNoted (g : Geometry) (image : Image) (x : SaidPage) : Type 0 where
  pub page : Page
  pub at : slice_get image x.row ≡ Some page
  pub says_is : says g page ≡ Some x.says
  pub newer_is : x.newer ≡ false

nothing : (x : SaidPage) → Contains [] x → ⊥
nothing x h = omega (arith, h.1)

noted_in_row : (g : Geometry) (image : Image) (row : ℕ) (x : SaidPage) → Contains (said_in_row g row (slice_get image row)) x → IsNoted g image x × (x.row ≡ row)
noted_in_row g image row x h = at_row (slice_get image row) refl h
  where
    at_page : (p : Page) (o : Option Record) → slice_get image row ≡ Some p → says g p ≡ o → Contains (said_by row o) x → IsNoted g image x × (x.row ≡ row)
    at_page p None at is h = absurd (nothing x h)
    at_page p (Some r) at is h = elim (Contains-push_cases [] (record { row = row; says = r; newer = false }) x h) [
      | inl none ↦ absurd (nothing x none)
      | inr same ↦
          let row_is : x.row ≡ row = sym (ap (λ (y : SaidPage). y.row) same) in (
            record { page = p; at = ap (slice_get image) row_is ∙ at; says_is = is ∙ ap (λ (y : SaidPage). Some y.says) same; newer_is = sym (ap (λ (y : SaidPage). y.newer) same) },
            row_is,
          )
    ]

    at_row : (o : Option Page) → slice_get image row ≡ o → Contains (said_in_row g row o) x → IsNoted g image x × (x.row ≡ row)
    at_row None at h = absurd (nothing x h)
    at_row (Some p) at h = at_page p (says g p) at refl h

pub noted_below : (g : Geometry) (image : Image) (rows : ℕ) (x : SaidPage) → Contains (said_below g image rows) x → IsNoted g image x
unfolding said_below
noted_below g image zero x h = absurd (nothing x h)
noted_below g image (suc row) x h = elim (Contains-append_cases (said_below g image row) (said_in_row g row (slice_get image row)) x h) [
  | inl before ↦ noted_below g image row x before
  | inr here ↦ (noted_in_row g image row x here).0
]

in_its_row : (g : Geometry) (image : Image) (x : SaidPage) → IsNoted g image x → Contains (said_in_row g x.row (slice_get image x.row)) x
in_its_row g image x h =
    let same : said_by x.row (Some x.says) ≡ x ∷ [] = ap (λ b. with_newer x b ∷ []) (sym h.newer_is) in
    let is : said_in_row g x.row (slice_get image x.row) ≡ x ∷ [] = ap (said_in_row g x.row) h.at ∙ (ap (said_by x.row) h.says_is ∙ same) in
    subst (λ xs. Contains xs x) (sym is) (Contains-push [] x)

all_below : (g : Geometry) (image : Image) (rows : ℕ) (x : SaidPage) → IsNoted g image x → x.row < rows → Contains (said_below g image rows) x
unfolding said_below
all_below g image zero x h within = absurd (omega arith)
all_below g image (suc row) x h within = elim (cases_eq x.row row) [
  | inl same ↦ Contains-append_right (said_below g image row) (said_in_row g row (slice_get image row)) x (subst (λ r. Contains (said_in_row g r (slice_get image r)) x) same (in_its_row g image x h))
  | inr ne ↦ Contains-append_left (said_below g image row) (said_in_row g row (slice_get image row)) x (all_below g image row x h (omega arith))
]

pub said_law : SaidLaw
unfolding said_of
said_law g image x = (
  λ h.
      let xs = said_below g image (length image) in
      let inside : h.0 < length xs = omega (arith, h.1, length-map xs (judged image)) in
      let y : SaidPage = get_or xs h.0 x in
      let is : judged image y ≡ x = sym (get_or-map (judged image) xs h.0 x x inside) ∙ h.2 in
      let noted = noted_below g image (length image) y (Contains-get_or xs h.0 x inside) in
      let row_is : y.row ≡ x.row = ap (λ (z : SaidPage). z.row) is in
      let says_same : y.says ≡ x.says = ap (λ (z : SaidPage). z.says) is in
      record {
        page = noted.page;
        at = ap (slice_get image) (sym row_is) ∙ noted.at;
        says_is = noted.says_is ∙ ap Some says_same;
        newer_is = sym (ap (λ (z : SaidPage). z.newer) is) ∙ ap (is_newer image) says_same;
      },
  λ h.
      let xs = said_below g image (length image) in
      let y : SaidPage = record { row = x.row; says = x.says; newer = false } in
      let noted : IsNoted g image y = record { page = h.page; at = h.at; says_is = h.says_is; newer_is = refl } in
      let place = all_below g image (length image) y noted (slice_get_within image x.row h.page h.at) in
      let inside : place.0 < length (map (judged image) xs) = omega (arith, place.1, length-map xs (judged image)) in
      let is : judged image y ≡ x = ap (λ b. with_newer x b) (sym h.newer_is) in
      (place.0, inside, get_or-map (judged image) xs place.0 y x place.1 ∙ (ap (judged image) place.2 ∙ is)),
)

-- ---- one page more

pub note_none : (g : Geometry) (image : Image) (row : ℕ) (p : Page) (said : List SaidPage) → said ≡ said_below g image row → slice_get image row ≡ Some p → says g p ≡ None → said ≡ said_below g image (row + 1)
note_none g image row p said before at none =
    let here : said_in_row g row (slice_get image row) ≡ [] = ap (said_in_row g row) at ∙ ap (said_by row) none in
    before ∙ (sym (append-nil (said_below g image row)) ∙ (ap (λ xs. said_below g image row ++ xs) (sym here) ∙ sym (below_more g image row)))

pub note_some : (g : Geometry) (image : Image) (row : ℕ) (p : Page) (r : Record) (said : List SaidPage) → said ≡ said_below g image row → slice_get image row ≡ Some p → says g p ≡ Some r
    → said ++ record { row = row; says = r; newer = false } ∷ [] ≡ said_below g image (row + 1)
note_some g image row p r said before at some =
    let here : said_in_row g row (slice_get image row) ≡ said_by row (Some r) = ap (said_in_row g row) at ∙ ap (said_by row) some in
    ap (λ xs. xs ++ said_by row (Some r)) before ∙ (ap (λ xs. said_below g image row ++ xs) (sym here) ∙ sym (below_more g image row))

pub says_whole : (g : Geometry) (p : Page) → is_broken p ≡ false → says g p ≡ None
says_whole g p whole = says_broken g p false whole

pub says_so : (g : Geometry) (p : Page) → is_broken p ≡ true → says g p ≡ of_die g (spelled p.spare)
says_so g p broken = says_broken g p true broken

pub rows_more : (row : ℕ) (said : List SaidPage) → All (λ x. x.row < row) said → All (λ x. x.row < row + 1) said
rows_more row said h i d l = let before = h i d l in omega arith

pub pushed_few : (old new : List SaidPage) (x : SaidPage) → new ≡ old ++ x ∷ [] → length new ≤ length old + 1
pushed_few old new x e = omega (arith, ap (λ (xs : List SaidPage). length xs) e, length-append old (x ∷ []))

-- ---- in the end

tells_after : (s : ℕ) (t : Trace) (l : Latest) → TellsTrace t l → is_before t s ≡ is_after s l
tells_after s Never latest.Never h = refl
tells_after s (Once at kept) (latest.Once row t) h = ap (λ k. nat_lt k s) h.1
tells_after s (Tied kept) (latest.Tied a b t) h = ap (λ k. nat_lt k s) h
tells_after s _ _ h = absurd h

pub newer_told : (g : Geometry) (image : Image) (traces : List Trace) (r : Record) (i : ℕ) (d : Trace) → length image ≡ row_count g → HasTraces g (marks image) (row_count g) traces → IsKeyOf g (key_of r) → i ≡ index_of g (key_of r)
    → is_before (get_or traces i d) r.sequence ≡ is_newer image r
unfolding is_newer
newer_told g image traces r i d size h of at =
    let within : i < length traces = omega (arith, h.size, index_within g (key_of r) of) in
    let read : get_or traces i d ≡ get_or traces (index_of g (key_of r)) Never = get_or_default traces i d Never within ∙ ap (λ j. get_or traces j Never) at in
    ap (λ t. is_before t r.sequence) read ∙ (tells_after r.sequence (get_or traces (index_of g (key_of r)) Never) (latest_below (marks image) (key_of r) (row_count g)) (h.at (key_of r) of)
    ∙ ap (λ n. is_after r.sequence (latest_below (marks image) (key_of r) n)) (sym size))

pub said_key : (g : Geometry) (image : Image) (rows i : ℕ) (d : SaidPage) → i < length (said_below g image rows) → IsKeyOf g (key_of (get_or (said_below g image rows) i d).says)
said_key g image rows i d within =
    let noted = noted_below g image rows (get_or (said_below g image rows) i d) (Contains-get_or (said_below g image rows) i d within) in
    (says_is g noted.page (get_or (said_below g image rows) i d).says noted.says_is).of_die

-- of the first i pages it is noted whether they are newer
pub record AreJudged (g : Geometry) (traces : List Trace) (i : ℕ) (old new : List SaidPage) : Type 0 where
  pub size : length new ≡ length old
  pub done : (image : Image) (k : ℕ) (d : SaidPage) → length image ≡ row_count g → HasTraces g (marks image) (row_count g) traces → old ≡ said_below g image (row_count g) → k < i → k < length old
      → get_or new k d ≡ judged image (get_or old k d)
  pub rest : (k : ℕ) (d : SaidPage) → i ≤ k → get_or new k d ≡ get_or old k d

pub judged_start : (g : Geometry) (traces : List Trace) (said : List SaidPage) → AreJudged g traces 0 said said
judged_start g traces said = record { size = refl; done = λ image k d size h is l within. absurd (omega arith); rest = λ k d l. refl }

pub judged_more : (g : Geometry) (traces : List Trace) (i : ℕ) (old new : List SaidPage) (page : SaidPage) (b : Bool) → AreJudged g traces i old new → i < length new → page ≡ get_or new i page
    → ((image : Image) → length image ≡ row_count g → HasTraces g (marks image) (row_count g) traces → IsKeyOf g (key_of page.says) → b ≡ is_newer image page.says)
    → AreJudged g traces (i + 1) old (set new i (record { row = page.row; says = page.says; newer = b }))
judged_more g traces i old new page b h within read told = record {
  size = length-set new i (with_newer page b) ∙ h.size;
  done = λ image k e size t is l inside. elim (cases_eq k i) [
    | inl same ↦
        let was : page ≡ get_or old i e = read ∙ (get_or_default new i page e within ∙ h.rest i e (omega arith)) in
        let few : i < length (said_below g image (row_count g)) = omega (arith, h.size, ap (λ (xs : List SaidPage). length xs) is) in
        let key : IsKeyOf g (key_of (get_or old i e).says) = subst (λ (xs : List SaidPage). IsKeyOf g (key_of (get_or xs i e).says)) (sym is) (said_key g image (row_count g) i e few) in
        let newer : b ≡ is_newer image (get_or old i e).says = told image size t (subst (λ (y : SaidPage). IsKeyOf g (key_of y.says)) (sym was) key) ∙ ap (λ (y : SaidPage). is_newer image y.says) was in
        ap (λ j. get_or (set new i (with_newer page b)) j e) same
        ∙ (get_or-set_same new i (with_newer page b) e within ∙ (ap (λ (y : SaidPage). with_newer y b) was ∙ (ap (with_newer (get_or old i e)) newer ∙ ap (λ j. judged image (get_or old j e)) (sym same))))
    | inr ne ↦ get_or-set_other new i k (with_newer page b) e ne ∙ h.done image k e size t is (below k i l ne) inside
  ];
  rest = λ k e l. get_or-set_other new i k (with_newer page b) e (λ same. absurd (omega arith)) ∙ h.rest k e (omega arith);
}
  where
    below : (k i : ℕ) → k < i + 1 → k ≢ i → k < i
    below k i l ne = elim (cases_lt k i) [ inl less ↦ less | inr more ↦ absurd (ne (omega arith)) ]

pub judged_all : (g : Geometry) (traces : List Trace) (i : ℕ) (image : Image) (old new : List SaidPage) → AreJudged g traces i old new → length old ≤ i → length image ≡ row_count g → HasTraces g (marks image) (row_count g) traces
    → old ≡ said_below g image (row_count g) → new ≡ said_of g image
unfolding said_of
judged_all g traces i image old new h whole size t is =
    let all : old ≡ said_below g image (length image) = is ∙ ap (said_below g image) (sym size) in
    same_lists new (map (judged image) old) (h.size ∙ sym (length-map old (judged image))) (λ k d l.
    let inside : k < length old = omega (arith, h.size) in
    h.done image k d size t is (omega arith) inside ∙ sym (get_or-map (judged image) old k d d inside)) ∙ ap (map (judged image)) all
