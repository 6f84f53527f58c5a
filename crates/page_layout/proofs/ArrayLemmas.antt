-- What the operations of a die do to the array of sectors.
use Rattle.std.proofs.Common.{◌≡◌, ◌≢◌, ◌⊎◌, inl, inr, ℕ, ◌+◌, ◌/◌, ◌<◌, zero, suc, List, [], ◌∷◌, length, map, get_or, set, Option, Some, None}
use Rattle.std.proofs.Common.{refl, ap, sym, ◌∙◌, subst, arith}
use Rattle.std.specs.Prelude.{slice_get, option_map, IsSome, ◌↔◌}
use Rattle.std.specs.List.{range_with_len}
use Rattle.std.proofs.lemmas.Bool.{cases_eq, cases_lt}
use Rattle.std.proofs.lemmas.List.FromFn.{length-map-range_with_len, get_or-map-range_with_len}
use Rattle.std.proofs.lemmas.List.{ext_get_or, map-set, length-map, get_or-set_same, get_or-set_other, get_or_past}
use Rattle.std.proofs.lemmas.Option.{slice_get-get_or, slice_get_past, slice_get-map}
use Rattle.page_layout.specs.declared.record.Record.{Record}
use Rattle.page_layout.specs.declared.record.Kind.{Kind}
use Rattle.page_layout.specs.declared.record.Kind.TheVariants as kind
use Rattle.page_layout.specs.declared.record.Key.{Key}
use Rattle.page_layout.specs.declared.record.Key.TheVariants.{Sector}
use Rattle.page_layout.specs.declared.geometry.Geometry.{Geometry}
use Rattle.page_layout.specs.Page.{Page, Image, body_of, body_at}
use Rattle.page_layout.specs.Sound.{record_of}
use Rattle.page_layout.specs.Key.{key_of}
use Rattle.page_layout.specs.Newest.{newest, sequence_at, sequence_of, latest_below, AreTied, IsNewest}
use Rattle.page_layout.specs.Greatest.{step, best, greatest, place_of}
use Rattle.page_layout.specs.declared.newest.Latest.{Latest}
use Rattle.page_layout.specs.declared.newest.Latest.TheVariants.{Never, Once, Tied}
use Rattle.page_layout.proofs.GreatestLemmas.{best-suc, best_within, tied_shares, untied}
use Rattle.page_layout.specs.OneArray.{AreDistinct, AreBelow}
use Rattle.page_layout.specs.Live.{IsKeyOf}
use Rattle.page_layout.specs.Array.{marks, zeros, content, content_of_kind, content_of_record, content_at, sector_of, array_of, ReadsAs, IsArray, HasOneArray}
use Rattle.page_layout.specs.Change.{IsUnsoundAt, LosesIn, HoldsNone}
use Rattle.page_layout.proofs.NewestLemmas.{newest-record, newest-is, newest_from, newest_some, newest_programmed, newest_other_key, newest_forgets}
use Rattle.page_layout.proofs.NewestLemmas.{set_unsound, Forgets, sequence_at_past}

-- ---- marks

pub marks-set : (image : Image) (row : ℕ) (p : Page) → marks (set image row p) ≡ set (marks image) row (record_of p)
unfolding marks
marks-set image row p = map-set record_of image row p

pub length-marks : (image : Image) → length (marks image) ≡ length image
unfolding marks
length-marks image = simp length-map

pub marks-same : (a b : Image) (row : ℕ) → slice_get a row ≡ slice_get b row → slice_get (marks a) row ≡ slice_get (marks b) row
unfolding marks
marks-same a b row same = slice_get-map record_of a row ∙ (rw same (sym (slice_get-map record_of b row)))

or_none : Option (Option Record) → Option Record
or_none None = None
or_none (Some m) = m

mark_at : (ms : List (Option Record)) (row : ℕ) → get_or ms row None ≡ or_none (slice_get ms row)
unfolding or_none
mark_at ms row = elim (cases_lt row (length ms)) [
  | inl l ↦ sym (ap or_none (slice_get-get_or ms row None l))
  | inr ge ↦ get_or_past ms row None ge ∙ sym (ap or_none (slice_get_past ms row ge))
]

pub mark-same : (a b : Image) (row : ℕ) → slice_get a row ≡ slice_get b row → get_or (marks a) row None ≡ get_or (marks b) row None
mark-same a b row same = mark_at (marks a) row ∙ (ap or_none (marks-same a b row same) ∙ sym (mark_at (marks b) row))

-- ---- the data area of a row

pub body_page : (image : Image) (row : ℕ) (p : Page) → slice_get image row ≡ Some p → body_at image row ≡ p.body
unfolding body_at
body_page image row p is = ap body_of is

pub body_same : (a b : Image) (row : ℕ) → slice_get a row ≡ slice_get b row → body_at a row ≡ body_at b row
unfolding body_at
body_same a b row same = ap body_of same

-- ---- a sector, the array

pub sector-same : (g : Geometry) (old new : Image) (n : ℕ) → newest (marks new) (Sector n) ≡ newest (marks old) (Sector n) → ((row : ℕ) → newest (marks old) (Sector n) ≡ Some row → slice_get new row ≡ slice_get old row) → sector_of g new n ≡ sector_of g old n
unfolding sector_of
sector-same g old new n same kept = rw same (at_row (newest (marks old) (Sector n)) refl)
  where
    at_row : (o : Option ℕ) → newest (marks old) (Sector n) ≡ o → content_at g new o ≡ content_at g old o
    at_row None is = refl
    at_row (Some row) is = ap (content g) (kept row is)

map_same : {A B : Type 0} (f h : A → B) (xs : List A) → ((x : A) → f x ≡ h x) → map f xs ≡ map h xs
map_same f h [] same = refl
map_same f h (x ∷ xs) same = let head = same x in let tail = map_same f h xs same in cc

pub array-same : (g : Geometry) (old new : Image) → ((n : ℕ) → sector_of g new n ≡ sector_of g old n) → array_of g new ≡ array_of g old
unfolding array_of
array-same g old new same = map_same (sector_of g new) (sector_of g old) (range_with_len 0 g.sectors) same

-- ---- a page is programmed

pub slice_get-set_other : {A : Type 0} (xs : List A) (i j : ℕ) (y : A) → j ≢ i → slice_get (set xs i y) j ≡ slice_get xs j
slice_get-set_other [] i j y ne = refl
slice_get-set_other (x ∷ xs) zero zero y ne = absurd (ne refl)
slice_get-set_other (x ∷ xs) zero (suc j) y ne = refl
slice_get-set_other (x ∷ xs) (suc i) zero y ne = refl
slice_get-set_other (x ∷ xs) (suc i) (suc j) y ne = slice_get-set_other xs i j y (λ e. ne (ap suc e))

pub slice_get-set_same : {A : Type 0} (xs : List A) (i : ℕ) (y : A) → i < length xs → slice_get (set xs i y) i ≡ Some y
slice_get-set_same [] i y l = absurd (omega arith)
slice_get-set_same (x ∷ xs) zero y l = refl
slice_get-set_same (x ∷ xs) (suc i) y l = slice_get-set_same xs i y (omega arith)

-- the newest page of a key is another than one with no sound record
pub newest-other : (image : Image) (row r : ℕ) (key : Key) → IsUnsoundAt image row → newest (marks image) key ≡ Some r → r ≢ row
newest-other image row r key was is same =
    let found = newest-record (marks image) key r is in
    let rec : get_or (marks image) r None ≡ Some found.0 = found.1 in
    let none : get_or (marks image) r None ≡ None = rw same was in
    cc

-- the new page is not sound: the array stays, and so do all keys
pub newest_failed : (image : Image) (row : ℕ) (p : Page) (key : Key) → IsUnsoundAt image row → record_of p ≡ None → newest (marks (set image row p)) key ≡ newest (marks image) key
newest_failed image row p key was none =
    let same : marks (set image row p) ≡ marks image = marks-set image row p ∙ (rw none (set_unsound (marks image) row was)) in
    ap (λ ms. newest ms key) same

pub sector_failed : (g : Geometry) (image : Image) (row : ℕ) (p : Page) (n : ℕ) → IsUnsoundAt image row → record_of p ≡ None → sector_of g (set image row p) n ≡ sector_of g image n
sector_failed g image row p n was none =
    sector-same g image (set image row p) n (newest_failed image row p (Sector n) was none)
    (λ r is. slice_get-set_other image row r p (newest-other image row r (Sector n) was is))

-- the new page is sound, and newer than all of its key
pub record IsNewer (image : Image) (r : Record) : Type 0 where
  pub above : (q s : ℕ) → sequence_at (marks image) (key_of r) q ≡ Some s → s < r.sequence

pub newest_written : (image : Image) (row : ℕ) (p : Page) (r : Record) → row < length image → record_of p ≡ Some r → IsNewer image r → newest (marks (set image row p)) (key_of r) ≡ Some row
newest_written image row p r within is newer =
    let l : row < length (marks image) = rw length-marks within in
    let same : marks (set image row p) ≡ set (marks image) row (Some r) = marks-set image row p ∙ ap (λ m. set (marks image) row m) is in
    rw same (newest_programmed (marks image) row r l newer.above)

pub newest_unwritten : (image : Image) (row : ℕ) (p : Page) (r : Record) (key : Key) → row < length image → IsUnsoundAt image row → record_of p ≡ Some r → key_of r ≢ key → newest (marks (set image row p)) key ≡ newest (marks image) key
newest_unwritten image row p r key within was is ne =
    let l : row < length (marks image) = rw length-marks within in
    let same : marks (set image row p) ≡ set (marks image) row (Some r) = marks-set image row p ∙ ap (λ m. set (marks image) row m) is in
    rw same (newest_other_key (marks image) row r key l was ne)

pub sector_written : (g : Geometry) (image : Image) (row : ℕ) (p : Page) (r : Record) (n : ℕ) → row < length image → record_of p ≡ Some r → IsNewer image r → key_of r ≡ Sector n → sector_of g (set image row p) n ≡ content g (Some p)
unfolding sector_of
sector_written g image row p r n within is newer of_key =
    let now : newest (marks (set image row p)) (Sector n) ≡ Some row = rw (← of_key) (newest_written image row p r within is newer) in
    rw now (ap (content g) (slice_get-set_same image row p within))

pub sector_unwritten : (g : Geometry) (image : Image) (row : ℕ) (p : Page) (r : Record) (n : ℕ) → row < length image → IsUnsoundAt image row → record_of p ≡ Some r → key_of r ≢ Sector n → sector_of g (set image row p) n ≡ sector_of g image n
sector_unwritten g image row p r n within was is ne =
    sector-same g image (set image row p) n (newest_unwritten image row p r (Sector n) within was is ne)
    (λ q at. slice_get-set_other image row q p (newest-other image row q (Sector n) was at))

-- ---- pages of a block are lost

pub forgets : (pages block : ℕ) (old new : Image) → LosesIn pages block old new → Forgets (marks old) (marks new)
forgets pages block old new lost = record {
  at = λ row. elim (cases_eq (row / pages) block) [
    | inl same ↦ elim (lost.inside row same) [
      | inl kept ↦ inl (mark-same new old row kept)
      | inr gone ↦ inr gone
    ]
    | inr other ↦ inl (mark-same new old row (lost.others row other))
  ];
}

pub newest_lost : (pages block : ℕ) (old new : Image) (key : Key) → AreDistinct (marks old) → HoldsNone pages block old → LosesIn pages block old new → newest (marks new) key ≡ newest (marks old) key
newest_lost pages block old new key distinct empty lost =
    newest_forgets (marks old) (marks new) key distinct (forgets pages block old new lost)
    (λ row is. mark-same new old row (lost.others row (empty.none key row is)))

pub sector_lost : (g : Geometry) (pages block : ℕ) (old new : Image) (n : ℕ) → AreDistinct (marks old) → HoldsNone pages block old → LosesIn pages block old new → sector_of g new n ≡ sector_of g old n
sector_lost g pages block old new n distinct empty lost =
    sector-same g old new n (newest_lost pages block old new (Sector n) distinct empty lost)
    (λ row is. lost.others row (empty.none (Sector n) row is))

-- ---- OneArray stays

pub OneArray_lost : (g : Geometry) (pages block : ℕ) (old new : Image) → HasOneArray g old → LosesIn pages block old new → HasOneArray g new
OneArray_lost g pages block old new one lost =
    let f : Forgets (marks old) (marks new) = forgets pages block old new lost in
    let was : (row : ℕ) (r : Record) → get_or (marks new) row None ≡ Some r → get_or (marks old) row None ≡ Some r = λ row r is.
    elim (f.at row) [ inl same ↦ (cc) | inr gone ↦ absurd (cc) ] in
    record {
      distinct = record { apart = λ a b x y p q e. one.distinct.apart a b x y (was a x p) (was b y q) e };
      in_range = λ row r is. one.in_range row r (was row r is);
    }

some_same : (a b : Record) → Some a ≡ Some b → a ≡ b
some_same a b e = cc

pub OneArray_written : (g : Geometry) (image : Image) (row : ℕ) (p : Page) (r : Record) → row < length image → HasOneArray g image → record_of p ≡ Some r → AreBelow (marks image) r.sequence → IsKeyOf g (key_of r) → HasOneArray g (set image row p)
OneArray_written g image row p r within one is below in_range =
    let ms : List (Option Record) = marks (set image row p) in
    let same : ms ≡ set (marks image) row (Some r) = marks-set image row p ∙ ap (λ m. set (marks image) row m) is in
    let l : row < length (marks image) = rw length-marks within in
    let at_row : get_or ms row None ≡ Some r = rw same (get_or-set_same (marks image) row (Some r) None l) in
    let others : (q : ℕ) → q ≢ row → get_or ms q None ≡ get_or (marks image) q None = λ q ne. rw same (get_or-set_other (marks image) row q (Some r) None ne) in
    let new : (q : ℕ) (x : Record) → q ≡ row → get_or ms q None ≡ Some x → x ≡ r = λ q x s e. some_same x r (sym e ∙ (ap (λ k. get_or ms k None) s ∙ at_row)) in
    let old : (q : ℕ) (x : Record) → q ≢ row → get_or ms q None ≡ Some x → x.sequence < r.sequence = λ q x ne e. below.below q x (sym (others q ne) ∙ e) in
    record {
      distinct = record {
        apart = λ a b x y p q e. elim (cases_eq a row) [
          | inl sa ↦ elim (cases_eq b row) [
            | inl sb ↦ omega arith
            | inr nb ↦
                let high : x.sequence ≡ r.sequence = ap (λ z. z.sequence) (new a x sa p) in
                absurd (omega (arith, old b y nb q))
          ]
          | inr na ↦ elim (cases_eq b row) [
            | inl sb ↦
                let high : y.sequence ≡ r.sequence = ap (λ z. z.sequence) (new b y sb q) in
                absurd (omega (arith, old a x na p))
            | inr nb ↦ one.distinct.apart a b x y (sym (others a na) ∙ p) (sym (others b nb) ∙ q) e
          ]
        ];
      };
      in_range = λ q x e. elim (cases_eq q row) [
        | inl s ↦ (let P : Record → Type 0 = λ z. IsKeyOf g (key_of z) in subst P (sym (new q x s e)) in_range)
        | inr ne ↦ one.in_range q x (sym (others q ne) ∙ e)
      ];
    }

-- ---- a scan of the pages by rising row

pub sequence_at-page : (image : Image) (key : Key) (row : ℕ) (p : Page) → slice_get image row ≡ Some p → sequence_at (marks image) key row ≡ sequence_of key (record_of p)
unfolding sequence_at marks or_none
sequence_at-page image key row p is =
    let m : get_or (map record_of image) row None ≡ record_of p = mark_at (map record_of image) row ∙ ap or_none (slice_get-map record_of image row ∙ ap (option_map record_of) is) in
    ap (sequence_of key) m

pub latest_more : (image : Image) (key : Key) (row : ℕ) (p : Page) → slice_get image row ≡ Some p → latest_below (marks image) key (row + 1) ≡ step (latest_below (marks image) key row) row (sequence_of key (record_of p))
unfolding latest_below
latest_more image key row p is = best-suc (sequence_at (marks image) key) row ∙ ap (λ o. step (best (sequence_at (marks image) key) row) row o) (sequence_at-page image key row p is)

pub latest_none : (image : Image) (key : Key) → latest_below (marks image) key 0 ≡ Never
unfolding latest_below best
latest_none image key = refl

-- ---- what the whole scan says

pub latest-newest : (marks : List (Option Record)) (key : Key) → newest marks key ≡ place_of (latest_below marks key (length marks))
unfolding newest latest_below greatest
latest-newest marks key = refl

pub latest-tied : (marks : List (Option Record)) (key : Key) (a b t : ℕ) → latest_below marks key (length marks) ≡ Tied a b t → AreTied marks key a b
unfolding latest_below
latest-tied marks key a b t e = tied_shares (sequence_at marks key) (length marks) a b t (sequence_at_past marks key) e

pub latest-untied : (marks : List (Option Record)) (key : Key) (l : Latest) → latest_below marks key (length marks) ≡ l → ((a b t : ℕ) → l ≢ Tied a b t) → (a b : ℕ) → AreTied marks key a b → ⊥
unfolding latest_below
latest-untied marks key l e no_tie a b shares = untied (sequence_at marks key) (length marks) (sequence_at_past marks key) l e no_tie a b shares

pub latest_within : (marks : List (Option Record)) (key : Key) (n row t : ℕ) → Once row t ≡ latest_below marks key n → row < n
unfolding latest_below
latest_within marks key n row t e = best_within (sequence_at marks key) n row t (sym e)

pub sector_never : (g : Geometry) (image : Image) (n rows : ℕ) → rows ≡ length image → Never ≡ latest_below (marks image) (Sector n) rows → sector_of g image n ≡ zeros g
unfolding sector_of
sector_never g image n rows size e =
    let all : rows ≡ length (marks image) = rw length-marks size in
    let l : latest_below (marks image) (Sector n) (length (marks image)) ≡ Never = rw (← all) (sym e) in
    let none : newest (marks image) (Sector n) ≡ None = latest-newest (marks image) (Sector n) ∙ ap place_of l in
    ap (content_at g image) none

pub sector_once : (g : Geometry) (image : Image) (n rows row t : ℕ) (p : Page) → rows ≡ length image → Once row t ≡ latest_below (marks image) (Sector n) rows → slice_get image row ≡ Some p → sector_of g image n ≡ content g (Some p)
unfolding sector_of
sector_once g image n rows row t p size e is =
    let all : rows ≡ length (marks image) = rw length-marks size in
    let l : latest_below (marks image) (Sector n) (length (marks image)) ≡ Once row t = rw (← all) (sym e) in
    let one : newest (marks image) (Sector n) ≡ Some row = latest-newest (marks image) (Sector n) ∙ ap place_of l in
    ap (content_at g image) one ∙ ap (content g) is

pub scan_tied : (image : Image) (key : Key) (rows a b t : ℕ) → rows ≡ length image → Tied a b t ≡ latest_below (marks image) key rows → AreTied (marks image) key a b
scan_tied image key rows a b t size e =
    let all : rows ≡ length (marks image) = rw length-marks size in
    latest-tied (marks image) key a b t (rw (← all) (sym e))

pub scan_never : (image : Image) (key : Key) (rows : ℕ) → rows ≡ length image → Never ≡ latest_below (marks image) key rows → (a b : ℕ) → AreTied (marks image) key a b → ⊥
scan_never image key rows size e =
    let all : rows ≡ length (marks image) = rw length-marks size in
    latest-untied (marks image) key Never (rw (← all) (sym e)) (λ a b t no_such. cc)

pub scan_once : (image : Image) (key : Key) (rows row t : ℕ) → rows ≡ length image → Once row t ≡ latest_below (marks image) key rows → (a b : ℕ) → AreTied (marks image) key a b → ⊥
scan_once image key rows row t size e =
    let all : rows ≡ length (marks image) = rw length-marks size in
    latest-untied (marks image) key (Once row t) (rw (← all) (sym e)) (λ a b t no_such. cc)

pub mark-page : (image : Image) (row : ℕ) (p : Page) → slice_get image row ≡ Some p → get_or (marks image) row None ≡ record_of p
unfolding marks or_none
mark-page image row p is = mark_at (map record_of image) row ∙ ap or_none (slice_get-map record_of image row ∙ ap (option_map record_of) is)

pub unsound_at : (image : Image) (row : ℕ) (p : Page) → slice_get image row ≡ Some p → record_of p ≡ None → IsUnsoundAt image row
unsound_at image row p is none = mark-page image row p is ∙ none

pub content-record : (g : Geometry) (p : Page) (r : Record) → record_of p ≡ Some r → content g (Some p) ≡ content_of_kind g r.kind p.body
unfolding content
content-record g p r is = ap (λ m. content_of_record g m p.body) is

-- ---- what a sector reads as

marks_none : (image : Image) (row : ℕ) → slice_get image row ≡ None → slice_get (marks image) row ≡ None
unfolding marks
marks_none image row none = slice_get-map record_of image row ∙ ap (option_map record_of) none

-- the page of a record
pub page_of_mark : (image : Image) (row : ℕ) (r : Record) → get_or (marks image) row None ≡ Some r → (p : Page) × (slice_get image row ≡ Some p) × (record_of p ≡ Some r)
unfolding or_none
page_of_mark image row r is = at_row (slice_get image row) refl
  where
    at_row : (o : Option Page) → slice_get image row ≡ o → (p : Page) × (slice_get image row ≡ Some p) × (record_of p ≡ Some r)
    at_row None none =
        let gone : get_or (marks image) row None ≡ None = mark_at (marks image) row ∙ ap or_none (marks_none image row none) in
        absurd (cc)
    at_row (Some p) here = (p, here, sym (mark-page image row p here) ∙ is)

cases_kind : (k : Kind) → (k ≡ kind.Sector) ⊎ (k ≢ kind.Sector)
cases_kind kind.Sector = inl refl
cases_kind kind.Trim = inr (λ e. cc)
cases_kind kind.Translation = inr (λ e. cc)
cases_kind kind.Table = inr (λ e. cc)

content_other : (g : Geometry) (k : Kind) (bytes : List ℕ) → k ≢ kind.Sector → content_of_kind g k bytes ≡ zeros g
content_other g kind.Sector bytes ne = absurd (ne refl)
content_other g kind.Trim bytes ne = refl
content_other g kind.Translation bytes ne = refl
content_other g kind.Table bytes ne = refl

-- the sector of a key whose newest page is in this row, with this record
pub sector_here : (g : Geometry) (image : Image) (n row : ℕ) (r : Record) → newest (marks image) (Sector n) ≡ Some row → get_or (marks image) row None ≡ Some r → sector_of g image n ≡ content_of_kind g r.kind (body_at image row)
unfolding sector_of
sector_here g image n row r now is =
    let found = page_of_mark image row r is in
    let body : body_at image row ≡ found.0.body = body_page image row found.0 found.1 in
    ap (content_at g image) now ∙ (ap (content g) found.1 ∙ (content-record g found.0 r found.2 ∙ ap (content_of_kind g r.kind) (sym body)))

pub sector_none : (g : Geometry) (image : Image) (n : ℕ) → newest (marks image) (Sector n) ≡ None → sector_of g image n ≡ zeros g
unfolding sector_of
sector_none g image n none = ap (content_at g image) none

sector_reads : (g : Geometry) (image : Image) (n : ℕ) → ReadsAs g image n (sector_of g image n)
sector_reads g image n = record {
  written = λ row r top is of_sector.
      sector_here g image n row r (newest_from (marks image) (Sector n) row top) is ∙ ap (λ k. content_of_kind g k (body_at image row)) of_sector;
  unwritten = λ other. otherwise (newest (marks image) (Sector n)) refl other;
}
  where
    otherwise : (o : Option ℕ) → newest (marks image) (Sector n) ≡ o → ((row : ℕ) (r : Record) → IsNewest (marks image) (Sector n) row → get_or (marks image) row None ≡ Some r → r.kind ≢ kind.Sector) → sector_of g image n ≡ zeros g
    otherwise None now other = sector_none g image n now
    otherwise (Some row) now other =
        let found = newest-record (marks image) (Sector n) row now in
        sector_here g image n row found.0 now found.1 ∙ content_other g found.0.kind (body_at image row) (other row found.0 (newest-is (marks image) (Sector n) row now) found.1)

-- a sector reads as one list of bytes alone
reads_same : (g : Geometry) (image : Image) (n : ℕ) (xs ys : List ℕ) → ReadsAs g image n xs → ReadsAs g image n ys → xs ≡ ys
reads_same g image n xs ys a b = by_newest (newest (marks image) (Sector n)) refl
  where
    zeros_both : ((row : ℕ) (r : Record) → IsNewest (marks image) (Sector n) row → get_or (marks image) row None ≡ Some r → r.kind ≢ kind.Sector) → xs ≡ ys
    zeros_both other = a.unwritten other ∙ sym (b.unwritten other)

    none_top : newest (marks image) (Sector n) ≡ None → (row : ℕ) (r : Record) → IsNewest (marks image) (Sector n) row → get_or (marks image) row None ≡ Some r → r.kind ≢ kind.Sector
    none_top now row r top is = let some : newest (marks image) (Sector n) ≡ Some row = newest_from (marks image) (Sector n) row top in absurd (cc)

    only_top : (q : ℕ) (x : Record) → newest (marks image) (Sector n) ≡ Some q → get_or (marks image) q None ≡ Some x → x.kind ≢ kind.Sector → (row : ℕ) (r : Record) → IsNewest (marks image) (Sector n) row → get_or (marks image) row None ≡ Some r → r.kind ≢ kind.Sector
    only_top q x now at ne row r top is of_sector =
        let some : newest (marks image) (Sector n) ≡ Some row = newest_from (marks image) (Sector n) row top in
        let same : row ≡ q = cc in
        let here : get_or (marks image) q None ≡ Some r = ap (λ i. get_or (marks image) i None) (sym same) ∙ is in
        let same_record : r ≡ x = cc in
        ne (sym (ap (λ z. z.kind) same_record) ∙ of_sector)

    by_newest : (o : Option ℕ) → newest (marks image) (Sector n) ≡ o → xs ≡ ys
    by_newest None now = zeros_both (none_top now)
    by_newest (Some row) now =
        let found = newest-record (marks image) (Sector n) row now in
        let top : IsNewest (marks image) (Sector n) row = newest-is (marks image) (Sector n) row now in
        elim (cases_kind found.0.kind) [
          | inl same ↦ a.written row found.0 top found.1 same ∙ sym (b.written row found.0 top found.1 same)
          | inr ne ↦ zeros_both (only_top row found.0 now found.1 ne)
        ]

pub sector_is : (g : Geometry) (image : Image) (n : ℕ) (bytes : List ℕ) → (bytes ≡ sector_of g image n) ↔ ReadsAs g image n bytes
sector_is g image n bytes = (to, λ reads. reads_same g image n bytes (sector_of g image n) reads (sector_reads g image n))
  where
    to : bytes ≡ sector_of g image n → ReadsAs g image n bytes
    to is = subst (λ xs. ReadsAs g image n xs) (sym is) (sector_reads g image n)

-- ---- the array, and its one answer

length-array : (g : Geometry) (image : Image) → length (array_of g image) ≡ g.sectors
unfolding array_of
length-array g image = length-map-range_with_len (sector_of g image) 0 g.sectors

array-at : (g : Geometry) (image : Image) (n : ℕ) → n < g.sectors → get_or (array_of g image) n [] ≡ sector_of g image n
unfolding array_of
array-at g image n within = get_or-map-range_with_len (sector_of g image) 0 g.sectors n n [] within (omega arith)

array_each : (g : Geometry) (image : Image) → IsArray g image (array_of g image)
array_each g image = record {
  size = length-array g image;
  each = λ n within. subst (λ xs. ReadsAs g image n xs) (sym (array-at g image n within)) (sector_reads g image n);
}

pub array_is : (g : Geometry) (image : Image) (sectors : List (List ℕ)) → (sectors ≡ array_of g image) ↔ IsArray g image sectors
array_is g image sectors = (to, back)
  where
    to : sectors ≡ array_of g image → IsArray g image sectors
    to is = subst (λ xs. IsArray g image xs) (sym is) (array_each g image)

    back : IsArray g image sectors → sectors ≡ array_of g image
    back all = ext_get_or [] sectors (array_of g image) (all.size ∙ sym (length-array g image)) (λ n l.
        let within : n < g.sectors = omega (arith, all.size) in
        reads_same g image n (get_or sectors n []) (get_or (array_of g image) n []) (all.each n within) ((array_each g image).each n within))

-- each key of a sound page has a newest page
pub has_newest : (g : Geometry) (image : Image) (row : ℕ) (r : Record) → HasOneArray g image → get_or (marks image) row None ≡ Some r → IsSome (newest (marks image) (key_of r))
has_newest g image row r one is = newest_some (marks image) row r one.distinct is
