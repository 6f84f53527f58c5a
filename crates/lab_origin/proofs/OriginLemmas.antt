-- Where the newest page of a sector comes from.
use Rattle.std.proofs.Common.{◌≡◌, ◌≢◌, inl, inr, ℕ, ◌+◌, ◌*◌, ◌<◌, Bool, true, false, List, [], length, get_or, Option, Some, refl, sym, ap, ◌∙◌}
use Rattle.std.specs.Prelude.{slice_range}
use Rattle.std.specs.List.{list_any}
use Rattle.std.specs.Str.{bytes_eq}
use Rattle.std.proofs.lemmas.Bool.{cases_Bool, false≢true}
use Rattle.std.proofs.lemmas.List.{get_or_default}
use Rattle.std.proofs.lemmas.List.Folds.{Any-from_list_any, list_any_at}
use Rattle.std.proofs.lemmas.Slice.Eq.{bytes_eq-Decides}
use Rattle.page_layout.specs.declared.geometry.Geometry.{Geometry}
use Rattle.page_layout.specs.declared.record.Key.TheVariants.{Sector}
use Rattle.page_layout.specs.declared.newest.Latest.{Latest}
use Rattle.page_layout.specs.declared.newest.Latest.TheVariants as latest
use Rattle.page_layout.specs.Geometry.{page_bytes}
use Rattle.page_layout.specs.Page.{Image}
use Rattle.page_layout.specs.Greatest.{place_of}
use Rattle.page_layout.specs.Newest.{IsNewest, latest_below}
use Rattle.page_layout.specs.Array.{marks}
use Rattle.page_layout.proofs.ArrayLemmas.{latest-newest, length-marks}
use Rattle.page_layout.proofs.NewestLemmas.{newest-is, newest_from}
use Rattle.lab_dump.specs.Held.{shown_by}
use Rattle.lab_dump.specs.Written.{sector_state}
use Rattle.lab_dump.specs.declared.mark.MapMark.{MapMark}
use Rattle.lab_dump.specs.declared.mark.MapMark.TheVariants as mark
use Rattle.lab_origin.specs.Origin.{AlikeLaw, FinishedLaw, MendedLaw, IsOriginOf, IsOfNone, has_at, image_of, is_in_a_reading, mark_by_latest, sector_mark_of, plain, read_mark, row_bytes}

-- ---- the page of a row

-- the page of the dump, as it was read, and its place
pub read_is : (g : Geometry) (all piece : List ℕ) (files : List (List ℕ)) (row : ℕ) → piece ≡ row_bytes g all row → length piece ≡ page_bytes g → is_in_a_reading g all files row ≡ list_any (has_at (row * page_bytes g) piece) files
unfolding is_in_a_reading
read_is g all piece files row is size =
    ap (λ p. list_any (λ reading. bytes_eq (row_bytes g reading row) p) files) (sym is)
    ∙ ap (λ n. list_any (λ reading. bytes_eq (slice_range reading (row * page_bytes g) (row * page_bytes g + n)) piece) files) (sym size)

abbrev pub HasOne : Geometry → List ℕ → List (List ℕ) → ℕ → Type 0
HasOne g dump readings row = (i : ℕ) × (i < length readings) × (row_bytes g (get_or readings i []) row ≡ row_bytes g dump row)

has_one : (g : Geometry) (dump : List ℕ) (readings : List (List ℕ)) (row : ℕ) → is_in_a_reading g dump readings row ≡ true → HasOne g dump readings row
unfolding is_in_a_reading
has_one g dump readings row e =
    let any = Any-from_list_any (λ reading. bytes_eq (row_bytes g reading row) (row_bytes g dump row)) readings e in
    let here : get_or readings any.0 [] ≡ any.1 = get_or_default readings any.0 [] any.1 any.2 ∙ any.3 in
    let same : row_bytes g any.1 row ≡ row_bytes g dump row = (bytes_eq-Decides (row_bytes g any.1 row) (row_bytes g dump row)).0 any.4 in
    (any.0, any.2, ap (λ r. row_bytes g r row) here ∙ same)

is_one : (g : Geometry) (dump : List ℕ) (readings : List (List ℕ)) (row : ℕ) → HasOne g dump readings row → is_in_a_reading g dump readings row ≡ true
unfolding is_in_a_reading
is_one g dump readings row h =
    list_any_at (λ reading. bytes_eq (row_bytes g reading row) (row_bytes g dump row)) readings h.0 [] h.1 ((bytes_eq-Decides (row_bytes g (get_or readings h.0 []) row) (row_bytes g dump row)).1 h.2)

-- ---- a sector by what is known of its newest page

abbrev known : Geometry → Option ℕ → List ℕ → ℕ → Latest
known g last dump n = latest_below (marks (image_of g last dump)) (Sector n) (length (image_of g last dump))

mark_is : (g : Geometry) (last : Option ℕ) (dump : List ℕ) (readings : List (List ℕ)) (n : ℕ) (l : Latest) → known g last dump n ≡ l → sector_mark_of g last dump readings n ≡ mark_by_latest (is_in_a_reading g dump readings) l
unfolding sector_mark_of
mark_is g last dump readings n l e = ap (mark_by_latest (is_in_a_reading g dump readings)) e

newest_at : (g : Geometry) (last : Option ℕ) (dump : List ℕ) (n row s : ℕ) → known g last dump n ≡ latest.Once row s → IsNewest (marks (image_of g last dump)) (Sector n) row
newest_at g last dump n row s e =
    let image : Image = image_of g last dump in
    newest-is (marks image) (Sector n) row (latest-newest (marks image) (Sector n) ∙ (ap (λ k. place_of (latest_below (marks image) (Sector n) k)) (length-marks image) ∙ ap place_of e))

pub record IsOnce (row : ℕ) (l : Latest) : Type 0 where
  pub sequence : ℕ
  pub is : l ≡ latest.Once row sequence

once_by : (row : ℕ) (l : Latest) → place_of l ≡ Some row → IsOnce row l
once_by row latest.Never e = absurd (cc)
once_by row (latest.Tied a b s) e = absurd (cc)
once_by row (latest.Once place s) e = let same : place ≡ row = cc in record { sequence = s; is = ap (λ k. latest.Once k s) same }

once_at : (g : Geometry) (last : Option ℕ) (dump : List ℕ) (n row : ℕ) → IsNewest (marks (image_of g last dump)) (Sector n) row → IsOnce row (known g last dump n)
once_at g last dump n row h =
    let image : Image = image_of g last dump in
    once_by row (known g last dump n) (ap (λ k. place_of (latest_below (marks image) (Sector n) k)) (sym (length-marks image)) ∙ (sym (latest-newest (marks image) (Sector n)) ∙ newest_from (marks image) (Sector n) row h))

-- ---- laws

by_read : (b : Bool) (m : MapMark) → read_mark b ≡ m → (m ≡ mark.Mended → b ≡ false) × (m ≡ mark.Finished → b ≡ true)
by_read true m e = (λ is. absurd (cc), λ is. refl)
by_read false m e = (λ is. refl, λ is. absurd (cc))

pub mended_law : MendedLaw
mended_law g last dump readings n = (from (known g last dump n) refl, to)
  where
    none_has : (row : ℕ) → is_in_a_reading g dump readings row ≡ false → (i : ℕ) → i < length readings → row_bytes g (get_or readings i []) row ≢ row_bytes g dump row
    none_has row e i l same = false≢true (sym e ∙ is_one g dump readings row (i, l, same))

    from : (l : Latest) → known g last dump n ≡ l → sector_mark_of g last dump readings n ≡ mark.Mended → (row : ℕ) × IsOfNone g last dump readings n row
    from latest.Never e is = absurd (let at = mark_is g last dump readings n latest.Never e in cc)
    from (latest.Tied a b s) e is = absurd (let at = mark_is g last dump readings n (latest.Tied a b s) e in cc)
    from (latest.Once row s) e is =
        let at = mark_is g last dump readings n (latest.Once row s) e in
        (row, record { newest = newest_at g last dump n row s e; none = none_has row ((by_read (is_in_a_reading g dump readings row) _ (sym at)).0 is) })

    unread : (row : ℕ) → ((i : ℕ) → i < length readings → row_bytes g (get_or readings i []) row ≢ row_bytes g dump row) → is_in_a_reading g dump readings row ≡ false
    unread row h = elim (cases_Bool (is_in_a_reading g dump readings row)) [
      | inl has ↦ absurd (let one = has_one g dump readings row has in h one.0 one.1 one.2)
      | inr lacks ↦ lacks
    ]

    to : (row : ℕ) × IsOfNone g last dump readings n row → sector_mark_of g last dump readings n ≡ mark.Mended
    to h = let once = once_at g last dump n h.0 h.1.newest in mark_is g last dump readings n _ once.is ∙ ap read_mark (unread h.0 h.1.none)

pub finished_law : FinishedLaw
finished_law g last dump readings n = (from (known g last dump n) refl, to)
  where
    from : (l : Latest) → known g last dump n ≡ l → sector_mark_of g last dump readings n ≡ mark.Finished → (row : ℕ) × IsOriginOf g last dump readings n row
    from latest.Never e is = absurd (let at = mark_is g last dump readings n latest.Never e in cc)
    from (latest.Tied a b s) e is = absurd (let at = mark_is g last dump readings n (latest.Tied a b s) e in cc)
    from (latest.Once row s) e is =
        let at = mark_is g last dump readings n (latest.Once row s) e in
        let one = has_one g dump readings row ((by_read (is_in_a_reading g dump readings row) _ (sym at)).1 is) in
        (row, record { newest = newest_at g last dump n row s e; i = one.0; among = one.1; same = one.2 })

    to : (row : ℕ) × IsOriginOf g last dump readings n row → sector_mark_of g last dump readings n ≡ mark.Finished
    to h =
        let once = once_at g last dump n h.0 h.1.newest in
        mark_is g last dump readings n _ once.is ∙ ap read_mark (is_one g dump readings h.0 (h.1.i, h.1.among, h.1.same))

pub alike_law : AlikeLaw
unfolding sector_mark_of sector_state
alike_law g last dump readings n = by (known g last dump n)
  where
    read : (b : Bool) → plain (read_mark b) ≡ shown_by (latest.Once 0 0)
    read true = refl
    read false = refl

    by : (l : Latest) → plain (mark_by_latest (is_in_a_reading g dump readings) l) ≡ shown_by l
    by latest.Never = refl
    by (latest.Tied a b s) = refl
    by (latest.Once row s) = read (is_in_a_reading g dump readings row)
