-- What was written and counted once all pages were taken.
use Rattle.std.proofs.Common.{◌≡◌, ℕ, suc, ◌+◌, ◌<◌, List, [], ◌∷◌, length, map, take, get_or, slice_get, Option, Some, None, IfSome, refl, sym, ap, ◌∙◌, subst, arith}
use Rattle.std.specs.List.{cons_option}
use Rattle.std.proofs.lemmas.List.{take_all, same_lists, length-map, get_or-map}
use Rattle.std.proofs.lemmas.Option.{slice_get-get_or, slice_get_within, get_or_from_slice_get}
use Rattle.page_layout.specs.declared.geometry.Geometry.{Geometry}
use Rattle.page_layout.specs.Geometry.{row_count}
use Rattle.page_layout.specs.Page.{Page, Image, page, IsPage, IsImage}
use Rattle.page_layout.specs.Raw.{raw_image, bytes_of_page}
use Rattle.page_layout.proofs.RawLemmas.{length-raw_image, raw_image_whole}
use Rattle.page_code.specs.Chip.{IsChipOf}
use Rattle.page_code.specs.Near.{HasChipSizes}
use Rattle.page_code.specs.Corrected.{lost_chunks, IsPutRight, AreBytesOf}
use Rattle.page_code.proofs.Puts.{put_right_law}
use Rattle.lab_dump.specs.Scan.{IsTaken}
use Rattle.lab_correct.specs.declared.correcting.Loss.{Loss}
use Rattle.lab_correct.specs.Correcting.{corrected_piece, loss_at, losses_from, ShowsCorrected, CorrectingStands}
use Rattle.lab_correct.proofs.ChipLemmas.{rows_same}
use Rattle.lab_correct.specs.Corrected.{IsCorrectedOf, IsCorrected, IsOwnCorrected, CorrectedLaw}

all_pieces : (g : Geometry) (all : ℕ) (seen : Image) (pieces : Option (List (List ℕ))) → IfSome pieces (λ ps. length ps ≡ all) → IfSome pieces (λ ps. take all ps ≡ map (corrected_piece g) seen) → IfSome pieces (λ ps. ps ≡ map (corrected_piece g) seen)
all_pieces g all seen None size h = tt
all_pieces g all seen (Some ps) size h = sym (take_all all ps (omega arith)) ∙ h

all_of : (g : Geometry) (all : ℕ) (seen : Image) (pieces : Option (List (List ℕ))) (turned touched : ℕ) (losses : List Loss) → IfSome pieces (λ ps. length ps ≡ all) → ShowsCorrected g all seen pieces turned touched losses → IsCorrectedOf g seen pieces turned touched losses
all_of g all seen pieces turned touched losses size h = record {
  pieces_are = all_pieces g all seen pieces size h.pieces_are;
  turned_is = h.turned_is;
  touched_is = h.touched_is;
  losses_are = h.losses_are;
}

pub own_done : (g chip : Geometry) (scratch : List ℕ) (turned touched : ℕ) (losses : List Loss) (capacity : ℕ) (pieces : Option (List (List ℕ))) → CorrectingStands g chip (row_count chip) scratch turned touched losses capacity pieces
    → IsOwnCorrected g pieces turned touched losses
own_done g chip scratch turned touched losses capacity pieces h = record {
  pages = h.has.seen;
  rows = h.has.count ∙ rows_same g chip h.of;
  sized = h.has.sized;
  are = all_of g (row_count chip) h.has.seen pieces turned touched losses h.sized h.has.shows;
}

pub done : (g chip : Geometry) (scratch : List ℕ) (turned touched : ℕ) (losses : List Loss) (capacity : ℕ) (pieces : Option (List (List ℕ))) (bytes : List ℕ) → CorrectingStands g chip (row_count chip) scratch turned touched losses capacity pieces
    → IsTaken chip (λ image. ShowsCorrected g (row_count chip) (take (row_count chip) image) pieces turned touched losses) bytes → IsCorrected g chip pieces turned touched losses bytes
done g chip scratch turned touched losses capacity pieces bytes h taken = record {
  whole = taken.whole;
  pages = all_of g (row_count chip) (raw_image chip bytes) pieces turned touched losses h.sized
      (subst (λ (seen : Image). ShowsCorrected g (row_count chip) seen pieces turned touched losses) (take_all (row_count chip) (raw_image chip bytes) (omega (arith, length-raw_image chip bytes))) taken.shown);
}

-- ---- the law

sizes_of : (g chip : Geometry) (r : Page) → IsChipOf g chip → IsPage chip r → HasChipSizes g r
sizes_of g chip r of is = record { body_size = is.body_size ∙ of.data_is; spare_size = is.spare_size ∙ of.spare_is }

bytes_of : (chip : Geometry) (r : Page) → IsPage chip r → AreBytesOf r
bytes_of chip r is = record { body = is.body_fits; spare = is.spare_fits }

none_from : (g : Geometry) (at : ℕ) (pages : Image) → ((row : ℕ) (r : Page) → slice_get pages row ≡ Some r → lost_chunks g r ≡ 0) → losses_from g at pages ≡ []
none_from g at [] h = refl
none_from g at (r ∷ rs) h =
    ap (λ n. cons_option (loss_at at n) (losses_from g (at + 1) rs)) (h 0 r refl) ∙ none_from g (at + 1) rs (λ row p is. h (suc row) p is)

pub corrected_law : CorrectedLaw
corrected_law g chip image pieces turned touched losses bytes of whole fits h near = record {
  pieces_are = h.pages.pieces_are ∙ same_lists (map (corrected_piece g) pages) (map bytes_of_page image) (length-map pages (corrected_piece g) ∙ (size ∙ sym (length-map image bytes_of_page)))
      (λ k d l. (
      let here : k < length pages = omega (arith, length-map pages (corrected_piece g)) in
      let there : k < length image = omega (arith, size) in
      get_or-map (corrected_piece g) pages k (page [] []) d here ∙ (ap bytes_of_page (put k here there).page_is ∙ sym (get_or-map bytes_of_page image k (page [] []) d there))));
  none_lost = h.pages.losses_are ∙ none_from g 0 pages (λ row r at.
      let here = slice_get_within pages row r at in
      let there : row < length image = omega (arith, size) in
      ap (lost_chunks g) (sym (get_or_from_slice_get pages row r (page [] []) at)) ∙ (put row here there).none_lost);
}
  where
    pages : Image
    pages = raw_image chip bytes

    size : length pages ≡ length image
    size = length-raw_image chip bytes ∙ (rows_same g chip of ∙ sym whole.rows)

    is_page : IsImage chip pages
    is_page = raw_image_whole chip bytes h.whole fits

    put : (k : ℕ) → k < length pages → k < length image → IsPutRight g (get_or image k (page [] [])) (get_or pages k (page [] []))
    put k here there =
        let r : Page = get_or pages k (page [] []) in
        let p : Page = get_or image k (page [] []) in
        let at : slice_get pages k ≡ Some r = slice_get-get_or pages k (page [] []) here in
        let of_p : slice_get image k ≡ Some p = slice_get-get_or image k (page [] []) there in
        let is = is_page.pages k r at in
        put_right_law g p r (whole.pages k p of_p) (sizes_of g chip r of is) (bytes_of chip r is) (near k p r of_p at)
