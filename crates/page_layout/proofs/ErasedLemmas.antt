-- Pages as an erase leaves them.
use Rattle.std.proofs.Common.{◌≡◌, ◌<◌, ℕ, ◌/◌, true, List, [], ◌∷◌, length, replicate, None, refl, ap, ◌∙◌}
use Rattle.std.specs.Prelude.{◌==◌}
use Rattle.std.specs.List.{list_all}
use Rattle.std.proofs.lemmas.Bool.{and_from, and_parts, eqb-true}
use Rattle.page_layout.specs.declared.geometry.Geometry.{Geometry}
use Rattle.page_layout.specs.Page.{Page, Image, IsPage, IsImage, page}
use Rattle.page_layout.specs.Sound.{record_of, is_filled, is_erased_page}
use Rattle.page_layout.specs.Change.{IsUnsoundAt, IsErasedAt, ErasesIn, erased_page}
use Rattle.page_layout.proofs.RecordLemmas.{is_filled-replicate, erased_no_record}
use Rattle.page_layout.proofs.ArrayLemmas.{unsound_at}

filled_is : (xs : List ℕ) → is_filled xs ≡ true → xs ≡ replicate (length xs) 255
unfolding is_filled
filled_is [] e = refl
filled_is (x ∷ xs) e =
    let both : ((x == 255) ≡ true) × (list_all (λ b. b == 255) xs ≡ true) = and_parts (x == 255) (list_all (λ b. b == 255) xs) e in
    let head : x ≡ 255 = eqb-true x 255 both.0 in
    let tail : xs ≡ replicate (length xs) 255 = filled_is xs both.1 in
    ap (λ y. y ∷ xs) head ∙ ap (λ ys. 255 ∷ ys) tail

-- an erased page is one by the test of its bytes
pub erased_page_is : (g : Geometry) → is_erased_page (erased_page g) ≡ true
erased_page_is g = and_from (is_filled (replicate g.data_bytes 255)) (is_filled (replicate g.spare_bytes 255)) (is_filled-replicate g.data_bytes) (is_filled-replicate g.spare_bytes)

-- and the only one of its sizes
pub is_erased_is : (g : Geometry) (p : Page) → IsPage g p → is_erased_page p ≡ true → p ≡ erased_page g
is_erased_is g p sized e =
    let both : (is_filled p.body ≡ true) × (is_filled p.spare ≡ true) = and_parts (is_filled p.body) (is_filled p.spare) e in
    let body : p.body ≡ replicate g.data_bytes 255 = filled_is p.body both.0 ∙ ap (λ n. replicate n 255) sized.body_size in
    let spare : p.spare ≡ replicate g.spare_bytes 255 = filled_is p.spare both.1 ∙ ap (λ n. replicate n 255) sized.spare_size in
    ap (λ b. page b p.spare) body ∙ ap (λ s. page (replicate g.data_bytes 255) s) spare

-- it has no record
pub is_erased_unsound : (g : Geometry) (p : Page) → IsPage g p → is_erased_page p ≡ true → record_of p ≡ None
is_erased_unsound g p sized e = erased_no_record p e

-- an erased row may be programmed with a new record
pub erased_at_unsound : (g : Geometry) (image : Image) (row : ℕ) → IsImage g image → IsErasedAt image row → IsUnsoundAt image row
erased_at_unsound g image row whole erased =
    unsound_at image row erased.its erased.at (erased_no_record erased.its erased.is)

-- each row of a block after an erase that passed
pub erases_erased : (g : Geometry) (block row : ℕ) (old new : Image) → ErasesIn g block old new → row / g.pages ≡ block → row < length old → IsErasedAt new row
erases_erased g block row old new erases of_block within = record { its = erased_page g; at = erases.inside row of_block within; is = erased_page_is g }
