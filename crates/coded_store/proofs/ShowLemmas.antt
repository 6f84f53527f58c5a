-- The bytes of a page, as it reads.
use Rattle.std.proofs.Common.{◌≡◌, ℕ, ◌-◌, ◌<◌, ◌≤◌, List, ◌++◌, length, take, drop, replicate, sym, ap, ◌∙◌, subst, arith, length-take, length-drop}
use Rattle.std.proofs.lemmas.List.{take_at, drop_at, take-replicate, drop-replicate}
use Rattle.error_correction.specs.Bits.{AreBytes}
use Rattle.page_layout.specs.declared.geometry.Geometry.{Geometry}
use Rattle.page_layout.specs.Geometry.{page_bytes}
use Rattle.page_layout.specs.Page.{Page, page, IsPage}
use Rattle.page_layout.specs.Raw.{bytes_of_page}
use Rattle.onfi_cycles.specs.Cycles.{page_of}
use Rattle.page_code.proofs.Parts.{take_bytes, drop_bytes}
use Rattle.page_code.specs.Corrected.{corrected_page, turned_bits, lost_chunks}
use Rattle.corrected_nand.specs.Shown.{lost_page}
use Rattle.coded_store.specs.declared.wrong.Wrong.TheVariants.{Turned, Lost}
use Rattle.coded_store.specs.Reading.{coded_bytes, read_as, wrong_with}
use Rattle.coded_store.specs.File.{IsWithCodes}
use Rattle.page_code.specs.Layout.{coded}
use Rattle.coded_store.proofs.LawLemmas.{own_law}
use Rattle.coded_store.proofs.ReadLemmas.{corrected_sized, reads_right, reads_lost, tells_right, tells_lost}

pub page_at_front : (n : ℕ) (stands front back : List ℕ) (g : Geometry) → n ≡ g.data_bytes → front ≡ take n stands → back ≡ drop n stands → page front back ≡ page_of g stands
page_at_front n stands front back g e f b =
    ap (λ z. page z back) (f ∙ ap (λ k. take k stands) e) ∙ ap (λ z. page (take g.data_bytes stands) z) (b ∙ ap (λ k. drop k stands) e)

pub stands_with_codes : (g : Geometry) (stands : List ℕ) → length stands ≡ coded_bytes g → AreBytes stands → IsWithCodes g (page_of g stands)
stands_with_codes g stands e b = record {
  sizes = record { body_size = omega (arith, length-take g.data_bytes stands); spare_size = omega (arith, length-drop g.data_bytes stands) };
  bytes = record { body = take_bytes g.data_bytes stands b; spare = drop_bytes g.data_bytes stands b };
}

page_of_bytes : (g : Geometry) (p : Page) (bytes : List ℕ) → IsPage g p → bytes ≡ bytes_of_page p → page_of g bytes ≡ p
page_of_bytes g p bytes is e =
    ap (page_of g) e ∙ (ap (λ z. page z (drop g.data_bytes (p.body ++ p.spare))) (take_at p.body p.spare g.data_bytes is.body_size) ∙ ap (λ z. page p.body z) (drop_at p.body p.spare g.data_bytes is.body_size))

pub lost_of : (g : Geometry) (n : ℕ) → n ≡ page_bytes g → page_of g (replicate n 0) ≡ lost_page g
lost_of g n e =
    let d = g.data_bytes in
    let rest : n - d ≡ g.spare_bytes = omega arith in
    ap (λ z. page z (drop d (replicate n 0))) (take-replicate d n 0 (omega arith)) ∙ ap (λ z. page (replicate d 0) z) (drop-replicate d n 0 ∙ ap (λ k. replicate k 0) rest)

pub shows_right : (g : Geometry) (r stood : Page) (bytes : List ℕ) (lost : ℕ) → r ≡ stood → IsWithCodes g stood → lost ≡ lost_chunks g r → lost ≤ 0 → bytes ≡ bytes_of_page (corrected_page g r) → page_of g bytes ≡ read_as g stood
shows_right g r stood bytes lost e w l z b =
    let none : lost_chunks g stood ≡ 0 = omega (arith, ap (lost_chunks g) e) in
    page_of_bytes g (corrected_page g stood) bytes (corrected_sized g stood w) (b ∙ ap (λ x. bytes_of_page (corrected_page g x)) e) ∙ sym (reads_right g stood none)

pub shows_lost : (g : Geometry) (r stood : Page) (bytes : List ℕ) (lost : ℕ) → r ≡ stood → lost ≡ lost_chunks g r → 0 < lost → page_of g bytes ≡ lost_page g → page_of g bytes ≡ read_as g stood
shows_lost g r stood bytes lost e l z b = let some : 0 < lost_chunks g stood = omega (arith, ap (lost_chunks g) e) in b ∙ sym (reads_lost g stood some)

pub told_right : (g : Geometry) (r stood : Page) (lost turned : ℕ) → r ≡ stood → lost ≡ lost_chunks g r → lost ≤ 0 → turned ≡ turned_bits g r → Turned turned ≡ wrong_with g stood
told_right g r stood lost turned e l z t =
    let none : lost_chunks g stood ≡ 0 = omega (arith, ap (lost_chunks g) e) in
    ap Turned (t ∙ ap (turned_bits g) e) ∙ sym (tells_right g stood none)

pub told_lost : (g : Geometry) (r stood : Page) (lost : ℕ) → r ≡ stood → lost ≡ lost_chunks g r → 0 < lost → Lost ≡ wrong_with g stood
told_lost g r stood lost e l z = let some : 0 < lost_chunks g stood = omega (arith, ap (lost_chunks g) e) in sym (tells_lost g stood some)

-- ---- as it is written

page_is : (g : Geometry) (bytes : List ℕ) → length bytes ≡ page_bytes g → AreBytes bytes → IsPage g (page_of g bytes)
page_is g bytes e b = record {
  body_size = omega (arith, length-take g.data_bytes bytes);
  spare_size = omega (arith, length-drop g.data_bytes bytes);
  body_fits = take_bytes g.data_bytes bytes b;
  spare_fits = drop_bytes g.data_bytes bytes b;
}

pub spelled_at : (g h : Geometry) (bytes stands : List ℕ) → h ≡ g → page_of g stands ≡ coded g (page_of g bytes) → page_of h stands ≡ coded h (page_of h bytes)
spelled_at g h bytes stands e s = subst (λ x. page_of x stands ≡ coded x (page_of x bytes)) (sym e) s

pub spelled_reads : (g h : Geometry) (bytes stands : List ℕ) → h ≡ g → length bytes ≡ page_bytes h → AreBytes bytes → page_of g stands ≡ coded g (page_of g bytes) → read_as h (page_of h stands) ≡ page_of h bytes
spelled_reads g h bytes stands e size b s = ap (read_as h) (spelled_at g h bytes stands e s) ∙ (own_law h (page_of h bytes) (page_is h bytes size b)).shows
