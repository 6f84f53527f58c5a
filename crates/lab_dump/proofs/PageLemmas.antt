-- A page as its bytes.
use Rattle.std.proofs.Common.{◌≡◌, ℕ, ◌+◌, ◌-◌, List, ◌++◌, length, take, drop, refl, sym, ap, ◌∙◌, arith}
use Rattle.std.specs.Prelude.{slice_range}
use Rattle.std.proofs.lemmas.List.{take-append-drop, take_at, drop_at, take-take, drop-take, drop-drop}
use Rattle.page_layout.specs.declared.geometry.Geometry.{Geometry}
use Rattle.page_layout.specs.Geometry.{page_bytes}
use Rattle.page_layout.specs.Page.{Page, page}
use Rattle.page_layout.specs.Raw.{bytes_of_page, page_from}
use Rattle.lab_dump.specs.PageBytes.{page_from_bytes}

pub page_again : (p : Page) → page_from_bytes (length p.body) (bytes_of_page p) ≡ p
page_again p = ap (λ b. page b (drop (length p.body) (bytes_of_page p))) (take_at p.body p.spare (length p.body) refl) ∙ ap (λ s. page p.body s) (drop_at p.body p.spare (length p.body) refl)

pub bytes_again : (size : ℕ) (bytes : List ℕ) → bytes_of_page (page_from_bytes size bytes) ≡ bytes
bytes_again size bytes = take-append-drop size bytes

-- the page of two areas that stand one behind the other
pub page_joined : (body spare : List ℕ) (size : ℕ) → length body ≡ size → page_from_bytes size (body ++ spare) ≡ page body spare
page_joined body spare size e = ap (λ b. page b (drop size (body ++ spare))) (take_at body spare size e) ∙ ap (λ s. page body s) (drop_at body spare size e)

-- a page of a file, by its bytes
pub page_sliced : (g : Geometry) (file : List ℕ) (at : ℕ) → page_from_bytes g.data_bytes (slice_range file at (at + page_bytes g)) ≡ page_from g file at
page_sliced g file at =
    let d : ℕ = g.data_bytes in
    let s : ℕ = g.spare_bytes in
    let all : at + page_bytes g - at ≡ d + s = omega arith in
    let first : at + d - at ≡ d = omega arith in
    let second : at + page_bytes g - (at + d) ≡ s = omega arith in
    let whole : slice_range file at (at + page_bytes g) ≡ take (d + s) (drop at file) = ap (λ n. take n (drop at file)) all in
    let body : take d (slice_range file at (at + page_bytes g)) ≡ slice_range file at (at + d) =
    ap (take d) whole ∙ (take-take d (d + s) (drop at file) (omega arith) ∙ sym (ap (λ n. take n (drop at file)) first)) in
    let spare : drop d (slice_range file at (at + page_bytes g)) ≡ slice_range file (at + d) (at + page_bytes g) =
    ap (drop d) whole ∙ (drop-take d s (drop at file) ∙ (ap (take s) (drop-drop d at file) ∙ sym (ap (λ n. take n (drop (at + d) file)) second))) in
    ap (λ b. page b (drop d (slice_range file at (at + page_bytes g)))) body ∙ ap (page (slice_range file at (at + d))) spare
