-- The pages of a raw image.
use Rattle.std.proofs.Common.{◌≡◌, ◌≤◌, ◌<◌, ℕ, ◌+◌, ◌*◌, ◌-◌, zero, suc, List, [], ◌∷◌, ◌++◌, length, refl, map, take, drop, Some, length-drop}
use Rattle.std.proofs.Common.{length-append, append_assoc, get_or, ap, sym, ◌∙◌, subst, arith}
use Rattle.std.specs.Prelude.{slice_get, slice_range, slice_index}
use Rattle.std.specs.List.{range_with_len, concat}
use Rattle.std.proofs.Math.Nat.{mul-le-mul_right, zero-mul}
use Rattle.std.proofs.Math.Seq.{take-length, take-add, drop-drop, drop-append-add, drop-cons}
use Rattle.std.proofs.lemmas.List.{length-take, take_at, drop_at, same_lists}
use Rattle.std.proofs.lemmas.List.FromFn.{length-map-range_with_len, get_or-map-range_with_len}
use Rattle.std.proofs.lemmas.Option.{slice_get-get_or, slice_get_within, same_Some}
use Rattle.page_layout.specs.declared.geometry.Geometry.{Geometry}
use Rattle.page_layout.specs.Geometry.{page_bytes, row_count}
use Rattle.page_layout.specs.Page.{Page, Image, page, IsPage, IsImage}
use Rattle.page_layout.specs.Raw.{page_from, raw_image, bytes_of_page, raw_bytes, IsRaw}

pub length-raw_image : (g : Geometry) (bytes : List ℕ) → length (raw_image g bytes) ≡ row_count g
unfolding raw_image
length-raw_image g bytes = length-map-range_with_len (λ row. page_from g bytes (row * page_bytes g)) 0 (row_count g)

pub raw_image-at : (g : Geometry) (bytes : List ℕ) (row : ℕ) → row < row_count g → slice_get (raw_image g bytes) row ≡ Some (page_from g bytes (row * page_bytes g))
unfolding raw_image
raw_image-at g bytes row within =
    let f : ℕ → Page = λ r. page_from g bytes (r * page_bytes g) in
    let pages : List Page = map f (range_with_len 0 (row_count g)) in
    let l : row < length pages = rw length-map-range_with_len within in
    slice_get-get_or pages row (f row) l ∙ ap Some (get_or-map-range_with_len f 0 (row_count g) row row (f row) within (omega arith))

take_fits : (n : ℕ) (xs : List ℕ) → ((i : ℕ) → slice_index xs i < 256) → (i : ℕ) → slice_index (take n xs) i < 256
take_fits zero xs fits i = fits_none i
  where
    fits_none : (k : ℕ) → slice_index [] k < 256
    fits_none k = omega arith
take_fits (suc n) [] fits i = fits i
take_fits (suc n) (x ∷ xs) fits zero = fits zero
take_fits (suc n) (x ∷ xs) fits (suc i) = take_fits n xs (λ k. fits (suc k)) i

drop_fits : (n : ℕ) (xs : List ℕ) → ((i : ℕ) → slice_index xs i < 256) → (i : ℕ) → slice_index (drop n xs) i < 256
drop_fits zero xs fits i = fits i
drop_fits (suc n) [] fits i = fits i
drop_fits (suc n) (x ∷ xs) fits i = drop_fits n xs (λ k. fits (suc k)) i

range_fits : (bytes : List ℕ) (a b : ℕ) → ((i : ℕ) → slice_index bytes i < 256) → (i : ℕ) → slice_index (slice_range bytes a b) i < 256
range_fits bytes a b fits i = take_fits (b - a) (drop a bytes) (drop_fits a bytes fits) i

row_end : (row rows size : ℕ) → row < rows → row * size + size ≤ rows * size
row_end row rows size l = let m : suc row * size ≤ rows * size = mul-le-mul_right size l in omega (arith, m)

pub page_from_whole : (g : Geometry) (bytes : List ℕ) (row : ℕ) → length bytes ≡ row_count g * page_bytes g → ((i : ℕ) → slice_index bytes i < 256) → row < row_count g → IsPage g (page_from g bytes (row * page_bytes g))
page_from_whole g bytes row whole fits within =
    let end : row * page_bytes g + page_bytes g ≤ length bytes = omega (arith, whole, row_end row (row_count g) (page_bytes g) within) in
    record {
      body_size = simp (length-take, length-drop) (omega arith);
      spare_size = simp (length-take, length-drop) (omega arith);
      body_fits = range_fits bytes (row * page_bytes g) (row * page_bytes g + g.data_bytes) fits;
      spare_fits = range_fits bytes (row * page_bytes g + g.data_bytes) (row * page_bytes g + page_bytes g) fits;
    }

pub raw_image_whole : (g : Geometry) (bytes : List ℕ) → length bytes ≡ row_count g * page_bytes g → ((i : ℕ) → slice_index bytes i < 256) → IsImage g (raw_image g bytes)
raw_image_whole g bytes whole fits = record {
  rows = length-raw_image g bytes;
  pages = λ row p is.
      let within : row < row_count g = omega (arith, length-raw_image g bytes, slice_get_within (raw_image g bytes) row p is) in
      let at : slice_get (raw_image g bytes) row ≡ Some (page_from g bytes (row * page_bytes g)) = raw_image-at g bytes row within in
      let some : Some (page_from g bytes (row * page_bytes g)) ≡ Some p = sym at ∙ is in
      let same : page_from g bytes (row * page_bytes g) ≡ p = same_Some (page_from g bytes (row * page_bytes g)) p some in
      let P : Page → Type 0 = λ q. IsPage g q in
      subst P same (page_from_whole g bytes row whole fits within);
}

-- the same, as the code has the numbers
pub raw_page : (g : Geometry) (bytes : List ℕ) (row d s : ℕ) → row < row_count g → d ≡ g.data_bytes → s ≡ g.spare_bytes
    → slice_get (raw_image g bytes) row ≡ Some
    (page (slice_range bytes (row * (d + s)) (row * (d + s) + d)) (slice_range bytes (row * (d + s) + d) (row * (d + s) + (d + s))))
raw_page g bytes row d s within a b = rw (a, b) (raw_image-at g bytes row within)

-- ---- the bytes of a raw image

-- a page's bytes are those from its beginning to the next page's
page_bytes_from : (g : Geometry) (bytes : List ℕ) (at : ℕ) → bytes_of_page (page_from g bytes at) ≡ slice_range bytes at (at + page_bytes g)
page_bytes_from g bytes at =
    let d : ℕ = g.data_bytes in
    let first : at + d - at ≡ d = omega arith in
    let second : at + page_bytes g - (at + d) ≡ g.spare_bytes = omega arith in
    let all : at + page_bytes g - at ≡ d + g.spare_bytes = omega arith in
    rw (first, second, all, ← drop-drop d at bytes) (sym (take-add d g.spare_bytes (drop at bytes)))

map_concat : (f h : ℕ → List ℕ) (xs : List ℕ) → ((x : ℕ) → f x ≡ h x) → concat (map f xs) ≡ concat (map h xs)
map_concat f h [] same = refl
map_concat f h (x ∷ xs) same = let head = same x in let tail = map_concat f h xs same in cc

map-map : (f : ℕ → Page) (xs : List ℕ) → map bytes_of_page (map f xs) ≡ map (λ x. bytes_of_page (f x)) xs
map-map f [] = refl
map-map f (x ∷ xs) = ap (λ ys. bytes_of_page (f x) ∷ ys) (map-map f xs)

-- pieces of one size, one after another, from piece a on
pieces : (bytes : List ℕ) (size a n : ℕ) → concat (map (λ row. slice_range bytes (row * size) (row * size + size)) (range_with_len a n)) ≡ take (n * size) (drop (a * size) bytes)
pieces bytes size a zero = rw zero-mul refl
pieces bytes size a (suc n) =
    let first : a * size + size - a * size ≡ size = omega arith in
    let next : (a + 1) * size ≡ a * size + size = omega arith in
    let rest : concat (map (λ row. slice_range bytes (row * size) (row * size + size)) (range_with_len (a + 1) n)) ≡ take (n * size) (drop size (drop (a * size) bytes)) =
    pieces bytes size (a + 1) n ∙ ap (take (n * size)) (ap (λ k. drop k bytes) next ∙ sym (drop-drop size (a * size) bytes)) in
    let count : suc n * size ≡ size + n * size = omega arith in
    let joined : take (suc n * size) (drop (a * size) bytes) ≡ take size (drop (a * size) bytes) ++ take (n * size) (drop size (drop (a * size) bytes)) =
    ap (λ k. take k (drop (a * size) bytes)) count ∙ take-add size (n * size) (drop (a * size) bytes) in
    rw (first, rest) (sym joined)

pub raw_bytes-raw_image : (g : Geometry) (bytes : List ℕ) → IsRaw g bytes → raw_bytes (raw_image g bytes) ≡ bytes
unfolding raw_image
raw_bytes-raw_image g bytes raw =
    let rows : List ℕ = range_with_len 0 (row_count g) in
    let size : ℕ = page_bytes g in
    let none : drop (0 * size) bytes ≡ bytes = rw zero-mul refl in
    let all : take (row_count g * size) bytes ≡ bytes = rw (← raw.whole) (take-length bytes) in
    ap concat (map-map (λ row. page_from g bytes (row * size)) rows)
    ∙ (map_concat (λ row. bytes_of_page (page_from g bytes (row * size))) (λ row. slice_range bytes (row * size) (row * size + size)) rows (λ row. page_bytes_from g bytes (row * size))
    ∙ (pieces bytes size 0 (row_count g) ∙ (ap (take (row_count g * size)) none ∙ all)))

drop_nil : (n : ℕ) → drop {A = ℕ} n [] ≡ []
drop_nil zero = refl
drop_nil (suc n) = refl

-- the bytes from a page's beginning on
from_page : (size row : ℕ) (image : Image) → ((q : ℕ) (p : Page) → slice_get image q ≡ Some p → length (bytes_of_page p) ≡ size) → drop (row * size) (raw_bytes image) ≡ raw_bytes (drop row image)
from_page size zero image sized = rw zero-mul refl
from_page size (suc row) [] sized = drop_nil (suc row * size)
from_page size (suc row) (p ∷ ps) sized =
    let step : suc row * size ≡ length (bytes_of_page p) + row * size = omega (arith, sized 0 p refl) in
    ap (λ k. drop k (bytes_of_page p ++ raw_bytes ps)) step
    ∙ (drop-append-add (bytes_of_page p) (raw_bytes ps) (row * size) ∙ from_page size row ps (λ q x is. sized (suc q) x is))

-- the page at a byte by the bytes from there on
page_after : (g : Geometry) (bytes rest : List ℕ) (at : ℕ) (p : Page) → drop at bytes ≡ bytes_of_page p ++ rest → IsPage g p → page_from g bytes at ≡ p
page_after g bytes rest at p begins sized =
    let d : ℕ = g.data_bytes in
    let first : at + d - at ≡ d = omega arith in
    let second : at + page_bytes g - (at + d) ≡ g.spare_bytes = omega arith in
    let body : slice_range bytes at (at + d) ≡ p.body =
    rw (first, begins, append_assoc p.body p.spare rest) (take_at p.body (p.spare ++ rest) d sized.body_size) in
    let tail : drop d (bytes_of_page p ++ rest) ≡ p.spare ++ rest = rw (append_assoc p.body p.spare rest) (drop_at p.body (p.spare ++ rest) d sized.body_size) in
    let spare : slice_range bytes (at + d) (at + page_bytes g) ≡ p.spare =
    rw (second, ← drop-drop d at bytes, begins, tail) (take_at p.spare rest g.spare_bytes sized.spare_size) in
    ap (λ b. page b (slice_range bytes (at + d) (at + page_bytes g))) body ∙ ap (λ s. page p.body s) spare

pub raw_image-raw_bytes : (g : Geometry) (image : Image) → IsImage g image → raw_image g (raw_bytes image) ≡ image
unfolding raw_image
raw_image-raw_bytes g image whole =
    let bytes : List ℕ = raw_bytes image in
    let f : ℕ → Page = λ row. page_from g bytes (row * page_bytes g) in
    same_lists (map f (range_with_len 0 (row_count g))) image (length-map-range_with_len f 0 (row_count g) ∙ sym whole.rows) (λ row d l.
    let within : row < row_count g = omega (arith, length-map-range_with_len f 0 (row_count g)) in
    let inside : row < length image = omega (arith, whole.rows) in
    let p : Page = get_or image row d in
    let here : slice_get image row ≡ Some p = slice_get-get_or image row d inside in
    let sized : (q : ℕ) (x : Page) → slice_get image q ≡ Some x → length (bytes_of_page x) ≡ page_bytes g =
    λ q x is. omega (arith, length-append x.body x.spare, (whole.pages q x is).body_size, (whole.pages q x is).spare_size) in
    let begins : drop (row * page_bytes g) bytes ≡ bytes_of_page p ++ raw_bytes (drop (suc row) image) =
    from_page (page_bytes g) row image sized ∙ ap raw_bytes (drop-cons image row d inside) in
    get_or-map-range_with_len f 0 (row_count g) row row d within (omega arith)
    ∙ page_after g bytes (raw_bytes (drop (suc row) image)) (row * page_bytes g) p begins (whole.pages row p here))
