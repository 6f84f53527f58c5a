-- A dump that is read without its codes, page by page.
use Rattle.std.proofs.Common.{◌≡◌, ℕ, ◌+◌, ◌*◌, ◌-◌, ◌/◌, ◌%◌, ◌<◌, ◌≤◌, zero, suc, Bool, true, false, cond, All, List, ◌++◌, length, map, take, drop, replicate, Option, Some, None, refl, sym, ap, ◌∙◌, arith}
use Rattle.std.proofs.Common.{length-append, length-take, length-drop, length-set}
use Rattle.std.specs.Prelude.{nat_le, nat_eq, slice_range}
use Rattle.std.specs.List.{concat, range_with_len}
use Rattle.std.specs.Int.{div_ceil}
use Rattle.std.specs.Option.{unwrap_or}
use Rattle.std.proofs.Math.Nat.{mul-le-mul_right}
use Rattle.std.proofs.lemmas.List.{length-take-le, length-replicate, take_at, drop_at}
use Rattle.std.proofs.lemmas.List.Elements.{All-cons, All-map}
use Rattle.std.proofs.lemmas.Grind.{div_ceil_times}
use Rattle.page_layout.specs.Page.{Page, page}
use Rattle.page_layout.specs.Raw.{bytes_of_page}
use Rattle.error_correction.specs.Flip.{turned}
use Rattle.page_code.specs.Layout.{outer_size}
use Rattle.error_correction.specs.Correct.{wrong_bits}
use Rattle.page_code.specs.Corrected.{candidates, stored, corrected, corrected_chunks, corrected_areas, lost_areas}
use Rattle.page_code.proofs.Rights.{find_fits}
use Rattle.page_code.proofs.Puts.{put_right_law}
use Rattle.std.proofs.lemmas.Bool.{eqb-true}
use Rattle.page_layout.specs.Sound.{record_of, is_filled}
use Rattle.page_layout.specs.declared.look.PageLook.TheVariants.{Unsound}
use Rattle.page_layout.specs.PageLook.{look_of}
use Rattle.lab_dump.proofs.PieceLemmas.{piece_of, pieces_size}
use Rattle.lab_correct.specs.CodedLaws.{LostPageLaw, NearPageLaw}
use Rattle.lab_dump.specs.PageBytes.{page_from_bytes}
use Rattle.lab_dump.specs.Pages.{dump_page_at}
use Rattle.lab_correct.specs.Decoded.{decoded, decoded_at, decoded_bytes, raw_size}

-- ---- sizes

turned_size : (chunk : List ℕ) (k j : ℕ) → length (turned chunk k j) ≡ length chunk
turned_size chunk k j = length-set chunk k _

abbrev Sized : List ℕ → List ℕ → Type 0
Sized chunk right = length right ≡ length chunk

candidates_sized : (chunk : List ℕ) → All (Sized chunk) (candidates chunk)
candidates_sized chunk = All-cons (Sized chunk) chunk _ refl (All-map (Sized chunk) (λ k. turned chunk (k / 8) (k % 8)) (range_with_len 0 (8 * length chunk)) (λ k d l. turned_size chunk _ _))

stored_size : (chunk code right : List ℕ) → stored chunk code ≡ Some right → length right ≡ length chunk
unfolding stored
stored_size chunk code right e = (find_fits (Sized chunk) (λ r. nat_le (wrong_bits r chunk code) 1) (candidates chunk) right (candidates_sized chunk) e).0

corrected_size : (chunk code : List ℕ) → length (corrected chunk code) ≡ length chunk
corrected_size chunk code = by (stored chunk code) refl
  where
    by : (o : Option (List ℕ)) → stored chunk code ≡ o → length (corrected chunk code) ≡ length chunk
    by None e = ap (λ o. length (unwrap_or o chunk)) e
    by (Some right) e = ap (λ o. length (unwrap_or o chunk)) e ∙ stored_size chunk code right e

chunks_size : (n : ℕ) (body codes : List ℕ) → length body ≤ 256 * n → length (corrected_chunks n body codes) ≡ length body
chunks_size zero body codes few = (let none : length body ≡ 0 = omega arith in sym none)
chunks_size (suc n) body codes few =
    let first = corrected_size (take 256 body) (take 3 codes) in
    let rest = chunks_size n (drop 256 body) (drop 3 codes) (omega (arith, length-drop 256 body)) in
    omega (arith, length-append (corrected (take 256 body) (take 3 codes)) (corrected_chunks n (drop 256 body) (drop 3 codes)), first, rest, length-take 256 body, length-drop 256 body)

-- a page of the chip has these sizes
pub record HasSizes (d s : ℕ) (r : Page) : Type 0 where
  pub body : length r.body ≡ d
  pub spare : length r.spare ≡ outer_size d s

-- a page without the codes
pub record IsSized (d s : ℕ) (p : Page) : Type 0 where
  pub body : length p.body ≡ d
  pub spare : length p.spare ≡ s

corrected_sized : (d s : ℕ) (r : Page) → HasSizes d s r → IsSized d s (corrected_areas d s r)
unfolding corrected_areas
corrected_sized d s r h = record {
  body = chunks_size (div_ceil d 256) r.body (drop (s + 3) r.spare) (let most = (div_ceil_times d 256 (omega arith)).0 in let size = h.body in omega arith) ∙ h.body;
  spare = corrected_size (take s r.spare) (take 3 (drop s r.spare)) ∙ length-take-le s r.spare (let size = h.spare in omega arith);
}

pub decoded_sized : (d s : ℕ) (r : Page) → HasSizes d s r → IsSized d s (decoded d s r)
decoded_sized d s r h = by (nat_eq (lost_areas d s r) 0)
  where
    by : (b : Bool) → IsSized d s (cond b (corrected_areas d s r) (page (replicate d 0) (replicate s 0)))
    by true = corrected_sized d s r h
    by false = record { body = length-replicate d 0; spare = length-replicate s 0 }

-- ---- the pages of a chip

-- a row of a dump lies in it
within : (raw size row : ℕ) → row < size / raw → row * raw + raw ≤ size
within raw size row l =
    let more : suc row * raw ≤ size / raw * raw = mul-le-mul_right raw l in
    let few : size / raw * raw ≤ size = omega arith in
    omega arith

row_sized : (d s row : ℕ) (all : List ℕ) → row < length all / raw_size d s → HasSizes d s (dump_page_at d (outer_size d s) all row)
unfolding dump_page_at
row_sized d s row all l =
    let raw = raw_size d s in
    let end = within raw (length all) row l in
    let bytes : List ℕ = slice_range all (row * raw) (row * raw + raw) in
    let whole : length bytes ≡ raw = omega (arith, length-take (row * raw + raw - row * raw) (drop (row * raw) all), length-drop (row * raw) all) in
    record { body = length-take-le d bytes (omega arith); spare = length-drop d bytes ∙ omega arith }

-- the pages as their bytes
abbrev piece : ℕ → ℕ → List ℕ → ℕ → List ℕ
piece d s all row = bytes_of_page (decoded_at d s all row)

piece_sized : (d s row : ℕ) (all : List ℕ) → row < length all / raw_size d s → length (piece d s all row) ≡ d + s
piece_sized d s row all l =
    let p = decoded_sized d s (dump_page_at d (outer_size d s) all row) (row_sized d s row all l) in
    omega (arith, length-append (decoded_at d s all row).body (decoded_at d s all row).spare, p.body, p.spare)

pub length-decoded_bytes : (d s : ℕ) (all : List ℕ) → length (decoded_bytes d s all) ≡ length all / raw_size d s * (d + s)
unfolding decoded_bytes
length-decoded_bytes d s all = pieces_size (piece d s all) (d + s) 0 (length all / raw_size d s) (λ r l. piece_sized d s r all (omega arith))

-- THE PAGE OF A ROW of the dump without the codes is that of the chip, so read
pub decoded_page : (d s row : ℕ) (all : List ℕ) → row < length all / raw_size d s → dump_page_at d s (decoded_bytes d s all) row ≡ decoded_at d s all row
unfolding decoded_bytes dump_page_at
decoded_page d s row all l =
    let p : Page = decoded_at d s all row in
    let sized = decoded_sized d s (dump_page_at d (outer_size d s) all row) (row_sized d s row all l) in
    let one : row * (d + s) + (d + s) - row * (d + s) ≡ d + s = omega arith in
    ap (page_from_bytes d) (ap (λ k. take k (drop (row * (d + s)) (concat (map (piece d s all) (range_with_len 0 (length all / raw_size d s)))))) one
    ∙ piece_of (piece d s all) (d + s) (length all / raw_size d s) row (λ r i. piece_sized d s r all i) l)
    ∙ (ap (λ b. page b (drop d (p.body ++ p.spare))) (take_at p.body p.spare d sized.body) ∙ ap (page p.body) (drop_at p.body p.spare d sized.body))

-- a page that was read of a row of the chip, and what it was made into
pub read_is : (d s m n row at : ℕ) (all raw bytes : List ℕ) → m ≡ raw_size d s → n ≡ raw_size d s → at ≡ row → raw ≡ slice_range all (at * m) (at * m + n) → bytes ≡ bytes_of_page (decoded d s (page_from_bytes d raw)) → row < length all / raw_size d s
    → page_from_bytes d bytes ≡ dump_page_at d s (decoded_bytes d s all) row
unfolding dump_page_at
read_is d s m n row at all raw bytes size whole place is made l =
    let there : page_from_bytes d raw ≡ dump_page_at d (outer_size d s) all row =
    ap (page_from_bytes d) (is ∙ (ap (λ k. slice_range all (at * m) (at * m + k)) whole ∙ (ap (λ k. slice_range all (at * k) (at * k + raw_size d s)) size ∙ ap (λ k. slice_range all (k * raw_size d s) (k * raw_size d s + raw_size d s)) place))) in
    let p : Page = decoded_at d s all row in
    let sized = decoded_sized d s (dump_page_at d (outer_size d s) all row) (row_sized d s row all l) in
    ap (page_from_bytes d) (made ∙ ap (λ r. bytes_of_page (decoded d s r)) there)
    ∙ ((ap (λ b. page b (drop d (p.body ++ p.spare))) (take_at p.body p.spare d sized.body) ∙ ap (page p.body) (drop_at p.body p.spare d sized.body)) ∙ sym (decoded_page d s row all l))

-- ---- what it is

pub near_page : NearPageLaw
near_page g p r is sizes bytes near =
    let put = put_right_law g p r is sizes bytes near in
    ap (λ n. cond (nat_eq n 0) (corrected_areas g.data_bytes g.spare_bytes r) (page (replicate g.data_bytes 0) (replicate g.spare_bytes 0))) put.none_lost ∙ put.page_is

-- 00h bytes are neither sound nor erased
zeros : (d s : ℕ) → look_of (page (replicate (suc d) 0) (replicate (suc (suc s)) 0)) ≡ Unsound
unfolding look_of record_of is_filled
zeros d s = refl

zero_page : (d s : ℕ) → 0 < d → 2 ≤ s → look_of (page (replicate d 0) (replicate s 0)) ≡ Unsound
zero_page zero s l m = absurd (omega arith)
zero_page (suc d) zero l m = absurd (omega arith)
zero_page (suc d) (suc zero) l m = absurd (omega arith)
zero_page (suc d) (suc (suc s)) l m = zeros d s

pub lost_page : LostPageLaw
lost_page g r lost = by (nat_eq (lost_areas g.data_bytes g.spare_bytes r) 0) refl
  where
    by : (b : Bool) → nat_eq (lost_areas g.data_bytes g.spare_bytes r) 0 ≡ b → look_of (cond b (corrected_areas g.data_bytes g.spare_bytes r) (page (replicate g.data_bytes 0) (replicate g.spare_bytes 0))) ≡ Unsound
    by true e = absurd (lost (eqb-true (lost_areas g.data_bytes g.spare_bytes r) 0 e))
    by false e = zero_page g.data_bytes g.spare_bytes (omega (arith, g.limits.data_size.least)) (omega (arith, g.limits.spare_size.least))
