-- The laws on pages with codes.
use Rattle.std.proofs.Common.{◌≡◌, ◌⊎◌, inl, inr, ℕ, ◌+◌, ◌-◌, ◌*◌, ◌/◌, ◌%◌, ◌^◌, ◌<◌, ◌≤◌, zero, suc, min, Bool, true, false, List, [], ◌∷◌, ◌++◌, length, take, drop, replicate, Option, Some, None, refl, sym, ap, ◌∙◌, arith, length-take, length-drop, take-append-drop}
use Rattle.std.proofs.lemmas.Nat.{xor_of_8}
use Rattle.std.proofs.lemmas.Bool.{cases_lt}
use Rattle.std.proofs.lemmas.List.{ext_get_or, get_or-map, length-map, length-replicate, take_all, take-replicate, drop-replicate, replicate-append-replicate}
use Rattle.std.proofs.lemmas.Option.{slice_get-get_or}
use Rattle.error_correction.specs.Bits.{AreBytes, bits_apart}
use Rattle.error_correction.specs.Code.{is_odd, pairs, third, double, inner, line_of, column_of_chunk, code_of}
use Rattle.error_correction.specs.Correct.{IsChunk, wrong_bits, OwnCodeLaw}
use Rattle.error_correction.proofs.Apart.{apart_self}
use Rattle.error_correction.proofs.Near.{erased_code, two_not}
use Rattle.error_correction.proofs.Tables.{inner_fits}
use Rattle.page_layout.specs.declared.geometry.Geometry.{Geometry}
use Rattle.page_layout.specs.Geometry.{row_count}
use Rattle.page_layout.specs.Page.{Page, page, IsPage}
use Rattle.page_layout.specs.Change.{erased_page}
use Rattle.page_layout.specs.Flash.{no_page}
use Rattle.page_code.specs.Layout.{chunk_count, outer_bytes, codes_of, coded}
use Rattle.page_code.specs.Near.{AreNear, IsNear}
use Rattle.page_code.specs.Wrong.{bits_wrong}
use Rattle.page_code.specs.Corrected.{stored, lost_if, wrong_if, wrong_in, lost_in, sum_chunks, turned_areas, lost_areas, turned_bits, lost_chunks, plain_of, plain_code, body_codes}
use Rattle.page_code.proofs.Parts.{first_256, after_256, take_bytes, drop_bytes}
use Rattle.page_code.proofs.Pages.{enough, written}
use Rattle.page_code.proofs.Puts.{put_right_law}
use Rattle.page_code.proofs.Rights.{stored_law}
use Rattle.page_code.proofs.Wrongs.{more_wrong, page_wrong}
use Rattle.corrected_nand.proofs.Cleans.{lost_unsound, lost_unerased}
use Rattle.corrected_nand.proofs.Counts.{clean_law}
use Rattle.file_die.specs.Store.{page_in}
use Rattle.coded_store.specs.declared.wrong.Wrong.TheVariants.{Turned}
use Rattle.coded_store.specs.Reading.{read_as, read_image, erased_with_codes}
use Rattle.coded_store.specs.File.{IsWithCodes}
use Rattle.coded_store.specs.Laws.{HasTwoIn, HasTwoWrongBits, OneBitMendedLaw, TwoBitsLostLaw, LostIsNoPageLaw, OwnLaw, ErasedCodesLaw, FileLaw}
use Rattle.coded_store.proofs.ReadLemmas.{reads_right, reads_lost, tells_right, tells_lost, append_bytes}

-- ---- the bits that are turned back are those that are wrong

near_wrong : (size : ℕ) (right chunk code : List ℕ) → size ≤ 256 → IsChunk size chunk → IsChunk size right → length code ≡ 3 → wrong_bits right chunk code ≤ 1 → wrong_in chunk code ≡ wrong_bits right chunk code
near_wrong size right chunk code s p q e w = ap (λ o. wrong_if o chunk code) ((stored_law size chunk code right s p e).1 (q, w))

none_apart : (xs ys : List ℕ) → length xs ≡ 0 → bits_apart xs ys ≡ 0
none_apart [] ys e = refl
none_apart (x ∷ xs) ys e = absurd (omega arith)

near_sum : (n : ℕ) (right body codes : List ℕ) → length right ≡ length body → length body ≤ 256 * n → length codes ≡ 3 * n → AreBytes right → AreBytes body → AreNear n right body codes
    → sum_chunks wrong_in n body codes ≡ bits_apart right body + bits_apart (codes_of n right) codes
near_sum zero right body codes e s k p q near = omega (arith, none_apart right body (omega arith))
near_sum (suc n) right body codes e s k p q near =
    let m : ℕ = min (length body) 256 in
    let new = take 256 right in
    let ys = drop 256 right in
    let here = take 256 body in
    let first = near_wrong (length here) new here (take 3 codes) (omega (arith, length-take 256 body)) (record { size_is = refl; bytes = take_bytes 256 body q })
    (record { size_is = omega (arith, length-take 256 right, length-take 256 body, e); bytes = take_bytes 256 right p }) (omega (arith, length-take 3 codes, k)) near.0 in
    let rest = near_sum n ys (drop 256 body) (drop 3 codes) (omega (arith, length-drop 256 right, length-drop 256 body, e)) (omega (arith, length-drop 256 body, s))
    (omega (arith, length-drop 3 codes, k)) (drop_bytes 256 right p) (drop_bytes 256 body q) near.1 in
    let fits : (suc n ≡ 0 → ⊥) = λ z. omega arith in
    let same : suc n - 1 ≡ n = omega arith in
    let after : sum_chunks wrong_in n (drop 256 body) (drop 3 codes) ≡ bits_apart ys (drop m body) + bits_apart (codes_of (suc n - 1) ys) (drop 3 codes) =
    rest ∙ (ap (λ z. bits_apart ys z + bits_apart (codes_of n ys) (drop 3 codes)) (sym (after_256 body m refl)) ∙ ap (λ j. bits_apart ys (drop m body) + bits_apart (codes_of j ys) (drop 3 codes)) (sym same)) in
    let all = more_wrong (suc n) m body codes new ys (wrong_in here (take 3 codes)) (sum_chunks wrong_in n (drop 256 body) (drop 3 codes)) (sum_chunks wrong_in (suc n) body codes)
    fits refl (omega (arith, length-take 256 right, e)) (omega (arith, length-drop 256 right, e))
    (ap (λ z. wrong_bits new z (take 3 codes)) (first_256 body m refl) ∙ sym first) after refl in
    all ∙ ap (λ z. bits_apart z body + bits_apart (codes_of (suc n) z) codes) (take-append-drop 256 right)

near_bits : (g : Geometry) (p r : Page) → IsPage g p → IsWithCodes g r → IsNear g p r → turned_bits g r ≡ bits_wrong g p r
unfolding turned_areas
near_bits g p r is w near =
    let outer = w.sizes.spare_size in
    let body = near_sum (chunk_count g) p.body r.body (body_codes g.spare_bytes r) (is.body_size ∙ sym w.sizes.body_size) (omega (arith, w.sizes.body_size, enough g))
    (omega (arith, length-drop (g.spare_bytes + 3) r.spare, outer)) is.body_fits w.bytes.body near.chunks in
    let spare = near_wrong g.spare_bytes p.spare (plain_of g.spare_bytes r) (plain_code g.spare_bytes r) g.limits.spare_size.most
    (record { size_is = omega (arith, length-take g.spare_bytes r.spare, outer); bytes = take_bytes g.spare_bytes r.spare w.bytes.spare })
    (record { size_is = is.spare_size; bytes = is.spare_fits }) (omega (arith, length-take 3 (drop g.spare_bytes r.spare), length-drop g.spare_bytes r.spare, outer)) near.spare in
    page_wrong g p.body r.body p.spare r.spare (wrong_in (plain_of g.spare_bytes r) (plain_code g.spare_bytes r)) (sum_chunks wrong_in (chunk_count g) r.body (body_codes g.spare_bytes r)) _ is.spare_size (sym spare) body (omega arith)

pub mended_law : OneBitMendedLaw
mended_law g p r is w near =
    let right = put_right_law g p r is w.sizes w.bytes near in
    record {
      shows = reads_right g r right.none_lost ∙ right.page_is;
      tells = tells_right g r right.none_lost ∙ ap Turned (near_bits g p r is w near);
    }

-- ---- two wrong bits

two_in_chunk : (size : ℕ) (right chunk code : List ℕ) → size ≤ 256 → IsChunk size chunk → IsChunk size right → length code ≡ 3 → wrong_bits right chunk code ≡ 2 → lost_in chunk code ≡ 1
two_in_chunk size right chunk code s p q e w = by (stored chunk code) refl
  where
    by : (found : Option (List ℕ)) → stored chunk code ≡ found → lost_in chunk code ≡ 1
    by None f = ap lost_if f
    by (Some new) f =
        let near = (stored_law size chunk code new s p e).0 f in
        absurd (two_not size chunk code new (wrong_bits new chunk code) s p.size_is e near.0 refl near.1 right q w)

two_in_some : (n : ℕ) (right body codes : List ℕ) → length right ≡ length body → length body ≤ 256 * n → length codes ≡ 3 * n → AreBytes right → AreBytes body → HasTwoIn n right body codes → 0 < sum_chunks lost_in n body codes
two_in_some zero right body codes e s k p q two = absurd two
two_in_some (suc n) right body codes e s k p q (inl two) =
    let here = take 256 body in
    let one = two_in_chunk (length here) (take 256 right) here (take 3 codes) (omega (arith, length-take 256 body)) (record { size_is = refl; bytes = take_bytes 256 body q })
    (record { size_is = omega (arith, length-take 256 right, length-take 256 body, e); bytes = take_bytes 256 right p }) (omega (arith, length-take 3 codes, k)) two in
    omega arith
two_in_some (suc n) right body codes e s k p q (inr two) =
    let more = two_in_some n (drop 256 right) (drop 256 body) (drop 3 codes) (omega (arith, length-drop 256 right, length-drop 256 body, e)) (omega (arith, length-drop 256 body, s))
    (omega (arith, length-drop 3 codes, k)) (drop_bytes 256 right p) (drop_bytes 256 body q) two in
    omega arith

some_lost : (g : Geometry) (r : Page) → (0 < sum_chunks lost_in (chunk_count g) r.body (body_codes g.spare_bytes r)) ⊎ (lost_in (plain_of g.spare_bytes r) (plain_code g.spare_bytes r) ≡ 1) → 0 < lost_chunks g r
unfolding lost_areas
some_lost g r (inl l) = omega arith
some_lost g r (inr e) = omega arith

two_in_page : (g : Geometry) (p r : Page) → IsPage g p → IsWithCodes g r → HasTwoWrongBits g p r → 0 < lost_chunks g r
two_in_page g p r is w (inl two) =
    let outer = w.sizes.spare_size in
    some_lost g r (inr (two_in_chunk g.spare_bytes p.spare (plain_of g.spare_bytes r) (plain_code g.spare_bytes r) g.limits.spare_size.most
    (record { size_is = omega (arith, length-take g.spare_bytes r.spare, outer); bytes = take_bytes g.spare_bytes r.spare w.bytes.spare })
    (record { size_is = is.spare_size; bytes = is.spare_fits }) (omega (arith, length-take 3 (drop g.spare_bytes r.spare), length-drop g.spare_bytes r.spare, outer)) two))
two_in_page g p r is w (inr two) =
    let outer = w.sizes.spare_size in
    some_lost g r (inl (two_in_some (chunk_count g) p.body r.body (body_codes g.spare_bytes r) (is.body_size ∙ sym w.sizes.body_size) (omega (arith, w.sizes.body_size, enough g))
    (omega (arith, length-drop (g.spare_bytes + 3) r.spare, outer)) is.body_fits w.bytes.body two))

pub lost_law : TwoBitsLostLaw
lost_law g p r is w two = let some = two_in_page g p r is w two in record { shows = reads_lost g r some; tells = tells_lost g r some }

pub no_page_law : LostIsNoPageLaw
no_page_law g = record { unsound = lost_unsound g; unerased = lost_unerased g }

-- ---- a page as it is written

double_fits : (n : ℕ) → double n < 2 ^ 8
double_fits n = omega arith

pairs_fit : (odd : Bool) (n : ℕ) → pairs odd n < 2 ^ 8
pairs_fit true n = xor_of_8 (double n) 0x55 (double_fits n) (omega arith)
pairs_fit false n = xor_of_8 (double n) 0 (double_fits n) (omega arith)

third_fits : (odd : Bool) (n : ℕ) → n < 8 → third odd n < 2 ^ 8
third_fits true n l = xor_of_8 (double n * 4) 0x54 (omega arith) (omega arith)
third_fits false n l = xor_of_8 (double n * 4) 0 (omega arith) (omega arith)

code_bytes : (chunk : List ℕ) → AreBytes (code_of chunk)
code_bytes chunk zero = xor_of_8 255 _ (omega arith) (pairs_fit (is_odd (column_of_chunk chunk)) (line_of chunk / 16))
code_bytes chunk (suc zero) = xor_of_8 255 _ (omega arith) (pairs_fit (is_odd (column_of_chunk chunk)) (line_of chunk % 16))
code_bytes chunk (suc (suc zero)) = xor_of_8 255 _ (omega arith) (third_fits (is_odd (column_of_chunk chunk)) (inner (column_of_chunk chunk)) (inner_fits (column_of_chunk chunk)))
code_bytes chunk (suc (suc (suc i))) = omega arith

codes_bytes : (n : ℕ) (body : List ℕ) → AreBytes (codes_of n body)
codes_bytes zero body = λ i. omega arith
codes_bytes (suc n) body = append_bytes (code_of (take 256 body)) (codes_of n (drop 256 body)) (code_bytes (take 256 body)) (codes_bytes n (drop 256 body))

own_codes : OwnCodeLaw
own_codes chunk = omega (arith, apart_self chunk, apart_self (code_of chunk))

pub written_codes : (g : Geometry) (p : Page) → IsPage g p → IsWithCodes g (coded g p)
written_codes g p is = record {
  sizes = (written own_codes g p is).sized;
  bytes = record {
    body = is.body_fits;
    spare = append_bytes p.spare (code_of p.spare ++ codes_of (chunk_count g) p.body) is.spare_fits (append_bytes (code_of p.spare) (codes_of (chunk_count g) p.body) (code_bytes p.spare) (codes_bytes (chunk_count g) p.body));
  };
}

pub own_law : OwnLaw
own_law g p is =
    let read = mended_law g p (coded g p) is (written_codes g p is) (written own_codes g p is).near in
    record { shows = read.shows; tells = read.tells ∙ ap Turned (clean_law g p) }

-- ---- an erased page

front_erased : (m d : ℕ) → take {A = ℕ} m (replicate d 255) ≡ replicate (min d m) 255
front_erased m d = elim (cases_lt d m) [
  | inl lt ↦
      let least : d ≡ min d m = omega arith in
      take_all m (replicate d 255) (omega (arith, length-replicate {A = ℕ} d 255)) ∙ ap (λ k. replicate k 255) least
  | inr ge ↦
      let least : m ≡ min d m = omega arith in
      take-replicate m d 255 ge ∙ ap (λ k. replicate k 255) least
]

erased_codes : (n d : ℕ) → codes_of n (replicate d 255) ≡ replicate (3 * n) 255
erased_codes zero d = refl
erased_codes (suc n) d =
    let m : ℕ = min d 256 in
    let front : take {A = ℕ} 256 (replicate d 255) ≡ replicate m 255 = front_erased 256 d in
    let three : 3 + 3 * n ≡ 3 * suc n = omega arith in
    ap (λ z. code_of z ++ codes_of n (drop 256 (replicate d 255))) front
    ∙ (ap (λ z. z ++ codes_of n (drop 256 (replicate d 255))) (erased_code m)
    ∙ (ap (λ z. replicate 3 255 ++ codes_of n z) (drop-replicate 256 d 255)
    ∙ (ap (λ z. replicate 3 255 ++ z) (erased_codes n (d - 256)) ∙ (replicate-append-replicate 3 (3 * n) 255 ∙ ap (λ k. replicate k 255) three))))

pub erased_law : ErasedCodesLaw
erased_law g =
    let s = g.spare_bytes in
    let n = chunk_count g in
    let sum : s + (3 + 3 * n) ≡ outer_bytes g = omega arith in
    ap (λ z. page (replicate g.data_bytes 255) z)
    (ap (λ z. replicate s 255 ++ (z ++ codes_of n (replicate g.data_bytes 255))) (erased_code s)
    ∙ (ap (λ z. replicate s 255 ++ (replicate 3 255 ++ z)) (erased_codes n g.data_bytes)
    ∙ (ap (λ z. replicate s 255 ++ z) (replicate-append-replicate 3 (3 * n) 255)
    ∙ (replicate-append-replicate s (3 + 3 * n) 255 ∙ ap (λ k. replicate k 255) sum))))

fill_bytes : (n : ℕ) → AreBytes (replicate n 255)
fill_bytes zero i = omega arith
fill_bytes (suc n) zero = omega arith
fill_bytes (suc n) (suc i) = fill_bytes n i

erased_sized : (g : Geometry) → IsPage g (erased_page g)
erased_sized g = record {
  body_size = length-replicate g.data_bytes 255;
  spare_size = length-replicate g.spare_bytes 255;
  body_fits = fill_bytes g.data_bytes;
  spare_fits = fill_bytes g.spare_bytes;
}

pub erased_reads : (g : Geometry) → read_as g (erased_with_codes g) ≡ erased_page g
erased_reads g = ap (read_as g) (sym (erased_law g)) ∙ (own_law g (erased_page g) (erased_sized g)).shows

-- ---- a file

pub file_law : FileLaw
file_law g image stand is near =
    ext_get_or no_page (read_image g stand) image (length-map stand (read_as g) ∙ (near.rows ∙ sym is.rows)) (λ row l.
    let in_stand : row < length stand = omega (arith, length-map stand (read_as g), l) in
    let in_rows : row < row_count g = omega (arith, near.rows) in
    let in_image : row < length image = omega (arith, is.rows) in
    get_or-map (read_as g) stand row no_page no_page in_stand
    ∙ (mended_law g (page_in image row) (page_in stand row) (is.pages row (page_in image row) (slice_get-get_or image row no_page in_image)) (near.with_codes row in_rows) (near.near row in_rows)).shows)
