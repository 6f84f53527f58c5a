-- Pages with codes, as they read: what is shown is a page of the die.
use Rattle.std.proofs.Common.{◌≡◌, ℕ, ◌+◌, ◌*◌, ◌<◌, ◌≤◌, zero, suc, Bool, true, false, cond, eqb, List, [], ◌∷◌, ◌++◌, length, take, drop, Option, Some, None, refl, sym, ap, ◌∙◌, subst, arith, length-take, length-drop, length-append}
use Rattle.std.specs.Option.{unwrap_or}
use Rattle.std.proofs.lemmas.Bool.Decides.{nat_tests}
use Rattle.error_correction.specs.Bits.{AreBytes}
use Rattle.error_correction.specs.Correct.{IsChunk}
use Rattle.error_correction.proofs.Flips.{rest_bytes}
use Rattle.page_layout.specs.declared.geometry.Geometry.{Geometry}
use Rattle.page_layout.specs.Page.{Page, IsPage}
use Rattle.page_code.specs.Layout.{chunk_count}
use Rattle.page_code.specs.Corrected.{stored, corrected, corrected_chunks, corrected_areas, corrected_page, turned_bits, lost_chunks, plain_of, plain_code, body_codes}
use Rattle.page_code.proofs.Parts.{take_bytes, drop_bytes}
use Rattle.page_code.proofs.Pages.{enough}
use Rattle.page_code.proofs.Rights.{stored_law}
use Rattle.corrected_nand.specs.Shown.{lost_page}
use Rattle.corrected_nand.proofs.Cleans.{lost_sized}
use Rattle.coded_store.specs.declared.wrong.Wrong.TheVariants.{Turned, Lost}
use Rattle.coded_store.specs.Reading.{read_as, wrong_with}
use Rattle.coded_store.specs.File.{IsWithCodes}

-- ---- what a page reads as

none_lost : (n : ℕ) → n ≡ 0 → eqb n 0 ≡ true
none_lost n e = grind (arith, nat_tests)

some_lost : (n : ℕ) → 0 < n → eqb n 0 ≡ false
some_lost n l = grind (arith, nat_tests)

pub reads_right : (g : Geometry) (r : Page) → lost_chunks g r ≡ 0 → read_as g r ≡ corrected_page g r
unfolding read_as
reads_right g r e = ap (λ (b : Bool). cond b (corrected_page g r) (lost_page g)) (none_lost (lost_chunks g r) e)

pub reads_lost : (g : Geometry) (r : Page) → 0 < lost_chunks g r → read_as g r ≡ lost_page g
unfolding read_as
reads_lost g r l = ap (λ (b : Bool). cond b (corrected_page g r) (lost_page g)) (some_lost (lost_chunks g r) l)

pub tells_right : (g : Geometry) (r : Page) → lost_chunks g r ≡ 0 → wrong_with g r ≡ Turned (turned_bits g r)
unfolding wrong_with
tells_right g r e = ap (λ (b : Bool). cond b (Turned (turned_bits g r)) Lost) (none_lost (lost_chunks g r) e)

pub tells_lost : (g : Geometry) (r : Page) → 0 < lost_chunks g r → wrong_with g r ≡ Lost
unfolding wrong_with
tells_lost g r l = ap (λ (b : Bool). cond b (Turned (turned_bits g r)) Lost) (some_lost (lost_chunks g r) l)

-- ---- sizes

pub append_bytes : (xs ys : List ℕ) → AreBytes xs → AreBytes ys → AreBytes (xs ++ ys)
append_bytes [] ys p q i = q i
append_bytes (x ∷ xs) ys p q zero = p 0
append_bytes (x ∷ xs) ys p q (suc i) = append_bytes xs ys (rest_bytes x xs p) q i

-- a chunk that is put right is one of the same size
pub chunk_right : (size : ℕ) (chunk code : List ℕ) → size ≤ 256 → IsChunk size chunk → length code ≡ 3 → IsChunk size (corrected chunk code)
chunk_right size chunk code s p e = by (stored chunk code) refl
  where
    by : (found : Option (List ℕ)) → stored chunk code ≡ found → IsChunk size (corrected chunk code)
    by None f = subst (IsChunk size) (sym (ap (λ o. unwrap_or o chunk) f)) p
    by (Some right) f = subst (IsChunk size) (sym (ap (λ o. unwrap_or o chunk) f)) ((stored_law size chunk code right s p e).0 f).0

pub chunks_right : (n : ℕ) (body codes : List ℕ) → length body ≤ 256 * n → length codes ≡ 3 * n → AreBytes body → IsChunk (length body) (corrected_chunks n body codes)
chunks_right zero body codes s e b = record { size_is = omega arith; bytes = λ i. omega arith }
chunks_right (suc n) body codes s e b =
    let here = take 256 body in
    let first = chunk_right (length here) here (take 3 codes) (omega (arith, length-take 256 body)) (record { size_is = refl; bytes = take_bytes 256 body b }) (omega (arith, length-take 3 codes, e)) in
    let rest = chunks_right n (drop 256 body) (drop 3 codes) (omega (arith, length-drop 256 body, s)) (omega (arith, length-drop 3 codes, e)) (drop_bytes 256 body b) in
    record {
      size_is = omega (arith, length-append (corrected here (take 3 codes)) (corrected_chunks n (drop 256 body) (drop 3 codes)), first.size_is, rest.size_is, length-take 256 body, length-drop 256 body);
      bytes = append_bytes (corrected here (take 3 codes)) (corrected_chunks n (drop 256 body) (drop 3 codes)) first.bytes rest.bytes;
    }

pub corrected_sized : (g : Geometry) (r : Page) → IsWithCodes g r → IsPage g (corrected_page g r)
unfolding corrected_areas
corrected_sized g r h =
    let outer = h.sizes.spare_size in
    let body = chunks_right (chunk_count g) r.body (body_codes g.spare_bytes r) (omega (arith, h.sizes.body_size, enough g)) (omega (arith, length-drop (g.spare_bytes + 3) r.spare, outer)) h.bytes.body in
    let spare = chunk_right g.spare_bytes (plain_of g.spare_bytes r) (plain_code g.spare_bytes r) g.limits.spare_size.most
    (record { size_is = omega (arith, length-take g.spare_bytes r.spare, outer); bytes = take_bytes g.spare_bytes r.spare h.bytes.spare })
    (omega (arith, length-take 3 (drop g.spare_bytes r.spare), length-drop g.spare_bytes r.spare, outer)) in
    record { body_size = body.size_is ∙ h.sizes.body_size; spare_size = spare.size_is; body_fits = body.bytes; spare_fits = spare.bytes }

pub read_sized : (g : Geometry) (r : Page) → IsWithCodes g r → IsPage g (read_as g r)
read_sized g r h = by (lost_chunks g r) refl
  where
    by : (n : ℕ) → lost_chunks g r ≡ n → IsPage g (read_as g r)
    by zero e = subst (IsPage g) (sym (reads_right g r e)) (corrected_sized g r h)
    by (suc n) e = subst (IsPage g) (sym (reads_lost g r (omega arith))) (lost_sized g)
