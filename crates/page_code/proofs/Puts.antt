-- A page that is near is put right.
use Rattle.std.proofs.Common.{◌≡◌, ℕ, ◌+◌, ◌*◌, ◌≤◌, zero, suc, List, ◌++◌, length, take, drop, Some, refl, sym, ap, ◌∙◌, arith, length-take, length-drop, take-append-drop}
use Rattle.std.proofs.lemmas.List.{nil_from_length}
use Rattle.page_layout.specs.Page.{page}
use Rattle.error_correction.specs.Bits.{AreBytes}
use Rattle.error_correction.specs.Correct.{wrong_bits}
use Rattle.page_code.specs.Layout.{chunk_count}
use Rattle.page_code.specs.Near.{AreNear}
use Rattle.page_code.specs.Corrected.{corrected, lost_in, corrected_chunks, sum_chunks, corrected_areas, lost_areas, plain_of, plain_code, body_codes, PutRightLaw}
use Rattle.page_code.proofs.Parts.{take_bytes, drop_bytes}
use Rattle.page_code.proofs.Pages.{enough}
use Rattle.page_code.proofs.Rights.{stored_law}
use Rattle.page_code.proofs.PutRight.{IsRight, right_by}

-- a chunk that is near to what was read is what it comes to
near_right : (right chunk code : List ℕ) → length chunk ≤ 256 → AreBytes chunk → AreBytes right → length right ≡ length chunk → length code ≡ 3 → wrong_bits right chunk code ≤ 1 → IsRight chunk code (Some right)
near_right right chunk code s b n e f w =
    right_by chunk code (Some right) ((stored_law (length chunk) chunk code right s (record { size_is = refl; bytes = b }) f).1 (record { size_is = e; bytes = n }, w))

pub record AreRight (n : ℕ) (right body codes : List ℕ) : Type 0 where
  pub is : corrected_chunks n body codes ≡ right
  pub none : sum_chunks lost_in n body codes ≡ 0

chunks_right : (n : ℕ) (right body codes : List ℕ) → length right ≡ length body → length body ≤ 256 * n → length codes ≡ 3 * n → AreBytes right → AreBytes body → AreNear n right body codes → AreRight n right body codes
chunks_right zero right body codes e s k p q near = record { is = sym (nil_from_length right (omega arith)); none = refl }
chunks_right (suc n) right body codes e s k p q near =
    let first = near_right (take 256 right) (take 256 body) (take 3 codes) (omega (arith, length-take 256 body)) (take_bytes 256 body q) (take_bytes 256 right p)
    (omega (arith, length-take 256 right, length-take 256 body, e)) (omega (arith, length-take 3 codes, k)) near.0 in
    let rest = chunks_right n (drop 256 right) (drop 256 body) (drop 3 codes) (omega (arith, length-drop 256 right, length-drop 256 body, e)) (omega (arith, length-drop 256 body, s))
    (omega (arith, length-drop 3 codes, k)) (drop_bytes 256 right p) (drop_bytes 256 body q) near.1 in
    record {
      is = ap (λ z. z ++ corrected_chunks n (drop 256 body) (drop 3 codes)) first.chunk_is ∙ (ap (λ z. take 256 right ++ z) rest.is ∙ take-append-drop 256 right);
      none = let one = first.lost_is in let more = rest.none in omega arith;
    }

pub put_right_law : PutRightLaw
unfolding corrected_areas lost_areas
put_right_law g p r is sizes bytes near =
    let small : g.spare_bytes ≤ 256 = g.limits.spare_size.most in
    let outer = sizes.spare_size in
    let body = chunks_right (chunk_count g) p.body r.body (body_codes g.spare_bytes r) (is.body_size ∙ sym sizes.body_size) (omega (arith, sizes.body_size, enough g))
    (omega (arith, length-drop (g.spare_bytes + 3) r.spare, outer)) is.body_fits bytes.body near.chunks in
    let spare = near_right p.spare (plain_of g.spare_bytes r) (plain_code g.spare_bytes r) (omega (arith, length-take g.spare_bytes r.spare)) (take_bytes g.spare_bytes r.spare bytes.spare) is.spare_fits
    (omega (arith, length-take g.spare_bytes r.spare, outer, is.spare_size)) (omega (arith, length-take 3 (drop g.spare_bytes r.spare), length-drop g.spare_bytes r.spare, outer)) near.spare in
    record {
      page_is = ap (λ z. page z (corrected (plain_of g.spare_bytes r) (plain_code g.spare_bytes r))) body.is ∙ ap (λ z. page p.body z) spare.chunk_is;
      none_lost = let one = spare.lost_is in let more = body.none in omega arith;
    }
