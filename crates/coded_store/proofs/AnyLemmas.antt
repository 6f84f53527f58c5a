-- What any bytes of a page with its codes read as.
use Rattle.std.proofs.Common.{◌≡◌, ◌⊎◌, inl, inr, ℕ, ◌+◌, ◌*◌, ◌≤◌, zero, suc, min, List, length, take, drop, Option, Some, None, refl, sym, ap, subst, arith, length-take, length-drop}
use Rattle.std.specs.Option.{unwrap_or}
use Rattle.error_correction.specs.Bits.{AreBytes}
use Rattle.error_correction.specs.Correct.{IsChunk, wrong_bits}
use Rattle.page_layout.specs.declared.geometry.Geometry.{Geometry}
use Rattle.page_layout.specs.Page.{Page}
use Rattle.page_code.specs.Layout.{chunk_count}
use Rattle.page_code.specs.Near.{AreNear, IsNear}
use Rattle.page_code.specs.Corrected.{stored, lost_if, lost_in, corrected, corrected_chunks, corrected_areas, corrected_page, sum_chunks, lost_areas, lost_chunks, plain_of, plain_code, body_codes}
use Rattle.page_code.proofs.Parts.{parts, take_bytes, drop_bytes}
use Rattle.page_code.proofs.Pages.{enough}
use Rattle.page_code.proofs.Puts.{put_right_law}
use Rattle.page_code.proofs.Rights.{stored_law}
use Rattle.coded_store.specs.File.{IsWithCodes}
use Rattle.coded_store.specs.Laws.{IsMended, IsFarAndLost, AnyLaw}
use Rattle.coded_store.proofs.LawLemmas.{mended_law}
use Rattle.coded_store.proofs.ReadLemmas.{chunk_right, chunks_right, corrected_sized, reads_lost, tells_lost}

-- a chunk that is not lost is near to what was read
near_chunk : (size : ℕ) (chunk code : List ℕ) → size ≤ 256 → IsChunk size chunk → length code ≡ 3 → lost_in chunk code ≡ 0 → wrong_bits (corrected chunk code) chunk code ≤ 1
near_chunk size chunk code s p e none = by (stored chunk code) refl
  where
    by : (found : Option (List ℕ)) → stored chunk code ≡ found → wrong_bits (corrected chunk code) chunk code ≤ 1
    by None f = absurd (let lost : lost_in chunk code ≡ 1 = ap lost_if f in omega arith)
    by (Some right) f =
        let is : right ≡ corrected chunk code = sym (ap (λ o. unwrap_or o chunk) f) in
        subst (λ z. wrong_bits z chunk code ≤ 1) is ((stored_law size chunk code right s p e).0 f).1

near_chunks : (n : ℕ) (body codes : List ℕ) → length body ≤ 256 * n → length codes ≡ 3 * n → AreBytes body → sum_chunks lost_in n body codes ≡ 0 → AreNear n (corrected_chunks n body codes) body codes
near_chunks zero body codes s e b none = tt
near_chunks (suc n) body codes s e b none =
    let m : ℕ = min (length body) 256 in
    let here = take 256 body in
    let code = take 3 codes in
    let rest = corrected_chunks n (drop 256 body) (drop 3 codes) in
    let long : length code ≡ 3 = omega (arith, length-take 3 codes, e) in
    let whole : IsChunk (length here) here = record { size_is = refl; bytes = take_bytes 256 body b } in
    let few : length here ≤ 256 = omega (arith, length-take 256 body) in
    let lost_here : lost_in here code ≡ 0 = omega arith in
    let lost_rest : sum_chunks lost_in n (drop 256 body) (drop 3 codes) ≡ 0 = omega arith in
    let first = chunk_right (length here) here code few whole long in
    let more : length (drop 256 body) ≤ 256 * n = omega (arith, length-drop 256 body, s) in
    let codes_left : length (drop 3 codes) ≡ 3 * n = omega (arith, length-drop 3 codes, e) in
    let after = chunks_right n (drop 256 body) (drop 3 codes) more codes_left (drop_bytes 256 body b) in
    let both = parts (length body) m (corrected here code) rest refl (omega (arith, first.size_is, length-take 256 body)) (omega (arith, after.size_is, length-drop 256 body)) in (
      subst (λ z. wrong_bits z here code ≤ 1) (sym both.first) (near_chunk (length here) here code few whole long lost_here),
      subst (λ z. AreNear n z (drop 256 body) (drop 3 codes)) (sym both.rest) (near_chunks n (drop 256 body) (drop 3 codes) more codes_left (drop_bytes 256 body b) lost_rest),
    )

-- of a page none of whose chunks is lost
near_page : (g : Geometry) (r : Page) → IsWithCodes g r → lost_chunks g r ≡ 0 → IsNear g (corrected_page g r) r
unfolding corrected_areas lost_areas
near_page g r w none =
    let outer = w.sizes.spare_size in
    record {
      spare = near_chunk g.spare_bytes (plain_of g.spare_bytes r) (plain_code g.spare_bytes r) g.limits.spare_size.most
          (record { size_is = omega (arith, length-take g.spare_bytes r.spare, outer); bytes = take_bytes g.spare_bytes r.spare w.bytes.spare })
          (omega (arith, length-take 3 (drop g.spare_bytes r.spare), length-drop g.spare_bytes r.spare, outer)) (omega arith);
      chunks = near_chunks (chunk_count g) r.body (body_codes g.spare_bytes r) (omega (arith, w.sizes.body_size, enough g)) (omega (arith, length-drop (g.spare_bytes + 3) r.spare, outer)) w.bytes.body (omega arith);
    }

pub any_law : AnyLaw
any_law g r w = by (lost_chunks g r) refl
  where
    by : (n : ℕ) → lost_chunks g r ≡ n → IsMended g r ⊎ IsFarAndLost g r
    by zero e =
        let is = corrected_sized g r w in
        let near = near_page g r w e in
        inl (record { page = corrected_page g r; is_page = is; near = near; reads = mended_law g (corrected_page g r) r is w near })
    by (suc n) e = inr (record {
      far = λ p is near. let right = put_right_law g p r is w.sizes w.bytes near in let none = right.none_lost in omega arith;
      reads = record { shows = reads_lost g r (omega arith); tells = tells_lost g r (omega arith) };
    })
