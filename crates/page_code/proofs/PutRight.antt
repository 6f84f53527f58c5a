-- Chunks that are put right, one after another.
use Rattle.std.proofs.Common.{◌≡◌, ℕ, ◌+◌, ◌*◌, ◌-◌, ◌≤◌, zero, suc, min, List, ◌++◌, length, take, drop, Option, Some, None, refl, ap, ◌∙◌, arith}
use Rattle.std.specs.Option.{unwrap_or}
use Rattle.std.specs.Int.{div_ceil}
use Rattle.error_correction.specs.Bits.{AreBytes}
use Rattle.error_correction.specs.Correct.{IsChunk, wrong_bits}
use Rattle.page_code.specs.Corrected.{stored, wrong_if, lost_if, corrected, wrong_in, lost_in, corrected_chunks, sum_chunks, plain_of, plain_code, body_codes, corrected_areas, sum_areas, turned_areas, lost_areas}
use Rattle.std.proofs.lemmas.List.{nil_from_length, take_rest, take_at, drop_at}
use borrow.Rule.Slice.PartMut.{put_mid}
use Rattle.page_layout.specs.Page.{Page}
use Rattle.page_layout.specs.Raw.{bytes_of_page}
use Rattle.page_code.proofs.Parts.{first_256, after_256, rest_is, tail_put}
use Rattle.page_code.proofs.Rights.{stored_law, stored_none}

-- ---- a chunk

-- what a chunk comes to where this is what was stored
pub record IsRight (chunk code : List ℕ) (found : Option (List ℕ)) : Type 0 where
  pub chunk_is : corrected chunk code ≡ unwrap_or found chunk
  pub wrong_is : wrong_in chunk code ≡ wrong_if found chunk code
  pub lost_is : lost_in chunk code ≡ lost_if found

pub right_by : (chunk code : List ℕ) (found : Option (List ℕ)) → stored chunk code ≡ found → IsRight chunk code found
right_by chunk code found e = record {
  chunk_is = ap (λ o. unwrap_or o chunk) e;
  wrong_is = ap (λ o. wrong_if o chunk code) e;
  lost_is = ap lost_if e;
}

pub found_right : (chunk new code : List ℕ) (wrong : ℕ) → length chunk ≤ 256 → AreBytes chunk → AreBytes new → length new ≡ length chunk → length code ≡ 3 → wrong_bits new chunk code ≡ wrong → wrong ≤ 1
    → IsRight chunk code (Some new)
found_right chunk new code wrong s b n e f w l =
    right_by chunk code (Some new) ((stored_law (length chunk) chunk code new s (record { size_is = refl; bytes = b }) f).1 (record { size_is = e; bytes = n }, omega arith))

pub none_right : (chunk code : List ℕ) → AreBytes chunk → ((right : List ℕ) → IsChunk (length chunk) right → 2 ≤ wrong_bits right chunk code) → IsRight chunk code None
none_right chunk code b far = right_by chunk code None (stored_none (length chunk) chunk code (record { size_is = refl; bytes = b }) far)

-- ---- one more

pub chunks_step : (n s : ℕ) (body codes new ys : List ℕ) → (n ≡ 0 → ⊥) → s ≡ min (length body) 256 → new ≡ corrected (take s body) (take 3 codes) → ys ≡ corrected_chunks (n - 1) (drop s body) (drop 3 codes)
    → new ++ ys ≡ corrected_chunks n body codes
chunks_step zero s body codes new ys h e f g = absurd (h refl)
chunks_step (suc m) s body codes new ys h e f g =
    let same : suc m - 1 ≡ m = omega arith in
    ap (λ z. z ++ ys) (f ∙ ap (λ z. corrected z (take 3 codes)) (first_256 body s e))
    ∙ ap (λ z. corrected (take 256 body) (take 3 codes) ++ z) (g ∙ (ap (λ k. corrected_chunks k (drop s body) (drop 3 codes)) same ∙ ap (λ z. corrected_chunks m z (drop 3 codes)) (after_256 body s e)))

pub sum_step : (count : List ℕ → List ℕ → ℕ) (n s : ℕ) (body codes : List ℕ) (here rest : ℕ) → (n ≡ 0 → ⊥) → s ≡ min (length body) 256 → here ≡ count (take s body) (take 3 codes)
    → rest ≡ sum_chunks count (n - 1) (drop s body) (drop 3 codes) → here + rest ≡ sum_chunks count n body codes
sum_step count zero s body codes here rest h e f g = absurd (h refl)
sum_step count (suc m) s body codes here rest h e f g =
    let same : suc m - 1 ≡ m = omega arith in
    ap (λ z. z + rest) (f ∙ ap (λ z. count z (take 3 codes)) (first_256 body s e))
    ∙ ap (λ z. count (take 256 body) (take 3 codes) + z) (g ∙ (ap (λ k. sum_chunks count k (drop s body) (drop 3 codes)) same ∙ ap (λ z. sum_chunks count m z (drop 3 codes)) (after_256 body s e)))

pub none_step : (n : ℕ) (body codes : List ℕ) → n ≡ 0 → length body ≤ 256 * n → body ≡ corrected_chunks n body codes
none_step zero body codes e s = nil_of body (omega arith)
  where
    nil_of : (xs : List ℕ) → length xs ≡ 0 → xs ≡ corrected_chunks 0 body codes
    nil_of xs z = nil_from_length xs z
none_step (suc m) body codes e s = absurd (omega arith)

pub none_sum : (count : List ℕ → List ℕ → ℕ) (n : ℕ) (body codes : List ℕ) → n ≡ 0 → 0 ≡ sum_chunks count n body codes
none_sum count zero body codes e = refl
none_sum count (suc m) body codes e = absurd (omega arith)

-- ---- as a body lends the parts

-- a body whose front was put right is lent from there on
rest_chunks : (n s : ℕ) (body codes new ys : List ℕ) → length new ≡ s → ys ≡ corrected_chunks n (take (length (new ++ drop s body) - s) (drop s (new ++ drop s body))) (take (length codes - 3) (drop 3 codes))
    → ys ≡ corrected_chunks n (drop s body) (drop 3 codes)
rest_chunks n s body codes new ys e h = h ∙ (ap (λ z. corrected_chunks n z (take (length codes - 3) (drop 3 codes))) (rest_is s new body e) ∙ ap (λ z. corrected_chunks n (drop s body) z) (take_rest codes 3))

rest_sum : (count : List ℕ → List ℕ → ℕ) (n s : ℕ) (body codes new : List ℕ) (rest : ℕ) → length new ≡ s
    → rest ≡ sum_chunks count n (take (length (new ++ drop s body) - s) (drop s (new ++ drop s body))) (take (length codes - 3) (drop 3 codes)) → rest ≡ sum_chunks count n (drop s body) (drop 3 codes)
rest_sum count n s body codes new rest e h = h ∙ (ap (λ z. sum_chunks count n z (take (length codes - 3) (drop 3 codes))) (rest_is s new body e) ∙ ap (λ z. sum_chunks count n (drop s body) z) (take_rest codes 3))

pub chunks_more : (n s : ℕ) (body codes new ys : List ℕ) → (n ≡ 0 → ⊥) → s ≡ min (length body) 256 → length new ≡ s → new ≡ corrected (take s body) (take 3 codes)
    → ys ≡ corrected_chunks (n - 1) (take (length (new ++ drop s body) - s) (drop s (new ++ drop s body))) (take (length codes - 3) (drop 3 codes))
    → put_mid s (length (new ++ drop s body) - s) (new ++ drop s body) ys ≡ corrected_chunks n body codes
chunks_more n s body codes new ys h e size f g = tail_put s new (drop s body) ys size ∙ chunks_step n s body codes new ys h e f (rest_chunks (n - 1) s body codes new ys size g)

pub sum_more : (count : List ℕ → List ℕ → ℕ) (n s : ℕ) (body codes new : List ℕ) (here rest all : ℕ) → (n ≡ 0 → ⊥) → s ≡ min (length body) 256 → length new ≡ s → all ≡ here + rest → here ≡ count (take s body) (take 3 codes)
    → rest ≡ sum_chunks count (n - 1) (take (length (new ++ drop s body) - s) (drop s (new ++ drop s body))) (take (length codes - 3) (drop 3 codes)) → all ≡ sum_chunks count n body codes
sum_more count n s body codes new here rest all h e size a f g = a ∙ sum_step count n s body codes here rest h e f (rest_sum count (n - 1) s body codes new rest size g)

-- ---- a page

-- what was written of the two areas, one behind the other
pub page_put : (d s : ℕ) (r : Page) (bytes body spare : List ℕ) → body ≡ corrected_chunks (div_ceil d 256) r.body (body_codes s r) → spare ≡ corrected (plain_of s r) (plain_code s r) → bytes ≡ body ++ spare → bytes ≡ bytes_of_page (corrected_areas d s r)
unfolding corrected_areas
page_put d s r bytes body spare e f h = h ∙ (ap (λ z. z ++ spare) e ∙ ap (λ z. corrected_chunks (div_ceil d 256) r.body (body_codes s r) ++ z) f)

-- what was counted of both
sum_put : (count : List ℕ → List ℕ → ℕ) (d s : ℕ) (r : Page) (here rest all : ℕ) → all ≡ here + rest → here ≡ sum_chunks count (div_ceil d 256) r.body (body_codes s r) → rest ≡ count (plain_of s r) (plain_code s r) → all ≡ sum_areas count d s r
sum_put count d s r here rest all e f h = e ∙ (ap (λ z. z + rest) f ∙ ap (λ z. sum_chunks count (div_ceil d 256) r.body (body_codes s r) + z) h)

pub turned_put : (d s : ℕ) (r : Page) (here rest all : ℕ) → all ≡ here + rest → here ≡ sum_chunks wrong_in (div_ceil d 256) r.body (body_codes s r) → rest ≡ wrong_in (plain_of s r) (plain_code s r) → all ≡ turned_areas d s r
unfolding turned_areas
turned_put d s r here rest all e f h = sum_put wrong_in d s r here rest all e f h

pub lost_put : (d s : ℕ) (r : Page) (here rest all : ℕ) → all ≡ here + rest → here ≡ sum_chunks lost_in (div_ceil d 256) r.body (body_codes s r) → rest ≡ lost_in (plain_of s r) (plain_code s r) → all ≡ lost_areas d s r
unfolding lost_areas
lost_put d s r here rest all e f h = sum_put lost_in d s r here rest all e f h

-- the front of two areas is lent, and then the rest
pub front_of : (n : ℕ) (both a b : List ℕ) → both ≡ a ++ b → length a ≡ n → take n both ≡ a
front_of n both a b is e = ap (take n) is ∙ take_at a b n e

pub back_of : (n : ℕ) (both a b new : List ℕ) → both ≡ a ++ b → length a ≡ n → length new ≡ n → take (length (new ++ drop n both) - n) (drop n (new ++ drop n both)) ≡ b
back_of n both a b new is e f = rest_is n new both f ∙ (ap (drop n) is ∙ drop_at a b n e)

-- the codes of the data area, and that of the spare area, as they are lent
pub codes_of_body : (n size : ℕ) (outer : List ℕ) → n ≡ size → take (length outer - (n + 3)) (drop (n + 3) outer) ≡ drop (size + 3) outer
codes_of_body n size outer e = take_rest outer (n + 3) ∙ ap (λ k. drop (k + 3) outer) e

pub code_of_plain : (n size : ℕ) (outer : List ℕ) → n ≡ size → take (n + 3 - n) (drop n outer) ≡ take 3 (drop size outer)
code_of_plain n size outer e = let three : n + 3 - n ≡ 3 = omega arith in ap (λ k. take k (drop n outer)) three ∙ ap (λ k. take 3 (drop k outer)) e

pub chunks_at : (n m : ℕ) (body body' codes codes' : List ℕ) → n ≡ m → body ≡ body' → codes ≡ codes' → corrected_chunks n body codes ≡ corrected_chunks m body' codes'
chunks_at n m body body' codes codes' e f h = ap (λ k. corrected_chunks k body codes) e ∙ (ap (λ z. corrected_chunks m z codes) f ∙ ap (λ z. corrected_chunks m body' z) h)

pub sum_at : (count : List ℕ → List ℕ → ℕ) (n m : ℕ) (body body' codes codes' : List ℕ) → n ≡ m → body ≡ body' → codes ≡ codes' → sum_chunks count n body codes ≡ sum_chunks count m body' codes'
sum_at count n m body body' codes codes' e f h = ap (λ k. sum_chunks count k body codes) e ∙ (ap (λ z. sum_chunks count m z codes) f ∙ ap (λ z. sum_chunks count m body' z) h)

pub chunk_at : (count : List ℕ → List ℕ → ℕ) (chunk chunk' code code' : List ℕ) → chunk ≡ chunk' → code ≡ code' → count chunk code ≡ count chunk' code'
chunk_at count chunk chunk' code code' e f = ap (λ z. count z code) e ∙ ap (λ z. count chunk' z) f

pub corrected_at : (chunk chunk' code code' : List ℕ) → chunk ≡ chunk' → code ≡ code' → corrected chunk code ≡ corrected chunk' code'
corrected_at chunk chunk' code code' e f = ap (λ z. corrected z code) e ∙ ap (λ z. corrected chunk' z) f
