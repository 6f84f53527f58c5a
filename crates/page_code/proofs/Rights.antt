-- Which chunk was stored, by the candidates.
use Rattle.std.proofs.Common.{◌≡◌, ℕ, ◌+◌, ◌*◌, ◌/◌, ◌%◌, ◌<◌, ◌≤◌, zero, suc, Bool, true, false, cond, All, List, [], ◌∷◌, length, get_or, map, Some, None, refl, sym, ap, ◌∙◌, arith, subst}
use Rattle.std.specs.Prelude.{nat_le}
use Rattle.std.specs.List.{find, range_with_len}
use Rattle.std.proofs.lemmas.Option.{same_Some}
use Rattle.std.proofs.lemmas.Bool.Decides.{nat_tests}
use Rattle.std.proofs.lemmas.List.Elements.{All-cons, All-map}
use Rattle.std.proofs.lemmas.List.{length-map}
use Rattle.std.proofs.lemmas.List.FromFn.{length-range_with_len, get_or-map-range_with_len}
use Rattle.error_correction.specs.Bits.{bits_apart}
use Rattle.error_correction.specs.Correct.{IsChunk, wrong_bits}
use Rattle.error_correction.specs.Flip.{turned}
use Rattle.error_correction.proofs.Apart.{apart_sym, none_apart}
use Rattle.error_correction.proofs.Distance.{Once, once, turned_chunk}
use Rattle.error_correction.proofs.Near.{one_near}
use Rattle.page_code.specs.Corrected.{candidates, stored, StoredLaw}

-- ---- the first that passes

pub find_fits : {X : Type 0} (P : X → Type 0) (p : X → Bool) (xs : List X) (x : X) → All P xs → find p xs ≡ Some x → P x × (p x ≡ true)
find_fits P p [] x h e = absurd (let clash : None ≡ Some x = e in cc)
find_fits {X} P p (y ∷ ys) x h e = by (p y) refl e (λ f. find_fits P p ys x (λ k d l. h (suc k) d (omega arith)) f)
  where
    by : (b : Bool) → p y ≡ b → cond b (Some y) (find p ys) ≡ Some x → (find p ys ≡ Some x → P x × (p x ≡ true)) → P x × (p x ≡ true)
    by true is e more = let same : y ≡ x = same_Some y x e in (subst P same (h 0 y (omega arith)), subst (λ z. p z ≡ true) same is)
    by false is e more = more e

pub record Finds {X : Type 0} (p : X → Bool) (xs : List X) : Type 0 where
  pub its : X
  pub found : find p xs ≡ Some its

pub find_some : {X : Type 0} (p : X → Bool) (xs : List X) (k : ℕ) (d : X) → k < length xs → p (get_or xs k d) ≡ true → Finds p xs
find_some p [] k d l h = absurd (omega arith)
find_some {X} p (y ∷ ys) k d l h = by (p y) refl k l h (λ k l h. find_some p ys k d l h)
  where
    by : (b : Bool) → p y ≡ b → (k : ℕ) → k < length (y ∷ ys) → p (get_or (y ∷ ys) k d) ≡ true → ((k : ℕ) → k < length ys → p (get_or ys k d) ≡ true → Finds p ys) → Finds p (y ∷ ys)
    by true is k l h more = record { its = y; found = ap (λ b. cond b (Some y) (find p ys)) is }
    by false is zero l h more = absurd (let clash : false ≡ true = sym is ∙ h in cc)
    by false is (suc k) l h more = let f = more k (omega arith) h in record { its = f.its; found = ap (λ b. cond b (Some y) (find p ys)) is ∙ f.found }

pub find_none : {X : Type 0} (p : X → Bool) (xs : List X) → All (λ x. p x ≡ false) xs → find p xs ≡ None
find_none p [] h = refl
find_none p (y ∷ ys) h = ap (λ b. cond b (Some y) (find p ys)) (h 0 y (omega arith)) ∙ find_none p ys (λ k d l. h (suc k) d (omega arith))

-- ---- the candidates

chunks_all : (size : ℕ) (chunk : List ℕ) → IsChunk size chunk → All (IsChunk size) (candidates chunk)
chunks_all size chunk p =
    All-cons (IsChunk size) chunk (map (λ k. turned chunk (k / 8) (k % 8)) (range_with_len 0 (8 * length chunk))) p
    (All-map (IsChunk size) (λ k. turned chunk (k / 8) (k % 8)) (range_with_len 0 (8 * length chunk)) (λ k d l. turned_chunk size chunk _ _ (omega arith) p))

passes : (right chunk code : List ℕ) → wrong_bits right chunk code ≤ 1 → nat_le (wrong_bits right chunk code) 1 ≡ true
passes right chunk code h = grind (arith, nat_tests)

fails : (right chunk code : List ℕ) → 2 ≤ wrong_bits right chunk code → nat_le (wrong_bits right chunk code) 1 ≡ false
fails right chunk code h = grind (arith, nat_tests)

passed : (right chunk code : List ℕ) → nat_le (wrong_bits right chunk code) 1 ≡ true → wrong_bits right chunk code ≤ 1
passed right chunk code h = grind (arith, nat_tests)

-- a chunk near to what was read is a candidate
near_found : (size : ℕ) (chunk code right : List ℕ) → IsChunk size chunk → IsChunk size right → wrong_bits right chunk code ≤ 1 → Finds (λ r. nat_le (wrong_bits r chunk code) 1) (candidates chunk)
near_found size chunk code right p q h = by (bits_apart right chunk) refl
  where
    test : List ℕ → Bool
    test r = nat_le (wrong_bits r chunk code) 1

    here : right ≡ chunk → Finds test (candidates chunk)
    here e = find_some test (candidates chunk) 0 chunk (omega arith) (passes chunk chunk code (subst (λ r. wrong_bits r chunk code ≤ 1) e h))

    there : Once size chunk right → Finds test (candidates chunk)
    there o =
        let k : ℕ = 8 * o.at + o.bit in
        let f : ℕ → List ℕ = λ k. turned chunk (k / 8) (k % 8) in
        let at_in = o.at_in in
        let bit_in = o.bit_in in
        let whole = p.size_is in
        let within : k < 8 * length chunk = omega arith in
        let line : k / 8 ≡ o.at = omega arith in
        let bit : k % 8 ≡ o.bit = omega arith in
        let is : get_or (candidates chunk) (suc k) chunk ≡ right =
        get_or-map-range_with_len f 0 (8 * length chunk) k k chunk within (omega arith) ∙ (ap (λ i. turned chunk i (k % 8)) line ∙ (ap (λ j. turned chunk o.at j) bit ∙ sym o.is)) in
        find_some test (candidates chunk) (suc k) chunk (omega (arith, length-map (range_with_len 0 (8 * length chunk)) f, length-range_with_len 0 (8 * length chunk)))
        (ap test is ∙ passes right chunk code h)

    by : (d : ℕ) → bits_apart right chunk ≡ d → Finds test (candidates chunk)
    by zero d = here (none_apart right chunk (q.size_is ∙ sym p.size_is) d)
    by (suc zero) d = there (once size chunk right p q (apart_sym chunk right ∙ d))
    by (suc (suc n)) d = absurd (omega arith)

pub stored_law : StoredLaw
unfolding stored
stored_law size chunk code right s p e = (
  λ found.
      let f = find_fits (IsChunk size) (λ r. nat_le (wrong_bits r chunk code) 1) (candidates chunk) right (chunks_all size chunk p) found in
      (f.0, passed right chunk code f.1),
  λ near.
      let f = near_found size chunk code right p near.0 near.1 in
      let g = find_fits (IsChunk size) (λ r. nat_le (wrong_bits r chunk code) 1) (candidates chunk) f.its (chunks_all size chunk p) f.found in
      let few : wrong_bits f.its chunk code ≤ 1 = passed f.its chunk code g.1 in
      let more = near.1 in
      f.found ∙ ap Some (one_near size f.its right chunk code s g.0 near.0 p.size_is e (omega arith)),
)

pub stored_none : (size : ℕ) (chunk code : List ℕ) → IsChunk size chunk → ((right : List ℕ) → IsChunk size right → 2 ≤ wrong_bits right chunk code) → stored chunk code ≡ None
unfolding stored
stored_none size chunk code p far =
    find_none (λ r. nat_le (wrong_bits r chunk code) 1) (candidates chunk) (λ k d l. fails _ chunk code (far _ (chunks_all size chunk p k d l)))
