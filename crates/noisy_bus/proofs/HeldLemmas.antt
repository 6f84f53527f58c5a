-- The bytes that are held in a register.
use Rattle.std.proofs.Common.{◌≡◌, ℕ, zero, suc, ◌+◌, ◌-◌, ◌≤◌, List, [], ◌∷◌, ◌++◌, length, take, drop, refl, sym, ap, subst, ◌∙◌, arith, length-take, length-drop, length-append}
use Rattle.std.specs.Prelude.{slice_range}
use Rattle.std.proofs.lemmas.List.{take_at, append_assoc, drop-take}
use Rattle.std.proofs.Math.Seq.{drop-drop}

-- the front of a register
front : (register : List ℕ) (end : ℕ) → slice_range register 0 end ≡ take end register
front register end = let all : end - 0 ≡ end = omega arith in ap (λ k. take k register) all

-- more bytes behind those from the beginning to here
pub more_held : (register bytes rest : List ℕ) (first end : ℕ) → first ≡ 0 → end ≤ length register → slice_range (take end register ++ (bytes ++ rest)) first (end + length bytes) ≡ slice_range register first end ++ bytes
more_held register bytes rest first end none l =
    let size : length (take end register) ≡ end = omega (arith, length-take end register) in
    let both : take (end + length bytes) ((take end register ++ bytes) ++ rest) ≡ take end register ++ bytes = take_at (take end register ++ bytes) rest (end + length bytes) (omega (arith, length-append (take end register) bytes)) in
    let at : slice_range (take end register ++ (bytes ++ rest)) 0 (end + length bytes) ≡ slice_range register 0 end ++ bytes =
    front (take end register ++ (bytes ++ rest)) (end + length bytes) ∙ (ap (take (end + length bytes)) (sym (append_assoc (take end register) bytes rest)) ∙ (both ∙ ap (λ z. z ++ bytes) (sym (front register end)))) in
    subst (λ k. slice_range (take end register ++ (bytes ++ rest)) k (end + length bytes) ≡ slice_range register k end ++ bytes) (sym none) at

take_less : (n m : ℕ) (xs : List ℕ) → n ≤ m → take n (take m xs) ≡ take n xs
take_less zero m xs l = refl
take_less (suc n) zero xs l = absurd (omega arith)
take_less (suc n) (suc m) [] l = refl
take_less (suc n) (suc m) (x ∷ xs) l = ap (λ ys. x ∷ ys) (take_less n m xs (omega arith))

-- the bytes that were put out, and those that are left
pub put_out : (register : List ℕ) (first end n : ℕ) → n ≤ end - first → slice_range register first (first + n) ≡ take n (slice_range register first end)
put_out register first end n l =
    let size : first + n - first ≡ n = omega arith in
    ap (λ k. take k (drop first register)) size ∙ sym (take_less n (end - first) (drop first register) l)

pub still_held : (register : List ℕ) (first end n : ℕ) → n ≤ end - first → slice_range register (first + n) end ≡ drop n (slice_range register first end)
still_held register first end n l =
    let less : end - (first + n) ≡ end - first - n = omega arith in
    let all : n + (end - first - n) ≡ end - first = omega arith in
    ap (λ k. take k (drop (first + n) register)) less
    ∙ (ap (take (end - first - n)) (sym (drop-drop n first register)) ∙ (sym (drop-take n (end - first - n) (drop first register)) ∙ ap (λ k. drop n (take k (drop first register))) all))

pub held_size : (register : List ℕ) (first end : ℕ) → end ≤ length register → length (slice_range register first end) ≡ end - first
held_size register first end l = omega (arith, length-take (end - first) (drop first register), length-drop first register)

-- a part of a register that was written has changed no length
pub part_size : (old new : List ℕ) (end n : ℕ) → end + n ≤ length old → length new ≡ n → length (take end old ++ (new ++ drop (end + n - end) (drop end old))) ≡ length old
part_size old new end n l e =
    let rest : List ℕ = drop (end + n - end) (drop end old) in
    omega (arith, e, length-append (take end old) (new ++ rest), length-append new rest, length-take end old, length-drop (end + n - end) (drop end old), length-drop end old)
