-- The code of a byte 01h behind bytes 00h.
use Rattle.std.proofs.Common.{◌≡◌, ℕ, ◌+◌, zero, suc, Bool, true, cond, List, [], ◌∷◌, ◌++◌, replicate, refl, sym, ap, ◌∙◌, arith}
use Rattle.std.specs.Int.Bits.{bit_xor, xor_zero_l, xor_zero_r}
use Rattle.error_correction.specs.Code.{is_odd, inner, pairs, third, line_from, column_of_chunk, code_from, code_of}
use Rattle.error_correction.proofs.Tables.{odd8_is, inner8_is}
use Rattle.corrected_laws.specs.Laws.{CodeOrderLaw}

line_behind : (at n : ℕ) → line_from at (replicate n 0 ++ 1 ∷ []) ≡ at + n
line_behind at zero = ap (λ (o : Bool). bit_xor (cond o at 0) 0) (odd8_is 1 (omega arith)) ∙ xor_zero_r at ∙ omega arith
line_behind at (suc n) =
    ap (λ (o : Bool). bit_xor (cond o at 0) (line_from (at + 1) (replicate n 0 ++ 1 ∷ []))) (odd8_is 0 (omega arith))
    ∙ xor_zero_l (line_from (at + 1) (replicate n 0 ++ 1 ∷ [])) ∙ line_behind (at + 1) n ∙ omega arith

column_behind : (n : ℕ) → column_of_chunk (replicate n 0 ++ 1 ∷ []) ≡ 1
column_behind zero = refl
column_behind (suc n) = xor_zero_l (column_of_chunk (replicate n 0 ++ 1 ∷ [])) ∙ column_behind n

from_16 : code_from 16 1 ≡ 0xA9 ∷ 0xAA ∷ 0xAB ∷ []
from_16 =
    ap (λ (o : Bool). bit_xor 0xFF (pairs o 1) ∷ bit_xor 0xFF (pairs o 0) ∷ bit_xor 0xFF (third o (inner 1)) ∷ []) (odd8_is 1 (omega arith))
    ∙ ap (λ (n : ℕ). 0xA9 ∷ 0xAA ∷ bit_xor 0xFF (third true n) ∷ []) (inner8_is 1 (omega arith))

pub code_order : CodeOrderLaw
code_order =
    ap (λ (l : ℕ). code_from l (column_of_chunk (replicate 16 0 ++ 1 ∷ []))) (line_behind 0 16)
    ∙ ap (λ (c : ℕ). code_from 16 c) (column_behind 16) ∙ from_16
