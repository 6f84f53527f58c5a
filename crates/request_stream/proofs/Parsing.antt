-- Twelve bytes that spell a header.
use Rattle.std.proofs.Common.{◌≡◌, ◌<◌, ℕ, List, [], ◌∷◌, ◌++◌, length, get_or, slice_index, zero, suc, refl, sym, ap, ◌∙◌, arith, Some}
use Rattle.std.specs.Int.{to_le_bytes, from_le_bytes, w32}
use Rattle.std.proofs.lemmas.Nat.{le_bytes_4}
use Rattle.promises.specs.Stream.{Request, header_bytes, op_code, op_from}
use Rattle.promises.specs.declared.stream.Op.{Op}
use Rattle.promises.proofs.StreamLemmas.{op_law}

four_small : (a b c d : ℕ) → a < 256 → b < 256 → c < 256 → d < 256 → (i : ℕ) → get_or (a ∷ b ∷ c ∷ d ∷ []) i 0 < 256
four_small a b c d pa pb pc pd zero = pa
four_small a b c d pa pb pc pd (suc zero) = pb
four_small a b c d pa pb pc pd (suc (suc zero)) = pc
four_small a b c d pa pb pc pd (suc (suc (suc zero))) = pd
four_small a b c d pa pb pc pd (suc (suc (suc (suc i)))) = omega arith

twelve : (xs : List ℕ) → length xs ≡ 12 → xs ≡ slice_index xs 0 ∷ slice_index xs 1 ∷ slice_index xs 2 ∷ slice_index xs 3 ∷ slice_index xs 4 ∷ slice_index xs 5
    ∷ slice_index xs 6 ∷ slice_index xs 7 ∷ slice_index xs 8 ∷ slice_index xs 9 ∷ slice_index xs 10 ∷ slice_index xs 11 ∷ []
twelve (a ∷ b ∷ c ∷ d ∷ e ∷ f ∷ g ∷ h ∷ i ∷ j ∷ k ∷ l ∷ []) long = refl
twelve _ long = absurd (omega arith)

header_at : Op → ℕ → ℕ → Request
header_at op tag sector = record { op = op; tag = tag; sector = sector; body = [] }

pub spelled : (xs : List ℕ) (op : Op) (tag sector : ℕ) → length xs ≡ 12 → ((i : ℕ) → get_or xs i 0 < 256) → slice_index xs 0 ≡ 68 → slice_index xs 1 ≡ 70 → op_from (slice_index xs 2) ≡ Some op → slice_index xs 3 ≡ 0
    → tag ≡ from_le_bytes w32 (slice_index xs 4 ∷ slice_index xs 5 ∷ slice_index xs 6 ∷ slice_index xs 7 ∷ []) → sector ≡ from_le_bytes w32 (slice_index xs 8 ∷ slice_index xs 9 ∷ slice_index xs 10 ∷ slice_index xs 11 ∷ [])
    → xs ≡ header_bytes (record { op = op; tag = tag; sector = sector; body = [] })
spelled xs op tag sector long small d f code z tag_is sector_is =
    let at : ℕ → ℕ = slice_index xs in
    let t4 : List ℕ = at 4 ∷ at 5 ∷ at 6 ∷ at 7 ∷ [] in
    let s4 : List ℕ = at 8 ∷ at 9 ∷ at 10 ∷ at 11 ∷ [] in
    let tags = le_bytes_4 t4 tag refl (four_small _ _ _ _ (small 4) (small 5) (small 6) (small 7)) tag_is in
    let sectors = le_bytes_4 s4 sector refl (four_small _ _ _ _ (small 8) (small 9) (small 10) (small 11)) sector_is in
    let spell : ℕ → ℕ → ℕ → ℕ → List ℕ → List ℕ → List ℕ = λ a b o y t s. a ∷ b ∷ o ∷ y ∷ (t ++ s) in
    twelve xs long
    ∙ ap (λ (a : ℕ). spell a (at 1) (at 2) (at 3) t4 s4) d
    ∙ ap (λ (b : ℕ). spell 68 b (at 2) (at 3) t4 s4) f
    ∙ ap (λ (o : ℕ). spell 68 70 o (at 3) t4 s4) ((op_law op (at 2)).0 code)
    ∙ ap (λ (y : ℕ). spell 68 70 (op_code op) y t4 s4) z
    ∙ ap (λ (t : List ℕ). spell 68 70 (op_code op) 0 t s4) (sym tags)
    ∙ ap (λ (s : List ℕ). spell 68 70 (op_code op) 0 (to_le_bytes w32 tag) s) (sym sectors)
