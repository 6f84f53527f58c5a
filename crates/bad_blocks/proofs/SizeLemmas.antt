-- The words of a page's data area.
use Rattle.std.proofs.Common.{◌≡◌, ℕ, ◌+◌, ◌*◌, ◌/◌, ◌%◌, ◌^◌, ◌≤◌, sym, ap, ◌∙◌, arith, inl, inr}
use Rattle.std.specs.Prelude.{count_ones}
use Rattle.std.proofs.lemmas.Nat.{ones_cat, zero_from_ones}
use Rattle.std.proofs.lemmas.Bool.{eqb-true, cases_eq}
use Rattle.page_layout.specs.Limits.{IsDataSize}

-- a power of two of four or more is so many times four
power_whole : (n : ℕ) → count_ones n ≡ 1 → 4 ≤ n → n % 4 ≡ 0
power_whole n one least =
    let split : n / 4 * 2 ^ 2 + n % 4 ≡ n = omega arith in
    let ones : count_ones (n / 4) + count_ones (n % 4) ≡ 1 = sym (ones_cat 2 (n / 4) (n % 4) (omega arith)) ∙ (ap count_ones split ∙ one) in
    elim (cases_eq (count_ones (n / 4)) 0) [
      | inl none ↦ let zero_high : n / 4 ≡ 0 = zero_from_ones (n / 4) none in absurd (omega arith)
      | inr some ↦ zero_from_ones (n % 4) (omega arith)
    ]

pub whole_words : (n : ℕ) → IsDataSize n → 4 * (n / 4) ≡ n
whole_words n size =
    let rest : n % 4 ≡ 0 = power_whole n (eqb-true (count_ones n) 1 size.power) (omega (arith, size.least)) in
    omega arith
