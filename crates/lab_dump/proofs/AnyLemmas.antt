-- Whether some of the first numbers pass a test.
use Rattle.std.proofs.Common.{◌≡◌, inl, inr, ℕ, zero, suc, ◌<◌, Bool, true, false, [], ◌∷◌, refl, sym, ap, ◌∙◌, arith}
use Rattle.std.specs.Prelude.{◌||◌}
use Rattle.std.specs.List.{list_any, range_with_len}
use Rattle.std.proofs.Math.Arith.{lt_of_le-ne}
use Rattle.std.proofs.Math.Bool.{or-true}
use Rattle.std.proofs.lemmas.Bool.{cases_eq}
use Rattle.std.proofs.lemmas.List.Folds.{list_any-append}
use Rattle.lab_dump.proofs.CountLemmas.{range_last}

pub any_more : (f : ℕ → Bool) (n : ℕ) → list_any f (range_with_len 0 (suc n)) ≡ (list_any f (range_with_len 0 n) || f n)
any_more f n = ap (list_any f) (range_last 0 n n (omega arith)) ∙ (list_any-append f (range_with_len 0 n) (n ∷ []) ∙ ap (λ b. list_any f (range_with_len 0 n) || b) (alone (f n)))
  where
    alone : (b : Bool) → (b || false) ≡ b
    alone true = refl
    alone false = refl

pub any_same : (f h : ℕ → Bool) (n : ℕ) → ((i : ℕ) → i < n → f i ≡ h i) → list_any f (range_with_len 0 n) ≡ list_any h (range_with_len 0 n)
any_same f h zero e = refl
any_same f h (suc n) e = any_more f n ∙ (ap (λ b. b || f n) (any_same f h n (λ i l. e i (omega arith))) ∙ (ap (λ b. list_any h (range_with_len 0 n) || b) (e n (omega arith)) ∙ sym (any_more h n)))

pub any_at : (f : ℕ → Bool) (n i : ℕ) → i < n → f i ≡ true → list_any f (range_with_len 0 n) ≡ true
any_at f zero i l e = absurd (omega arith)
any_at f (suc n) i l e = elim (cases_eq i n) [
  | inl same ↦ any_more f n ∙ (ap (λ b. list_any f (range_with_len 0 n) || b) (ap f (sym same) ∙ e) ∙ or-true (list_any f (range_with_len 0 n)))
  | inr ne ↦ any_more f n ∙ ap (λ b. b || f n) (any_at f n i (lt_of_le-ne (omega arith) ne) e)
]
