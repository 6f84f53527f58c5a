-- STEPS: from a value to another one, by so many of one kind.
use Rattle.std.specs.Prelude.{◌≡◌, ℕ, suc, zero}

unfoldable pub Times : {D : Type 0} → (R : D → D → Type 0) → ℕ → (old new : D) → Type 0
Times R zero old new = new ≡ old
Times {D} R (suc n) old new = (mid : D) × Times R n old mid × R mid new

-- by any number
abbrev pub Through : {D : Type 0} → (R : D → D → Type 0) → (old new : D) → Type 0
Through R old new = (n : ℕ) × Times R n old new
