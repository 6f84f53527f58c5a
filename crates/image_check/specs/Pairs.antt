-- Pairs of a sequence and a row, in order.
use Rattle.std.specs.Prelude.{◌≡◌, ◌≢◌, ℕ, ◌+◌, ◌<◌, ◌≤◌, ◌⊎◌, List, length, get_or}

-- of two pairs the first is not above the second: by sequence, and by row where those are the same
abbrev pub IsInOrder : ℕ × ℕ → ℕ × ℕ → Type 0
IsInOrder p q = (p.0 < q.0) ⊎ ((p.0 ≡ q.0) × (p.1 ≤ q.1))

pub record AreInOrder (pairs : List (ℕ × ℕ)) : Type 0 where
  pub ordered : (i j : ℕ) → i ≤ j → j < length pairs → IsInOrder (get_or pairs i (0, 0)) (get_or pairs j (0, 0))

-- no two neighbours among the first n share a sequence
pub record DifferBelow (n : ℕ) (pairs : List (ℕ × ℕ)) : Type 0 where
  pub differ : (i : ℕ) → i + 1 < n → (get_or pairs i (0, 0)).0 ≢ (get_or pairs (i + 1) (0, 0)).0

-- two neighbours among the first n share a sequence and have these rows, and no such neighbours have a lower second row
pub record IsLowestBelow (n : ℕ) (pairs : List (ℕ × ℕ)) (first second : ℕ) : Type 0 where
  pub place : ℕ
  pub within : place + 1 < n
  pub same : (get_or pairs place (0, 0)).0 ≡ (get_or pairs (place + 1) (0, 0)).0
  pub first_is : first ≡ (get_or pairs place (0, 0)).1
  pub second_is : second ≡ (get_or pairs (place + 1) (0, 0)).1
  pub lowest : (i : ℕ) → i + 1 < n → (get_or pairs i (0, 0)).0 ≡ (get_or pairs (i + 1) (0, 0)).0 → second ≤ (get_or pairs (i + 1) (0, 0)).1
