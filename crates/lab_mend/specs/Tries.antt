-- How many pages were tried at most.
use Rattle.std.specs.Prelude.{◌≡◌, ◌≢◌, ℕ, ◌+◌, ◌-◌, ◌*◌, ◌/◌, ◌^◌, min, List, [], ◌∷◌, ◌++◌, sum_by}
use Rattle.lab_mend.specs.declared.trial.Trial.{Trial}
use Rattle.lab_mend.specs.declared.trial.Trial.TheVariants.{Taken, Tied, Nothing}
use Rattle.lab_mend.specs.declared.merging.TriedRow.{TriedRow}
use Rattle.lab_mend.specs.declared.pairs.BitTurn.{BitTurn}
use Rattle.lab_mend.specs.declared.pairs.BitTurn.TheVariants as turn
use Rattle.lab_mend.specs.declared.mending.Turned.{Turned}
use Rattle.lab_mend.specs.declared.repairing.Mend.{Mend}

-- in how many bits the readings differ
abbrev pub differing : Trial → ℕ
differing (Taken n d) = d
differing (Tied n d) = d
differing (Nothing d) = d

-- of each of these rows as many as there are ways to turn so many bits; where that is more than 64 bits hold, the most they do
unfoldable pub tries_in : List TriedRow → ℕ
tries_in tried = min (sum_by (λ r. 2 ^ differing r.trial) tried) (2 ^ 64 - 1)

-- of a page of so many bits each was turned, and where one served not each pair of them
abbrev pub tries_of : ℕ → BitTurn → ℕ
tries_of bits (turn.One t) = bits
tries_of bits _ = bits + bits * (bits - 1) / 2

-- so many of all these pages; where that is more than 64 bits hold, the most they do
unfoldable pub turn_tries : ℕ → List Mend → ℕ
turn_tries bits mends = min (sum_by (λ m. tries_of bits m.turn) mends) (2 ^ 64 - 1)

-- ---- the laws

-- A row is tried in each way to turn the bits in which its readings differ, whatever came of it; several rows are as often as each of them, as far as 64 bits hold.
pub record TriesLaw : Type 0 where
  pub taken : (r : TriedRow) (n d : ℕ) → r.trial ≡ Taken n d → tries_in (r ∷ []) ≡ min (2 ^ d) (2 ^ 64 - 1)
  pub tied : (r : TriedRow) (n d : ℕ) → r.trial ≡ Tied n d → tries_in (r ∷ []) ≡ min (2 ^ d) (2 ^ 64 - 1)
  pub nothing : (r : TriedRow) (d : ℕ) → r.trial ≡ Nothing d → tries_in (r ∷ []) ≡ min (2 ^ d) (2 ^ 64 - 1)
  pub together : (rs qs : List TriedRow) → tries_in (rs ++ qs) ≡ min (tries_in rs + tries_in qs) (2 ^ 64 - 1)

-- A page of which one bit served is tried with each bit turned; each other one with each bit and each two bits, n (n + 1) / 2 times for n bits.
pub record TurnTriesLaw : Type 0 where
  pub single : (bits : ℕ) (m : Mend) (t : Turned) → m.turn ≡ turn.One t → turn_tries bits (m ∷ []) ≡ min bits (2 ^ 64 - 1)
  pub pairs : (bits : ℕ) (m : Mend) → ((t : Turned) → m.turn ≢ turn.One t) → turn_tries bits (m ∷ []) ≡ min (bits * (bits + 1) / 2) (2 ^ 64 - 1)
  pub together : (bits : ℕ) (ms ns : List Mend) → turn_tries bits (ms ++ ns) ≡ min (turn_tries bits ms + turn_tries bits ns) (2 ^ 64 - 1)
