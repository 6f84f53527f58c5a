-- What the counts come to.
use Rattle.std.specs.Prelude.{◌≡◌, ℕ, ◌-◌, ◌^◌, ◌<◌, ◌≤◌}
use Rattle.page_layout.specs.Counter.{counted, HasRisen}

-- a count that did not change has not risen, unless it stands at the greatest u64
abbrev pub UnchangedLaw : Type 0
UnchangedLaw = (n : ℕ) → HasRisen n n → n ≡ 2 ^ 64 - 1

-- one that fell has not risen, unless it stands there
abbrev pub FellLaw : Type 0
FellLaw = (old new : ℕ) → new ≤ old → HasRisen old new → new ≡ 2 ^ 64 - 1

-- one more is a rise
abbrev pub OneMoreLaw : Type 0
OneMoreLaw = (n : ℕ) → n < 2 ^ 64 → HasRisen n (counted n)

-- no count passes the greatest u64
abbrev pub TopLaw : Type 0
TopLaw = (n : ℕ) → counted n < 2 ^ 64
