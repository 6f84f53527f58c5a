-- The first number that passes a test, of ranges that are joined.
use Rattle.std.proofs.Common.{◌≡◌, inl, inr, ℕ, ◌+◌, ◌*◌, ◌<◌, ◌≤◌, Bool, true, false, Option, Some, None, ◌∙◌, ap, arith}
use Rattle.std.proofs.lemmas.Bool.{cases_lt}
use Rattle.mount.specs.Fresh.{NonePass, IsFirstPass, IsFirst}

-- a test that is the same there
NonePass-same : (test other : ℕ → Bool) (from to : ℕ) → ((k : ℕ) → from ≤ k → k < to → other k ≡ test k) → NonePass test from to → NonePass other from to
NonePass-same test other from to same none = record { none = λ k low high. same k low high ∙ none.none k low high }

pub IsFirst-same : (test other : ℕ → Bool) (from to : ℕ) (found : Option ℕ) → ((k : ℕ) → from ≤ k → k < to → other k ≡ test k) → IsFirst test from to found → IsFirst other from to found
IsFirst-same test other from to None same first = NonePass-same test other from to same first
IsFirst-same test other from to (Some k) same first = record {
  least = first.least;
  within = first.within;
  pass = same k first.least first.within ∙ first.pass;
  before = NonePass-same test other from k (λ j low high. same j low (omega (arith, first.within))) first.before;
}

pub none_passes : (test : ℕ → Bool) (from : ℕ) → NonePass test from from
none_passes test from = record { none = λ k low high. absurd (omega arith) }

pub none_yet : (test : ℕ → Bool) (n : ℕ) → NonePass test 0 (0 * n)
none_yet test n = record { none = λ k low high. absurd (omega arith) }

pub none_joins : (test : ℕ → Bool) (from mid to : ℕ) → NonePass test from mid → NonePass test mid to → NonePass test from to
none_joins test from mid to left right = record {
  none = λ k low high. elim (cases_lt k mid) [
    | inl below ↦ left.none k low below
    | inr above ↦ right.none k above high
  ];
}

-- none in front, and then what is found behind
pub first_behind : (test : ℕ → Bool) (from mid to : ℕ) (found : Option ℕ) → from ≤ mid → NonePass test from mid → IsFirst test mid to found → IsFirst test from to found
first_behind test from mid to None le left right = none_joins test from mid to left right
first_behind test from mid to (Some k) le left right = record {
  least = omega (arith, right.least);
  within = right.within;
  pass = right.pass;
  before = none_joins test from mid k left right.before;
}

-- found in front, whatever is behind
pub first_in_front : (test : ℕ → Bool) (from mid to k : ℕ) → mid ≤ to → IsFirstPass test from mid k → IsFirstPass test from to k
first_in_front test from mid to k le left = record { least = left.least; within = omega (arith, left.within); pass = left.pass; before = left.before }

pub one_passes : (test : ℕ → Bool) (k : ℕ) → test k ≡ true → IsFirstPass test k (k + 1) k
one_passes test k pass = record { least = omega arith; within = omega arith; pass = pass; before = none_passes test k }

pub one_fails : (test : ℕ → Bool) (k : ℕ) → test k ≡ false → NonePass test k (k + 1)
one_fails test k fail = record {
  none = λ j low high. (let e : j ≡ k = omega arith in ap test e ∙ fail);
}
