-- The first of the blocks that have the most, found one after another.
use Rattle.std.proofs.Common.{◌≡◌, ℕ, ◌+◌, ◌<◌, ◌≤◌, Bool, true, false, leb, List, length, get_or, Option, Some, None, refl, subst, arith, below_more}
use Rattle.std.specs.Prelude.{MatchOption, IfSome, IfNone}
use Rattle.std.proofs.lemmas.List.{get_or_past}
use Rattle.std.proofs.lemmas.Bool.Decides.{nat_tests}
use Rattle.corrected_nand.specs.Errors.{IsMost, AreNone}

-- none was found
abbrev pub NoneYet : ℕ → Type 0
NoneYet most = most ≡ 0

-- one was found, below this
pub record Found (counts : List ℕ) (n most block : ℕ) : Type 0 where
  pub below : block < n
  pub some : 0 < most
  pub is : get_or counts block 0 ≡ most
  pub first : (k : ℕ) → k < block → get_or counts k 0 < most

-- so far
pub record MostOf (counts : List ℕ) (n most : ℕ) (found : Option ℕ) : Type 0 where
  pub seen : (k : ℕ) → k < n → get_or counts k 0 ≤ most
  pub its : MatchOption found (NoneYet most) (Found counts n most)

found_later : (counts : List ℕ) (n most : ℕ) (found : Option ℕ) → MatchOption found (NoneYet most) (Found counts n most) → MatchOption found (NoneYet most) (Found counts (n + 1) most)
found_later counts n most None h = h
found_later counts n most (Some b) h = record { below = omega (arith, h.below); some = h.some; is = h.is; first = h.first }

-- one that has no more than the most so far
pub most_kept : (counts : List ℕ) (n most : ℕ) (found : Option ℕ) → MostOf counts n most found → get_or counts n 0 ≤ most → MostOf counts (n + 1) most found
most_kept counts n most found h le = record { seen = below_more _ _ h.seen le; its = found_later counts n most found h.its }

-- one that has more
pub most_new : (counts : List ℕ) (n most x : ℕ) (found : Option ℕ) → MostOf counts n most found → most < x → get_or counts n 0 ≡ x → MostOf counts (n + 1) x (Some n)
most_new counts n most x found h lt is = record {
  seen = below_more _ _ (λ k l. let s = h.seen k l in omega arith) (omega arith);
  its = record { below = omega arith; some = omega arith; is = is; first = λ k l. let s = h.seen k l in omega arith };
}

-- of all
all_seen : (counts : List ℕ) (most : ℕ) → ((k : ℕ) → k < length counts → get_or counts k 0 ≤ most) → (k : ℕ) → get_or counts k 0 ≤ most
all_seen counts most h k = by (leb (length counts) k) refl
  where
    by : (t : Bool) → leb (length counts) k ≡ t → get_or counts k 0 ≤ most
    by true e = let l : length counts ≤ k = grind (arith, nat_tests) in let z = get_or_past counts k 0 l in omega arith
    by false e = h k (grind (arith, nat_tests))

pub most_some : (counts : List ℕ) (n most : ℕ) (found : Option ℕ) → n ≡ length counts → MostOf counts n most found → IfSome found (IsMost counts)
most_some counts n most None e h = tt
most_some counts n most (Some b) e h =
    let f = h.its in
    record {
      in_range = omega (arith, f.below, e);
      some = omega (arith, f.some, f.is);
      most = λ k. let s = all_seen counts most (subst (λ m. (k : ℕ) → k < m → get_or counts k 0 ≤ most) e h.seen) k in omega (arith, s, f.is);
      first = λ k l. let s = f.first k l in omega (arith, s, f.is);
    }

pub most_none : (counts : List ℕ) (n most : ℕ) (found : Option ℕ) → n ≡ length counts → MostOf counts n most found → IfNone found (AreNone counts)
most_none counts n most None e h = λ k. let s = all_seen counts most (subst (λ m. (k : ℕ) → k < m → get_or counts k 0 ≤ most) e h.seen) k in let z = h.its in omega (arith, s, z)
most_none counts n most (Some b) e h = tt
