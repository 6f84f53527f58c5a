-- What is best so far, step by step.
use Rattle.std.proofs.Common.{◌≡◌, ℕ, zero, suc, ◌+◌, ◌<◌, ◌≤◌, true, false, List, [], ◌∷◌, ◌++◌, length, take, get_or, Option, Some, None, inl, inr, refl, sym, ap, ◌∙◌, subst, arith}
use Rattle.std.specs.Prelude.{◌⊎◌}
use Rattle.std.specs.List.{Contains}
use Rattle.std.specs.Ordering.{is_lt}
use Rattle.std.specs.Option.{unwrap_or}
use Rattle.std.proofs.lemmas.Bool.{cases_lt}
use Rattle.std.proofs.lemmas.Option.{none-some}
use Rattle.std.proofs.lemmas.List.{take_more}
use Rattle.std.proofs.lemmas.List.Elements.{Contains-append_left, Contains-append_right, Contains-append_cases}
use Rattle.lab_shapes.specs.declared.find.ArrangedFit.{ArrangedFit}
use Rattle.lab_shapes.specs.Arranged.{FitsArranged, IsBest, IsNotAfter, arranged_rank}
use Rattle.lab_shapes.specs.Better.{Improves, IsMatched, KeepsPossible, least_turns}
use Rattle.lab_shapes.proofs.RankLemmas.{before_not_after, fewer_not_after, not_after_itself, not_after_then, not_before}

some_in : (x y : ArrangedFit) → Some x ≡ Some y → x ≡ y
some_in x y e = ap (λ o. unwrap_or o x) e

-- ---- nothing is tried

matched_itself : (old : Option ArrangedFit) (y : ArrangedFit) → old ≡ Some y → IsMatched old y
matched_itself old y e = subst (λ o. IsMatched o y) (sym e) (not_after_itself y)

pub improves_none : (Q : ArrangedFit → Type 0) (old : Option ArrangedFit) → ((y : ArrangedFit) → ¬ Q y) → Improves Q old old
improves_none Q old none = record {
  among = inl refl;
  kept = matched_itself old;
  best = λ y q. absurd (none y q);
}

-- ---- those that are tried have fewer pages in their turn

fewer_matched : (old : Option ArrangedFit) (y : ArrangedFit) → y.in_turn.0 < least_turns old → IsMatched old y
fewer_matched None y l = absurd (omega arith)
fewer_matched (Some x) y l = fewer_not_after x y l

pub improves_fewer : (Q : ArrangedFit → Type 0) (old : Option ArrangedFit) → ((y : ArrangedFit) → Q y → y.in_turn.0 < least_turns old) → Improves Q old old
improves_fewer Q old fewer = record {
  among = inl refl;
  kept = matched_itself old;
  best = λ y q. fewer_matched old y (fewer y q);
}

-- ---- one after another

matched_then : (mid new : Option ArrangedFit) (y : ArrangedFit) → ((z : ArrangedFit) → mid ≡ Some z → IsMatched new z) → IsMatched mid y → IsMatched new y
matched_then None new y kept h = absurd h
matched_then (Some z) new y kept h = by new (kept z refl)
  where
    by : (o : Option ArrangedFit) → IsMatched o z → IsMatched o y
    by None k = absurd k
    by (Some x) k = not_after_then x z y k h

pub improves_then : (P Q R : ArrangedFit → Type 0) (old mid new : Option ArrangedFit) → Improves P old mid → Improves Q mid new → ((y : ArrangedFit) → P y → R y) → ((y : ArrangedFit) → Q y → R y) → ((y : ArrangedFit) → R y → P y ⊎ Q y) → Improves R old new
improves_then P Q R old mid new first second left right either = record {
  among = by_second second.among;
  kept = λ y e. matched_then mid new y second.kept (first.kept y e);
  best = λ y r. elim (either y r) [
    | inl p ↦ matched_then mid new y second.kept (first.best y p)
    | inr q ↦ second.best y q
  ];
}
  where
    by_first : (new ≡ mid) → (mid ≡ old) ⊎ ((x : ArrangedFit) × (mid ≡ Some x) × P x) → (new ≡ old) ⊎ ((x : ArrangedFit) × (new ≡ Some x) × R x)
    by_first e (inl same) = inl (e ∙ same)
    by_first e (inr h) = inr (h.0, e ∙ h.1, left h.0 h.2)

    by_second : (new ≡ mid) ⊎ ((x : ArrangedFit) × (new ≡ Some x) × Q x) → (new ≡ old) ⊎ ((x : ArrangedFit) × (new ≡ Some x) × R x)
    by_second (inl e) = by_first e first.among
    by_second (inr h) = inr (h.0, h.1, right h.0 h.2)

pub improves_as : (P R : ArrangedFit → Type 0) (old new : Option ArrangedFit) → Improves P old new → ((y : ArrangedFit) → P y → R y) → ((y : ArrangedFit) → R y → P y) → Improves R old new
improves_as P R old new h left right = record {
  among = by h.among;
  kept = h.kept;
  best = λ y r. h.best y (right y r);
}
  where
    by : (new ≡ old) ⊎ ((x : ArrangedFit) × (new ≡ Some x) × P x) → (new ≡ old) ⊎ ((x : ArrangedFit) × (new ≡ Some x) × R x)
    by (inl e) = inl e
    by (inr k) = inr (k.0, k.1, left k.0 k.2)

-- ---- one that was found

pub better_none : (found : ArrangedFit) → Improves (λ y. y ≡ found) None (Some found)
better_none found = record {
  among = inr (found, refl, refl);
  kept = λ y e. absurd (none-some y e);
  best = λ y e. subst (λ z. IsNotAfter found z) (sym e) (not_after_itself found);
}

pub better_found : (so_far found : ArrangedFit) → is_lt (arranged_rank found so_far) ≡ true → Improves (λ y. y ≡ found) (Some so_far) (Some found)
better_found so_far found before = record {
  among = inr (found, refl, refl);
  kept = λ y e. subst (λ z. IsNotAfter found z) (some_in so_far y e) (before_not_after found so_far before);
  best = λ y e. subst (λ z. IsNotAfter found z) (sym e) (not_after_itself found);
}

pub better_stays : (so_far found : ArrangedFit) → is_lt (arranged_rank found so_far) ≡ false → Improves (λ y. y ≡ found) (Some so_far) (Some so_far)
better_stays so_far found before = record {
  among = inl refl;
  kept = λ y e. subst (λ z. IsNotAfter so_far z) (some_in so_far y e) (not_after_itself so_far);
  best = λ y e. subst (λ z. IsNotAfter so_far z) (sym e) (not_before found so_far before);
}

-- ---- all numbers of a list

-- those whose number is among the first of a list
pub record Among (Q : ArrangedFit → Type 0) (key : ArrangedFit → ℕ) (xs : List ℕ) (y : ArrangedFit) : Type 0 where
  pub of : Q y
  pub among : Contains xs (key y)

-- those whose number is this one
abbrev pub At : (ArrangedFit → Type 0) → (ArrangedFit → ℕ) → ℕ → ArrangedFit → Type 0
At Q key x y = Q y × (key y ≡ x)

contains_none : (n : ℕ) → ¬ Contains [] n
contains_none n h = absurd (let l = h.1 in omega arith)

pub improves_start : (Q : ArrangedFit → Type 0) (key : ArrangedFit → ℕ) (xs : List ℕ) (old : Option ArrangedFit) → Improves (Among Q key (take 0 xs)) old old
improves_start Q key xs old = improves_none (Among Q key (take 0 xs)) old (λ y h. contains_none (key y) h.among)

contains_last : (xs : List ℕ) (x n : ℕ) → n ≡ x → Contains (xs ++ x ∷ []) n
contains_last xs x n e = Contains-append_right xs (x ∷ []) n (0, omega arith, sym e)

contains_one : (x n : ℕ) → Contains (x ∷ []) n → n ≡ x
contains_one x n (zero, l, e) = sym e
contains_one x n (suc k, l, e) = absurd (omega arith)

contains_cases : (xs : List ℕ) (x n : ℕ) → Contains (xs ++ x ∷ []) n → Contains xs n ⊎ (n ≡ x)
contains_cases xs x n h = elim (Contains-append_cases xs (x ∷ []) n h) [
  | inl a ↦ inl a
  | inr a ↦ inr (contains_one x n a)
]

pub improves_more : (Q : ArrangedFit → Type 0) (key : ArrangedFit → ℕ) (xs : List ℕ) (i d x : ℕ) (old mid new : Option ArrangedFit) → i < length xs → x ≡ get_or xs i d
    → Improves (Among Q key (take i xs)) old mid → Improves (At Q key x) mid new → Improves (Among Q key (take (i + 1) xs)) old new
improves_more Q key xs i d x old mid new l is first second =
    improves_then (Among Q key (take i xs)) (At Q key x) (Among Q key (take (i + 1) xs)) old mid new first second
    (λ y h. record { of = h.of; among = subst (λ ys. Contains ys (key y)) (sym more) (Contains-append_left (take i xs) (x ∷ []) (key y) h.among) })
    (λ y h. record { of = h.0; among = subst (λ ys. Contains ys (key y)) (sym more) (contains_last (take i xs) x (key y) h.1) })
    (λ y h. by y h.of (contains_cases (take i xs) x (key y) (subst (λ ys. Contains ys (key y)) more h.among)))
  where
    more : take (i + 1) xs ≡ take i xs ++ x ∷ []
    more = take_more xs i d l ∙ ap (λ k. take i xs ++ k ∷ []) (sym is)

    by : (y : ArrangedFit) → Q y → Contains (take i xs) (key y) ⊎ (key y ≡ x) → Among Q key (take i xs) y ⊎ At Q key x y
    by y q (inl h) = inl (record { of = q; among = h })
    by y q (inr e) = inr (q, e)

pub improves_all : (Q : ArrangedFit → Type 0) (key : ArrangedFit → ℕ) (xs ys : List ℕ) (old new : Option ArrangedFit) → ys ≡ xs → ((y : ArrangedFit) → Q y → Contains xs (key y)) → Improves (Among Q key ys) old new → Improves Q old new
improves_all Q key xs ys old new e all h = improves_as (Among Q key ys) Q old new h (λ y a. a.of) (λ y q. record { of = q; among = subst (λ l. Contains l (key y)) (sym e) (all y q) })

-- ---- all numbers below one

abbrev pub Below : (ArrangedFit → Type 0) → (ArrangedFit → ℕ) → ℕ → ArrangedFit → Type 0
Below Q key n y = Q y × (key y < n)

pub below_start : (Q : ArrangedFit → Type 0) (key : ArrangedFit → ℕ) (n : ℕ) (old : Option ArrangedFit) → ((y : ArrangedFit) → Q y → n ≤ key y) → Improves (Below Q key n) old old
below_start Q key n old least = improves_none (Below Q key n) old (λ y h. absurd (let l = least y h.0 in let k = h.1 in omega arith))

pub below_more : (Q : ArrangedFit → Type 0) (key : ArrangedFit → ℕ) (n : ℕ) (old mid new : Option ArrangedFit) → Improves (Below Q key n) old mid → Improves (At Q key n) mid new → Improves (Below Q key (n + 1)) old new
below_more Q key n old mid new first second =
    improves_then (Below Q key n) (At Q key n) (Below Q key (n + 1)) old mid new first second
    (λ y h. (h.0, (let l = h.1 in omega arith)))
    (λ y h. (h.0, (let e = h.1 in omega arith)))
    (λ y h. by y h.0 (cases_lt (key y) n) h.1)
  where
    by : (y : ArrangedFit) → Q y → (key y < n) ⊎ (n ≤ key y) → key y < n + 1 → Below Q key n y ⊎ At Q key n y
    by y q (inl l) k = inl (q, l)
    by y q (inr l) k = inr (q, (let e : key y ≡ n = omega arith in e))

pub below_all : (Q : ArrangedFit → Type 0) (key : ArrangedFit → ℕ) (n : ℕ) (old new : Option ArrangedFit) → ((y : ArrangedFit) → Q y → key y < n) → Improves (Below Q key n) old new → Improves Q old new
below_all Q key n old new most h = improves_as (Below Q key n) Q old new h (λ y a. a.0) (λ y q. (q, most y q))

-- ---- all in all

pub best_of : (all : List ℕ) (old new : Option ArrangedFit) → old ≡ None → Improves (FitsArranged all) old new → IsBest all new
best_of all old None none h = λ y q. absurd (h.best y q)
best_of all old (Some x) none h = (by h.among, h.best)
  where
    by : (Some x ≡ old) ⊎ ((z : ArrangedFit) × (Some x ≡ Some z) × FitsArranged all z) → FitsArranged all x
    by (inl e) = absurd (none-some x (sym (e ∙ none)))
    by (inr k) = subst (FitsArranged all) (sym (some_in x k.0 k.1)) k.2

pub possible_then : (old mid new : Option ArrangedFit) → KeepsPossible old mid → KeepsPossible mid new → KeepsPossible old new
possible_then old mid new f g = λ h. g (f h)
