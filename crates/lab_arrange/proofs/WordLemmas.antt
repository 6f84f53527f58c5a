-- The words of a text, one after another.
use Rattle.std.proofs.Common.{◌≡◌, ◌≢◌, ℕ, ◌<◌, List, [], ◌∷◌, ◌++◌, length, get_or, Option, Some, None, refl, sym, subst, inl, inr, lit<}
use Rattle.std.specs.Prelude.{Result, Ok, Err, IfOk, IfErr}
use Rattle.std.specs.Result.{IsErrAnd}
use Rattle.std.specs.Option.{MatchOption}
use Rattle.std.specs.Borrow.{Bor}
use Rattle.std.proofs.lemmas.Str.Pattern.{IsSplitOnceResult, split_parts}
use Rattle.lab_arrange.specs.declared.arrangement.Arrangement.{Arrangement}
use Rattle.lab_arrange.specs.Words.{IsBadFrom, IsBadWord, IsToldBy, IsToldFrom, LacksComma}

-- ---- a comma

-- the text up to its first comma, and what follows that
pub record IsCutAt (text front back : List ℕ) : Type 0 where
  pub whole : text ≡ front ++ (44 ∷ back)
  pub first : LacksComma front

pub cut_here : (text : List ℕ) (r : Option (Bor (List ℕ) × Bor (List ℕ))) (front back : Bor (List ℕ)) → IsSplitOnceResult 44 text r → r ≡ Some (front, back) → IsCutAt text front.now back.now
cut_here text r front back cases some =
    let P : Option (Bor (List ℕ) × Bor (List ℕ)) → Type 0 = λ o. MatchOption o ((i : ℕ) → i < length text → get_or text i 0 ≢ 44) (λ x. (text ≡ x.0.now ++ (44 ∷ x.1.now)) × ((i : ℕ) → i < length x.0.now → get_or x.0.now i 0 ≢ 44)) in
    let parts = subst P some (split_parts 44 text r cases (lit< tt)) in
    record { whole = parts.0; first = parts.1 }

pub uncut : (text : List ℕ) (r : Option (Bor (List ℕ) × Bor (List ℕ))) → IsSplitOnceResult 44 text r → r ≡ None → LacksComma text
uncut text r cases none =
    let P : Option (Bor (List ℕ) × Bor (List ℕ)) → Type 0 = λ o. MatchOption o ((i : ℕ) → i < length text → get_or text i 0 ≢ 44) (λ x. (text ≡ x.0.now ++ (44 ∷ x.1.now)) × ((i : ℕ) → i < length x.0.now → get_or x.0.now i 0 ≢ 44)) in
    subst P none (split_parts 44 text r cases (lit< tt))

-- ---- the words

abbrev pub Answer : Type 0
Answer = Result Arrangement (Bor (List ℕ))

-- the first word is at fault
pub bad_first : (a : Arrangement) (text front back : List ℕ) (bad : Bor (List ℕ)) (r : Answer) → IsCutAt text front back → (bad.now ≡ front) × IsBadWord a front → IsErrAnd r (λ e. e ≡ bad) → IfErr r (λ e. IsBadFrom a text e.now)
bad_first a text front back bad (Ok b) cut (is, none) told = tt
bad_first a text front back bad (Err e) cut (is, none) told =
    let P : Bor (List ℕ) → Type 0 = λ x. IsBadFrom a text x.now in
    let Q : List ℕ → Type 0 = λ w. IsBadFrom a text w in
    let here : IsBadFrom a text front = ([], (cut.first, inr (back, cut.whole), none)) in
    subst P (sym told) (subst Q (sym is) here)

-- or one of those behind it
pub bad_later : (a b : Arrangement) (text front back : List ℕ) (r : Answer) → IsCutAt text front back → IsToldBy a front b → IfErr r (λ e. IsBadFrom b back e.now) → IfErr r (λ e. IsBadFrom a text e.now)
bad_later a b text front back (Ok x) cut told h = tt
bad_later a b text front back (Err e) cut told (words, stops) = (front ∷ words, (back, b, cut.whole, told, stops))

-- each tells something
pub told_later : (a b : Arrangement) (text front back : List ℕ) (r : Answer) → IsCutAt text front back → IsToldBy a front b → IfOk r (IsToldFrom b back) → IfOk r (IsToldFrom a text)
told_later a b text front back (Err e) cut told h = tt
told_later a b text front back (Ok x) cut told ([], tells) = absurd tells
told_later a b text front back (Ok x) cut told (word ∷ words, tells) = (front ∷ word ∷ words, (back, b, cut.whole, told, tells))

-- the last word
pub told_last : (a : Arrangement) (text : List ℕ) (r : Answer) → IfOk r (IsToldBy a text) → IfOk r (IsToldFrom a text)
told_last a text (Err e) h = tt
told_last a text (Ok x) h = (text ∷ [], (refl, h))

pub bad_last : (a : Arrangement) (text : List ℕ) (r : Answer) → LacksComma text → IfErr r (λ bad. (bad.now ≡ text) × IsBadWord a text) → IfErr r (λ e. IsBadFrom a text e.now)
bad_last a text (Ok x) lacks h = tt
bad_last a text (Err e) lacks (is, none) =
    let Q : List ℕ → Type 0 = λ w. IsBadFrom a text w in
    let here : IsBadFrom a text text = ([], (lacks, inl refl, none)) in
    subst Q (sym is) here
