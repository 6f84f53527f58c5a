-- What the digits of two numbers leave to the dots.
use Rattle.std.proofs.Common.{◌≡◌, ◌≢◌, ℕ, zero, suc, ◌<◌, List, [], ◌∷◌, ◌++◌, length, get_or, Option, Some, None, subst, refl, lit<, arith}
use Rattle.std.specs.Option.{MatchOption, option_and_then}
use Rattle.std.specs.Borrow.{Bor}
use Rattle.std.proofs.lemmas.Str.Pattern.{IsSplitOnceResult, split_after}
use Rattle.program_words.specs.Numbers.{next_value, number_from, number_of}

-- what comes after a step that did not fail
then_some : {A B : Type 0} (f : A → Option B) (o : Option A) (b : B) → option_and_then f o ≡ Some b → (a : A) × (f a ≡ Some b)
then_some f None b e = absurd (let no : None ≡ Some b = e in cc)
then_some f (Some a) b e = (a, e)

-- a dot is no digit
no_value : (n c : ℕ) → c ≡ 46 → next_value n c ≡ None
no_value n c e = rw e refl

no_dot_from : (n m : ℕ) (digits : List ℕ) → number_from n digits ≡ Some m → (i : ℕ) → i < length digits → get_or digits i 0 ≢ 46
no_dot_from n m [] e i lt = absurd (omega arith)
no_dot_from n m (c ∷ cs) e zero lt = λ dot.
    let none : option_and_then (λ k. number_from k cs) (next_value n c) ≡ None = rw (no_value n c dot) refl in
    cc
no_dot_from n m (c ∷ cs) e (suc i) lt =
    let step = then_some (λ k. number_from k cs) (next_value n c) m e in
    no_dot_from step.0 m cs step.1 i (omega arith)

-- the digits of a number hold no dot
pub no_dot : (n : ℕ) (digits : List ℕ) → number_of digits ≡ Some n → (i : ℕ) → i < length digits → get_or digits i 0 ≢ 46
no_dot n [] e i lt = absurd (omega arith)
no_dot n (c ∷ cs) e i lt = no_dot_from 0 n (c ∷ cs) e i lt

-- a text that begins with the digits of a number and a dot is cut after them
abbrev cut : List ℕ → List ℕ → Option (Bor (List ℕ) × Bor (List ℕ)) → Type 0
cut digits rest r = MatchOption r ⊥ (λ x. (x.0.now ≡ digits) × (x.1.now ≡ rest))

cut_at : (n : ℕ) (text digits rest : List ℕ) (r : Option (Bor (List ℕ) × Bor (List ℕ))) → IsSplitOnceResult 46 text r → text ≡ digits ++ (46 ∷ rest) → number_of digits ≡ Some n → cut digits rest r
cut_at n text digits rest r cases is spelled = split_after 46 text digits rest r cases (lit< tt) is (no_dot n digits spelled)

pub uncut : (n : ℕ) (text digits rest : List ℕ) (r : Option (Bor (List ℕ) × Bor (List ℕ))) → IsSplitOnceResult 46 text r → text ≡ digits ++ (46 ∷ rest) → number_of digits ≡ Some n → r ≡ None → ⊥
uncut n text digits rest r cases is spelled none =
    let P : Option (Bor (List ℕ) × Bor (List ℕ)) → Type 0 = λ o. cut digits rest o in
    subst P none (cut_at n text digits rest r cases is spelled)

pub cut_front : (n : ℕ) (text digits rest : List ℕ) (r : Option (Bor (List ℕ) × Bor (List ℕ))) (front back : Bor (List ℕ)) → IsSplitOnceResult 46 text r → text ≡ digits ++ (46 ∷ rest) → number_of digits ≡ Some n
    → r ≡ Some (front, back) → (front.now ≡ digits) × (back.now ≡ rest)
cut_front n text digits rest r front back cases is spelled some =
    let P : Option (Bor (List ℕ) × Bor (List ℕ)) → Type 0 = λ o. cut digits rest o in
    subst P some (cut_at n text digits rest r cases is spelled)

-- what follows a dot that is stripped
abbrev IsStripped : List ℕ → Option (Bor (List ℕ)) → Type 0
IsStripped text r = MatchOption r ((rest : List ℕ) → text ≢ 46 ∷ rest) (λ x. text ≡ 46 ∷ x.now)

pub unstripped : (text rest : List ℕ) (r : Option (Bor (List ℕ))) → IsStripped text r → text ≡ 46 ∷ rest → r ≡ None → ⊥
unstripped text rest None h e none = h rest e
unstripped text rest (Some x) h e none = (let never : Some x ≡ None = none in cc)

pub stripped : (text rest : List ℕ) (r : Option (Bor (List ℕ))) (back : Bor (List ℕ)) → IsStripped text r → text ≡ 46 ∷ rest → r ≡ Some back → back.now ≡ rest
stripped text rest None back h e some = absurd (let never : None ≡ Some back = some in cc)
stripped text rest (Some x) back h e some = cc
