-- What the digits of a number leave to the commas.
use Rattle.std.proofs.Common.{◌≡◌, ◌≢◌, ℕ, zero, suc, ◌<◌, List, [], ◌∷◌, length, get_or, Option, Some, None, ap, sym, ◌∙◌, subst, refl, lit<, arith}
use Rattle.std.specs.Option.{MatchOption, option_and_then}
use Rattle.std.specs.Borrow.{Bor}
use Rattle.std.proofs.lemmas.Str.Pattern.{IsSplitOnceResult, split_after}
use Rattle.program_words.specs.Numbers.{SpellsNumbers, StartsWithNumber, next_value, number_from, number_of}

-- what comes after a step that did not fail
then_some : {A B : Type 0} (f : A → Option B) (o : Option A) (b : B) → option_and_then f o ≡ Some b → (a : A) × (f a ≡ Some b)
then_some f None b e = absurd (let no : None ≡ Some b = e in cc)
then_some f (Some a) b e = (a, e)

-- a comma is no digit
no_value : (n c : ℕ) → c ≡ 44 → next_value n c ≡ None
no_value n c e = rw e refl

no_comma_from : (n m : ℕ) (digits : List ℕ) → number_from n digits ≡ Some m → (i : ℕ) → i < length digits → get_or digits i 0 ≢ 44
no_comma_from n m [] e i lt = absurd (omega arith)
no_comma_from n m (c ∷ cs) e zero lt = λ comma.
    let none : option_and_then (λ k. number_from k cs) (next_value n c) ≡ None = rw (no_value n c comma) refl in
    cc
no_comma_from n m (c ∷ cs) e (suc i) lt =
    let step = then_some (λ k. number_from k cs) (next_value n c) m e in
    no_comma_from step.0 m cs step.1 i (omega arith)

-- the digits of a number hold no comma
pub no_comma : (n : ℕ) (digits : List ℕ) → number_of digits ≡ Some n → (i : ℕ) → i < length digits → get_or digits i 0 ≢ 44
no_comma n [] e i lt = absurd (omega arith)
no_comma n (c ∷ cs) e i lt = no_comma_from 0 n (c ∷ cs) e i lt

-- the same numbers at the same text
pub same_rest : (text rest : List ℕ) (ns : List ℕ) → text ≡ rest → SpellsNumbers rest ns → SpellsNumbers text ns
same_rest text rest ns e spelled = let P : List ℕ → Type 0 = λ t. SpellsNumbers t ns in subst P (sym e) spelled

-- where the text begins with a number, `split_once` cuts it after the number
abbrev cut : List ℕ → List ℕ → Option (Bor (List ℕ) × Bor (List ℕ)) → Type 0
cut digits rest r = MatchOption r ⊥ (λ x. (x.0.now ≡ digits) × (x.1.now ≡ rest))

cut_at : (n : ℕ) (text rest : List ℕ) (r : Option (Bor (List ℕ) × Bor (List ℕ))) → IsSplitOnceResult 44 text r → (starts : StartsWithNumber text n rest) → cut starts.0 rest r
cut_at n text rest r cases starts = split_after 44 text starts.0 rest r cases (lit< tt) starts.1 (no_comma n starts.0 starts.2)

pub uncut : (n : ℕ) (text rest : List ℕ) (r : Option (Bor (List ℕ) × Bor (List ℕ))) → IsSplitOnceResult 44 text r → StartsWithNumber text n rest → r ≡ None → ⊥
uncut n text rest r cases starts none = let P : Option (Bor (List ℕ) × Bor (List ℕ)) → Type 0 = λ o. cut starts.0 rest o in subst P none (cut_at n text rest r cases starts)

pub cut_front : (n : ℕ) (text rest : List ℕ) (r : Option (Bor (List ℕ) × Bor (List ℕ))) (front back : Bor (List ℕ)) → IsSplitOnceResult 44 text r → StartsWithNumber text n rest → r ≡ Some (front, back) → (number_of front.now ≡ Some n) × (back.now ≡ rest)
cut_front n text rest r front back cases starts some =
    let P : Option (Bor (List ℕ) × Bor (List ℕ)) → Type 0 = λ o. cut starts.0 rest o in
    let parts : (front.now ≡ starts.0) × (back.now ≡ rest) = subst P some (cut_at n text rest r cases starts) in
    (ap number_of parts.0 ∙ starts.2, parts.1)
