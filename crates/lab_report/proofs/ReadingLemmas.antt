-- The line feed at the end of a text, and what several values say.
use Rattle.std.proofs.Common.{◌≡◌, ℕ, ◌==◌, false, List, [], ◌∷◌, ◌++◌, Option, Some, None, option_map, option_and_then, Result, Ok, Err, refl, sym, ap, ◌∙◌, ◌<◌, ◌+◌, suc, length, get_or, map, take, drop, drop-cons}
use Rattle.std.specs.Prelude.{IsErrAnd}
use Rattle.std.proofs.lemmas.List.{map-append, take_more, take-append-drop}
use Rattle.serde_json.specs.declared.value.Value.{Value}
use Rattle.serde_json.specs.Data.{Data}
use Rattle.serde_json.specs.View.{items_of, items_view, view}
use Rattle.lab_report.specs.declared.reading.ReportFault.{ReportFault}
use Rattle.lab_report.specs.Reading.{all_in, without_feed}

-- a line feed at the end is left out
pub feed_left_out : (front : List ℕ) → without_feed (front ++ (10 ∷ [])) ≡ front
feed_left_out [] = refl
feed_left_out (c ∷ []) = refl
feed_left_out (c ∷ d ∷ cs) = ap (λ l. c ∷ l) (feed_left_out (d ∷ cs))

-- and nothing else is
pub none_left_out : (front : List ℕ) (last : ℕ) → (last == 10) ≡ false → without_feed (front ++ (last ∷ [])) ≡ front ++ (last ∷ [])
none_left_out [] last other = rw other refl
none_left_out (c ∷ []) last other = ap (λ l. c ∷ l) (none_left_out [] last other)
none_left_out (c ∷ d ∷ cs) last other = ap (λ l. c ∷ l) (none_left_out (d ∷ cs) last other)

-- behind one value that says something, where the others come to something
one_more_behind : {A : Type 0} (first : Option A) (rest longer : Option (List A)) (said : List A) (more : A)
    → option_and_then (λ a. option_map (λ others. a ∷ others) rest) first ≡ Some said
    → ((others : List A) → rest ≡ Some others → longer ≡ Some (others ++ more ∷ []))
    → option_and_then (λ a. option_map (λ others. a ∷ others) longer) first ≡ Some (said ++ more ∷ [])
one_more_behind None rest longer said more before then = absurd (cc)
one_more_behind (Some a) None longer said more before then = absurd (cc)
one_more_behind (Some a) (Some others) longer said more before then = let is : said ≡ a ∷ others = cc in rw (then others refl, is) refl

-- what one more value says, behind those that each say something
pub one_more : {A : Type 0} (f : Data → Option A) (xs : List Data) (said : List A) (x : Data) (more : A) → all_in f (items_of xs) ≡ Some said → f x ≡ Some more
    → all_in f (items_of (xs ++ x ∷ [])) ≡ Some (said ++ more ∷ [])
one_more f [] said x more before is = rw is (let none : [] ≡ said = cc in ap (λ s. Some (s ++ more ∷ [])) none)
one_more f (y ∷ ys) said x more before is = one_more_behind (f y) (all_in f (items_of ys)) (all_in f (items_of (ys ++ x ∷ []))) said more before (λ rest said_is. one_more f ys rest x more said_is is)

none_behind : {A : Type 0} (first : Option A) → option_and_then (λ a. option_map (λ others. a ∷ others) None) first ≡ None
none_behind None = refl
none_behind (Some a) = refl

-- one that says nothing
pub one_says_none : {A : Type 0} (f : Data → Option A) (xs : List Data) (x : Data) (rest : List Data) → f x ≡ None → all_in f (items_of (xs ++ x ∷ rest)) ≡ None
one_says_none f [] x rest none = rw none refl
one_says_none f (y ∷ ys) x rest none = rw (one_says_none f ys x rest none) (none_behind (f y))

-- the same of values, one after another
pub one_more_value : {A : Type 0} (f : Data → Option A) (vs : List Value) (i : ℕ) (v : Value) (said : List A) (more : A) → i < length vs → v ≡ get_or vs i v
    → all_in f (items_view (take i vs)) ≡ Some said → f (view v) ≡ Some more → all_in f (items_view (take (i + 1) vs)) ≡ Some (said ++ more ∷ [])
one_more_value f vs i v said more within at before is =
    let longer : take (i + 1) vs ≡ take i vs ++ v ∷ [] = take_more vs i v within ∙ ap (λ w. take i vs ++ w ∷ []) (sym at) in
    ap (λ xs. all_in f (items_view xs)) longer ∙ (ap (λ xs. all_in f (items_of xs)) (map-append view (take i vs) (v ∷ [])) ∙ one_more f (map view (take i vs)) said (view v) more before is)

pub one_value_none : {A : Type 0} (f : Data → Option A) (vs : List Value) (i : ℕ) (v : Value) → i < length vs → v ≡ get_or vs i v → f (view v) ≡ None → all_in f (items_view vs) ≡ None
one_value_none f vs i v within at none =
    let split : vs ≡ take i vs ++ v ∷ drop (suc i) vs = sym (take-append-drop i vs) ∙ (ap (λ rest. take i vs ++ rest) (drop-cons vs i v within) ∙ ap (λ w. take i vs ++ w ∷ drop (suc i) vs) (sym at)) in
    ap (λ xs. all_in f (items_view xs)) split ∙ (ap (λ xs. all_in f (items_of xs)) (map-append view (take i vs) (v ∷ drop (suc i) vs)) ∙ one_says_none f (map view (take i vs)) (view v) (map view (drop (suc i) vs)) none)

-- ---- the fault that a `?` hands on is the one that came

pub fault_came : {A : Type 0} (r : Result A ReportFault) (came told : ReportFault) → IsErrAnd r (λ e. e ≡ came) → r ≡ Err told → came ≡ told
fault_came (Ok a) came told handed is = absurd handed
fault_came (Err e) came told handed is = let same : e ≡ told = cc in sym handed ∙ same
