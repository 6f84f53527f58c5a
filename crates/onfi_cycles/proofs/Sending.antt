-- Lists of cycles that are sent one after another.
use Rattle.std.proofs.Common.{◌≡◌, ℕ, List, [], ◌∷◌, ◌++◌, refl, sym, ◌∙◌, ap, subst, ◌<◌, ◌≤◌, ◌⊎◌, inl, inr, arith, suc, ◌+◌, drop, get_or, length}
use Rattle.std.proofs.Common.{add-one, Result, Ok, Err}
use Rattle.std.specs.Prelude.{IfErr}
use Rattle.std.proofs.Math.Seq.{drop-cons}
use Rattle.page_layout.specs.Counter.{HasRisen}
use Rattle.onfi_cycles.specs.Cycles.{DieState, Cycle, CycleStep, IsCounted}
use Rattle.onfi_cycles.specs.Spelling.{Taken, FailsIn, Spells, done, refused}
use Rattle.onfi_cycles.specs.declared.nand.BusFault.{BusFault}

-- ---- counts over two calls

pub risen_after : {f g h : ℕ} → f ≤ g → HasRisen g h → HasRisen f h
risen_after x (inl lt) = inl (omega (arith, x, lt))
risen_after x (inr top) = inr top

pub counted_after : {f g h : ℕ} (fault : BusFault) → f ≤ g → IsCounted g h fault → IsCounted f h fault
counted_after fault le counts = λ is. risen_after le (counts is)

-- ---- lists that follow one another

pub taken_then : (a b c : DieState) (xs ys : List Cycle) → Taken a xs b → Taken b ys c → Taken a (xs ++ ys) c
taken_then a b c [] ys s t = subst (λ d. Taken d ys c) s t
taken_then a b c (x ∷ xs) ys s t = (s.0, s.1, taken_then s.0 b c xs ys s.2 t)

pub fails_then : (a b c : DieState) (xs ys : List Cycle) (fault : BusFault) → Taken a xs b → FailsIn b ys fault c → FailsIn a (xs ++ ys) fault c
fails_then a b c [] ys fault s t = subst (λ d. FailsIn d ys fault c) s t
fails_then a b c (x ∷ xs) ys fault s t = inr (s.0, s.1, fails_then s.0 b c xs ys fault s.2 t)

pub fails_first : (a c : DieState) (xs ys : List Cycle) (fault : BusFault) → FailsIn a xs fault c → FailsIn a (xs ++ ys) fault c
fails_first a c [] ys fault h = absurd h
fails_first a c (x ∷ xs) ys fault (inl h) = inl h
fails_first a c (x ∷ xs) ys fault (inr h) = inr (h.0, h.1, fails_first h.0 c xs ys fault h.2)

pub spells_then : {A : Type 0} → (a b c : DieState) (xs ys : List Cycle) (r : Result A BusFault) → Taken a xs b → Spells b ys r c → Spells a (xs ++ ys) r c
spells_then a b c xs ys (Ok x) s t = taken_then a b c xs ys s t
spells_then a b c xs ys (Err fault) s t = fails_then a b c xs ys fault s t

pub taken_split : (a c : DieState) (xs ys : List Cycle) → Taken a (xs ++ ys) c → (b : DieState) × Taken a xs b × Taken b ys c
taken_split a c [] ys t = (a, refl, t)
taken_split a c (x ∷ xs) ys t = let s = taken_split t.0 c xs ys t.2 in (s.0, (t.0, t.1, s.1), s.2)

pub fails_split : (a c : DieState) (xs ys : List Cycle) (fault : BusFault) → FailsIn a (xs ++ ys) fault c
    → FailsIn a xs fault c ⊎ ((b : DieState) × Taken a xs b × FailsIn b ys fault c)
fails_split a c [] ys fault t = inr (a, refl, t)
fails_split a c (x ∷ xs) ys fault (inl t) = inl (inl t)
fails_split a c (x ∷ xs) ys fault (inr t) =
    elim (fails_split t.0 c xs ys fault t.2) [
      | inl s ↦ inl (inr (t.0, t.1, s))
      | inr s ↦ inr (s.0, (t.0, t.1, s.1), s.2)
    ]

-- ---- one cycle, whose answer is handed on

pub taken_one : (a b : DieState) (x : Cycle) → CycleStep a x done b → Taken a (x ∷ []) b
taken_one a b x step = (b, step, refl)

pub fails_one : (a b : DieState) (x : Cycle) (fault : BusFault) → CycleStep a x (refused fault) b → FailsIn a (x ∷ []) fault b
fails_one a b x fault step = inl step

pub spells_one : {A : Type 0} → (a b : DieState) (x : Cycle) (r : Result A BusFault) → CycleStep a x r b → Spells a (x ∷ []) r b
spells_one a b x (Ok v) step = (b, step, refl)
spells_one a b x (Err fault) step = inl step

pub spells_more : {A : Type 0} → (a b c : DieState) (x : Cycle) (ys : List Cycle) (r : Result A BusFault) → CycleStep a x done b → Spells b ys r c → Spells a (x ∷ ys) r c
spells_more a b c x ys (Ok v) step t = (b, step, t)
spells_more a b c x ys (Err fault) step t = inr (b, step, t)

-- ---- address cycles from a list of bytes

-- what is left from a byte on
pub left_from : (bytes : List ℕ) (i byte : ℕ) → i < length bytes → byte ≡ get_or bytes i 0 → drop i bytes ≡ byte ∷ drop (i + 1) bytes
left_from bytes i byte lt read = drop-cons bytes i 0 lt ∙ (ap (λ x. x ∷ drop (suc i) bytes) (sym read) ∙ ap (λ n. byte ∷ drop n bytes) (sym (add-one i)))

-- ---- one cycle more at the head

pub taken_more : (a b c : DieState) (x : Cycle) (ys : List Cycle) → CycleStep a x done b → Taken b ys c → Taken a (x ∷ ys) c
taken_more a b c x ys step t = (b, step, t)

pub fails_more : (a b c : DieState) (x : Cycle) (ys : List Cycle) (fault : BusFault) → CycleStep a x done b → FailsIn b ys fault c → FailsIn a (x ∷ ys) fault c
fails_more a b c x ys fault step t = inr (b, step, t)

-- ---- counts of a call that came after another

pub counted_both : {A : Type 0} (f g h : ℕ) (r : Result A BusFault) → f ≤ g → IfErr r (IsCounted g h) → IfErr r (IsCounted f h)
counted_both f g h (Ok x) le counts = tt
counted_both f g h (Err fault) le counts = counted_after fault le counts
