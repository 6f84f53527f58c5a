-- WHICH CALLS A RUN IS, one by one, each with what was there before it and behind it. So the calls below are read off those above them, and are left to no proof to choose.
use Rattle.std.specs.Prelude.{◌≡◌, ℕ, suc, zero, Bool, false, true, List, [], ◌∷◌, ◌++◌, refl}
use Rattle.std.specs.List.{flat_map}
use Rattle.nbd_stream.specs.Through.{Through, Times}

-- ONE CALL, and between which two states it was made
pub record CallMade {D : Type 0} (R : D → D → Type 0) : Type 0 where
  pub before : D
  pub behind : D
  pub made : R before behind

abbrev pub this_call : {D : Type 0} → (R : D → D → Type 0) → (before behind : D) → R before behind → List (CallMade R)
this_call R before behind made = record { before = before; behind = behind; made = made } ∷ []

-- the calls of a run, in order
unfoldable pub times_made : {D : Type 0} → (R : D → D → Type 0) → (n : ℕ) → (old new : D) → Times R n old new → List (CallMade R)
unfolding Times
times_made R zero old new same = []
times_made R (suc n) old new (mid, before, last) = times_made R n old mid before ++ this_call R mid new last

abbrev pub calls_made : {D : Type 0} → (R : D → D → Type 0) → (old new : D) → Through R old new → List (CallMade R)
calls_made R old new run = times_made R run.0 old new run.1

-- what each of these calls asks below it, one after another
abbrev pub each_asked : {D E : Type 0} → (R : D → D → Type 0) → (below : E → E → Type 0) → ((old new : D) → R old new → List (CallMade below)) → List (CallMade R) → List (CallMade below)
each_asked R below asked calls = flat_map (λ (c : CallMade R). asked c.before c.behind c.made) calls

-- nothing, where this is so; else what is asked where it is not
abbrev pub asked_unless : {A : Type 0} → (over : Bool) → (over ≡ false → List A) → List A
asked_unless true asked = []
asked_unless false asked = asked refl

-- THESE CALLS, AND NO OTHERS, LEAD FROM THE ONE STATE TO THE OTHER: each begins where the one before it ended
abbrev pub IsRunOf : {D : Type 0} → (R : D → D → Type 0) → List (CallMade R) → (old new : D) → Type 0
IsRunOf R calls old new = (run : Through R old new) × (calls_made R old new run ≡ calls)
