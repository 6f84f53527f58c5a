-- A fault that a `?` hands on.
use Rattle.std.proofs.Common.{◌≡◌, ap, subst, sym}
use Rattle.std.specs.Prelude.{Result, Ok, Err, IfErr, IfOk, IsErrAnd}

-- what holds of the fault of a call holds of the fault that is handed on
pub handed_on : {T E : Type 0} (P : E → Type 0) (r : Result T E) (told : E) → IsErrAnd r (λ e. e ≡ told) → P told → IfErr r P
handed_on P (Ok done) told is h = tt
handed_on P (Err e) told is h = subst P (sym is) h

-- and what is told is that fault
pub is_handed_on : {T E : Type 0} (r : Result T E) (told : E) → IsErrAnd r (λ e. e ≡ told) → r ≡ Err told
is_handed_on (Ok done) told is = absurd is
is_handed_on (Err e) told is = ap Err is

-- what is so of a disk where one store is honest is so where another one is, by which it is
pub clear_by : {D E : Type 0} (P : D → Type 0) (H K : Type 0) (result : Result D E) → (H → K) → IfOk result (λ d. K → P d) → IfOk result (λ d. H → P d)
clear_by P H K (Ok d) by clear = λ h. clear (by h)
clear_by P H K (Err e) by clear = tt
