-- What is due where a step failed: nothing of a value, and of the error what the step says.
use Rattle.std.proofs.Common.{Result, Ok, Err}
use Rattle.std.specs.Result.{IfOk, IsErrAnd, OnErr}

pub no_value : {T E : Type 0} (P : T → Type 0) (Q : E → Type 0) (r : Result T E) → IsErrAnd r Q → IfOk r P
no_value P Q (Ok x) e = absurd e
no_value P Q (Err x) e = tt

pub with_error : {T E : Type 0} {P : Type 0} (r : Result T E) → P → OnErr r P
with_error (Ok x) p = tt
with_error (Err x) p = p
