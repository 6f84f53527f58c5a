-- What a call gives is handed on, for more than it says.
use Rattle.std.specs.Prelude.{Result, Ok, Err, IfOk, IfErr, OnErr, OnOk}

pub ok_more : {T E : Type 0} (P Q : T → Type 0) (r : Result T E) → IfOk r P → ((x : T) → P x → Q x) → IfOk r Q
ok_more P Q (Ok x) h more = more x h
ok_more P Q (Err e) h more = tt

pub err_more : {T E : Type 0} (P Q : E → Type 0) (r : Result T E) → IfErr r P → ((e : E) → P e → Q e) → IfErr r Q
err_more P Q (Ok x) h more = tt
err_more P Q (Err e) h more = more e h

pub on_err_more : {T E : Type 0} (P Q : Type 0) (r : Result T E) → OnErr r P → (P → Q) → OnErr r Q
on_err_more P Q (Ok x) h more = tt
on_err_more P Q (Err e) h more = more h

pub on_ok_more : {T E : Type 0} (P Q : Type 0) (r : Result T E) → OnOk r P → (P → Q) → OnOk r Q
on_ok_more P Q (Ok x) h more = more h
on_ok_more P Q (Err e) h more = tt

pub on_ok_both : {T E : Type 0} (P Q R : Type 0) (r : Result T E) → OnOk r P → OnOk r Q → (P → Q → R) → OnOk r R
on_ok_both P Q R (Ok x) h k more = more h k
on_ok_both P Q R (Err e) h k more = tt
