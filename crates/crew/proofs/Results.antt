-- What holds of a result in either way.
use Rattle.std.proofs.Common.{◌≡◌, None}
use Rattle.std.specs.Prelude.{Result, Ok, Err, IfOk, IfErr, OnOk}
use Rattle.std.specs.Result.{result_err}

pub ok_on : {T E : Type 0} (P : T → Type 0) (Q : Type 0) (r : Result T E) → ((x : T) → P x → Q) → IfOk r P → OnOk r Q
ok_on P Q (Ok x) f p = f x p
ok_on P Q (Err e) f p = tt

pub err_if : {T E : Type 0} (P Q : E → Type 0) (r : Result T E) → ((e : E) → P e → Q e) → IfErr r P → IfErr r Q
err_if P Q (Ok x) f p = tt
err_if P Q (Err e) f p = f e p

pub ok_from_none : {T E : Type 0} (r : Result T E) (P : Type 0) → result_err r ≡ None → OnOk r P → P
ok_from_none (Ok x) P none p = p
ok_from_none (Err e) P none p = absurd (cc (none))
