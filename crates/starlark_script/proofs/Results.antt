-- Results whose error is replaced.
use Rattle.starlark_hash.proofs.Common.{◌≡◌, Result, Ok, Err, sym, subst, IfOk, OnErr, MatchResult}
use Rattle.std.specs.Prelude.{IsErrAnd}

pub IfOk-map_err : {T E F : Type 0} (r : Result T E) (s : Result T F) (Q : E → F → Type 0) (P : T → Type 0)
    → MatchResult r (λ x. s ≡ Ok x) (λ e. IsErrAnd s (Q e)) → IfOk r P → IfOk s P
IfOk-map_err (Ok x) s Q P m h = subst (λ t. IfOk t P) (sym m) h
IfOk-map_err (Err e) (Ok y) Q P m h = absurd m
IfOk-map_err (Err e) (Err f) Q P m h = tt

pub IfOk-weaker : {T E : Type 0} (r : Result T E) (P Q : T → Type 0) → ((x : T) → P x → Q x) → IfOk r P → IfOk r Q
IfOk-weaker (Ok x) P Q f h = f x h
IfOk-weaker (Err e) P Q f h = tt

pub OnErr-always : {T E : Type 0} (r : Result T E) (P : Type 0) → P → OnErr r P
OnErr-always (Ok x) P h = tt
OnErr-always (Err e) P h = h
