-- What the writes of a text append in all.
use Rattle.starlark_hash.proofs.Common.{◌≡◌, ℕ, ◌-◌, List, ◌++◌, length, take, drop, Option, Some, None, Result, Ok, Err, sym, ap, subst, ◌∙◌, append_assoc, take-append-drop, IfSome, OnOk}
use Rattle.std.proofs.lemmas.List.{take_rest}

-- the written part grows by the front of the rest
pub moves_front : (all done rest : List ℕ) (n : ℕ) → all ≡ done ++ rest → all ≡ (done ++ take n rest) ++ take (length rest - n) (drop n rest)
moves_front all done rest n e =
    e ∙ ap (λ l. done ++ l) (sym (take-append-drop n rest)) ∙ sym (append_assoc done (take n rest) (drop n rest)) ∙ ap (λ l. (done ++ take n rest) ++ l) (sym (take_rest rest n))

pub IfSome-weaker : {X : Type 0} (o : Option X) (P Q : X → Type 0) → ((x : X) → P x → Q x) → IfSome o P → IfSome o Q
IfSome-weaker None P Q f h = tt
IfSome-weaker (Some x) P Q f h = f x h

pub OnOk-weaker : {X Y : Type 0} (r : Result X Y) (P Q : Type 0) → (P → Q) → OnOk r P → OnOk r Q
OnOk-weaker (Ok x) P Q f h = f h
OnOk-weaker (Err y) P Q f h = tt

-- a statement about the bytes of a text holds of the text
pub IfSome-known : (o : Option (List ℕ)) (P : List ℕ → Type 0) (bytes : List ℕ) → IfSome o (λ bs. bytes ≡ bs) → P bytes → IfSome o P
IfSome-known None P bytes e h = tt
IfSome-known (Some bs) P bytes e h = subst P e h
