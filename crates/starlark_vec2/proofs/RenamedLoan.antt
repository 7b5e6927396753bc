-- The mutable iterator over pairs, with another name for the loan of all pairs. Assumes `Logic`.
use Rattle.starlark_columns.proofs.LogicNames.{◌≡◌, ap, List, [], ◌∷◌, Ura, Val, ent, GName, ftrue, fsep, Logic, sem, ‵, ◌$◌, ◌∵◌, !, qed, fpick, fpack, done, RattleType, NamedLft}
use Rattle.starlark_vec2.specs.contracts.pairs_mut.PairsMut as C
use Rattle.starlark_vec2.specs.declared.pairs_mut.PairsMut.TheInside.{Inside}

pub renamed : (a : NamedLft) (K V : RattleType) {M : Type 1} {𝓤 : Ura M} (𝓛 : Logic 𝓤) (x : List (K.Denot × V.Denot) × GName) (tie : GName) (us : List Val)
    → ent 𝓤 (sem 𝓛 ((C.the_row a K V).own_val x us)) (sem 𝓛 ((C.the_row a K V).own_val (x.0, tie) us))
renamed a K V 𝓛 x tie us =
    -- the fields of an iterator whose model is y
    let Walk : Type 0 = List (K.Denot × V.Denot) × GName in let Behind : Walk → Type 0 = λ y. (w : Inside K.Denot V.Denot) × ((C.the_view a K V w ≡ y) × C.the_invariant a K V w) in
    qed 𝓛 (‵ ((C.the_row a K V).own_val x us) ∷ []) ∵ fpick ! (λ (w : Behind x).
    fpack ! (Behind (x.0, tie)) (λ m. fsep ((C.TheInside.the_row a K V).own_val m.0 us) ftrue) (record w.0 { loan = record w.0.loan { tie = tie } }, (ap (λ (y : Walk). (y.0, tie)) w.1.0, w.1.1)) $ done !)
