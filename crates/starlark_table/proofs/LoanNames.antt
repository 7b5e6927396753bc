-- The mutable iterator over the values of a table, with its loan under another name. Assumes `Logic`.
use Rattle.starlark_columns.proofs.LogicNames.{◌≡◌, ap, List, [], ◌∷◌, Ura, Val, ent, GName, ftrue, fsep, Logic, sem, ‵, ◌$◌, ◌∵◌, !, qed, use1, move, fsplit, fjoin, fpick, fpack, done, RattleType, Valss, NamedLft, fields, within}
use denote.Struct.Declared.{shape}
use Rattle.starlark_table.specs.declared.kept_hash.KeptHash as KeptHash
use Rattle.starlark_table.specs.contracts.loan.PairLoan as L
use Rattle.starlark_table.specs.contracts.loan.PairLoan.TheInside as LI
use Rattle.starlark_table.specs.declared.loan.PairLoan.{PairLoan}
use Rattle.starlark_table.specs.declared.loan.PairLoan.TheInside as LD
use Rattle.starlark_table.specs.contracts.pairs_mut.PairsMut as W
use Rattle.starlark_table.specs.contracts.pairs_mut.PairsMut.TheInside as WI
use Rattle.starlark_table.specs.declared.pairs_mut.PairsMut.TheInside as WD

module _ (a : NamedLft) (K V H : RattleType) (G : KeptHash.Ghosts H.Denot) where
  abbrev Loan : Type 0
  Loan = PairLoan K.Denot V.Denot H.Denot

  abbrev Walk : Type 0
  Walk = (W.the_row a K V H G).Denot

  -- the fields whose view is a given loan
  abbrev BehindLoan : Loan → Type 0
  BehindLoan x = (l : LD.Inside K.Denot V.Denot H.Denot) × ((L.the_view a K V H G l ≡ x) × L.the_invariant a K V H G l)

  -- the fields whose view is a given iterator
  abbrev BehindWalk : Walk → Type 0
  BehindWalk x = (w : WD.Inside K.Denot V.Denot H.Denot) × ((W.the_view a K V H G w ≡ x) × W.the_invariant a K V H G w)

  module _ {M : Type 1} {𝓤 : Ura M} (𝓛 : Logic 𝓤) where
    loan_renamed : (x : Loan) (tie : GName) (us : List Val) → ent 𝓤 (sem 𝓛 ((L.the_row a K V H G).own_val x us)) (sem 𝓛 ((L.the_row a K V H G).own_val (record x { tie = tie }) us))
    loan_renamed x tie us =
        qed 𝓛 (‵ ((L.the_row a K V H G).own_val x us) ∷ []) ∵ fpick ! (λ (l : BehindLoan x).
        let m : BehindLoan (record x { tie = tie }) = (record l.0 { slots = record l.0.slots { tie = tie } }, (ap (λ (y : Loan). record y { tie = tie }) l.1.0, l.1.1)) in
        fpack ! (BehindLoan (record x { tie = tie })) (λ m. fsep ((LI.the_row a K V H G).own_val m.0 us) ftrue) m $ done !)

    pub renamed : (x : Walk) (tie : GName) (us : List Val) → ent 𝓤 (sem 𝓛 ((W.the_row a K V H G).own_val x us)) (sem 𝓛 ((W.the_row a K V H G).own_val (x.0, tie) us))
    renamed x tie us =
        qed 𝓛 (‵ ((W.the_row a K V H G).own_val x us) ∷ []) ∵ fpick ! (λ (w : BehindWalk x).
        let m : BehindWalk (x.0, tie) = (record w.0 { loan = record w.0.loan { tie = tie } }, (ap (λ (y : Walk). (y.0, tie)) w.1.0, w.1.1)) in
        fsplit ! $ fpick ! (λ (vss : Valss (fields (WI.the_type a K V H G))). fsplit ! $ move ! (1 ∷ []) $ fsplit ! $
        use1 𝓛 (‵ ((L.the_row a K V H G).own_val m.0.loan vss.0)) (loan_renamed w.0.loan tie vss.0) $ fjoin ! $ move ! (1 ∷ 0 ∷ []) $ fjoin ! $
        fpack ! (Valss (fields (WI.the_type a K V H G))) (within (shape (WI.the_type a K V H G)) ((WI.the_type a K V H G).to m.0) us) vss $ fjoin ! $
        fpack ! (BehindWalk (x.0, tie)) (λ m. fsep ((WI.the_row a K V H G).own_val m.0 us) ftrue) m $ done !))
