-- `try_insert` meets its contract, at any element type. The set is lent to the call that inserts or refuses the element, and
-- comes back; it is then written no more, and the element that is there is lent. Assumes `Logic`.
use Rattle.starlark_columns.proofs.LogicNames.{arith, sep, [], ◌∷◌, refl, ◌∵◌, ◌$◌, !, qed, raw, ◌⊛◌, split3, heard, done, tells, a_type, dcons, dnil, fact, unit, param, bounded, layout, Laws, param_laws, of_field, copy_shared, named_lft, unit-field, unit-laws, unit-copy, result_laws, RattleType, IfErr, Result}
use contract.Lifetimes.{Lfts}
use Rattle.starlark_hash.proofs.Common.{Bool, HashWrites}
use Rattle.core.specs.contracts.result.Result as RS
use Rattle.std.specs.declared.cmp.PartialEq as PartialEq
use Rattle.std.specs.declared.hash.Hash as Hash
use Rattle.starlark_hash.specs.Entries.{match_of}
use Rattle.starlark_small.specs.Map.{own_hashed}
use Rattle.starlark_sets.specs.TryInsert.{AnswersTry, IsPlaced, IsTold, IsWithin, Tries}
use Rattle.starlark_sets.specs.Set.{Set, element_at}
use Rattle.starlark_sets.specs.declared.ordered_set.try_insert.Refusal.{Refusal}
use Rattle.starlark_sets.specs.contracts.ordered_set.try_insert.Refusal as N
use Rattle.starlark_sets.specs.contracts.ordered_set.try_insert.TryInsertError as X
use Rattle.starlark_sets.specs.contracts.ordered_set.OrderedSet as S
use Rattle.starlark_sets.specs.contracts.ordered_set.OrderedSet.try_insert as F
use Rattle.starlark_sets.proofs.Put.{answers-try}
use Rattle.starlark_sets.proofs.ShownAfter.{Words, meets}
use Rattle.starlark_sets.proofs.ordered_set.try_insert.Refusal.TheLaws as refusal_laws
use Rattle.starlark_sets.proofs.ordered_set.try_insert.TryInsertError.TheLaws as error_laws
use Rattle.starlark_sets.proofs.ordered_set.OrderedSet.insert_new.Met as put
use Rattle.starlark_sets.proofs.ordered_set.OrderedSet.frozen.Met as freeze
use Rattle.starlark_sets.proofs.ordered_set.try_insert.told.Met as show
use Rattle.starlark_sets.proofs.ordered_set.OrderedSet.try_insert as routine

abbrev Placed : {T : Type 0} → (T → T → Bool) → (T → HashWrites) → Set T → T → Result (Unit {0}) (Refusal T) → Set T → Type 0
Placed eq feeds old value tried new = IfErr tried (IsPlaced new.entries (element_at old (match_of eq old.entries (own_hashed feeds value))) value)

abbrev words : (T : RattleType) → Laws T → PartialEq.Ghosts T.Denot → Hash.Ghosts T.Denot → Words
words T L P G =
    let eq = P.eq in let under = own_hashed G.hash_input in let T' : RattleType = param 0 T in let LT : Laws T' = param_laws 0 T L in let Error : Lfts 2 → RattleType = λ κs. X.the_row (named_lft 2 0 tt κs) T' in
    let none_laws : Laws unit = of_field unit-field unit-laws refl (copy_shared unit-field unit-copy) in record {
      T = T;
      R = S.the_row T' P;
      Index = RS.the_row unit (N.the_row T');
      Out = λ κs. RS.the_row unit (Error κs);
      ρ = layout (RS.the_row unit (Error ([], ([], tt))));
      laws = L;
      index_laws = result_laws unit (N.the_row T') none_laws (refusal_laws.the_row_laws T' LT);
      out_laws = λ κs. result_laws unit (Error κs) none_laws (error_laws.the_row_laws (named_lft 2 0 tt κs) T' LT);
      lands = λ κs v good. good;
      Puts = λ old value tried new. Tries eq old new (under value) tried × Placed eq G.hash_input old value tried new × IfErr tried (IsWithin new.entries);
      Within = λ new tried. IfErr tried (IsWithin new.entries);
      Shows = λ κs new tried y. IsTold new.entries tried y;
      Ends = λ κs old value y new. Tries eq old new (under value) y;
      Tells = λ κs old value y. AnswersTry eq old (under value) y;
      within = λ old value tried new put. put.2;
      ends = λ κs old value tried new y put told. grind (arith, told, put.0);
      tells = λ κs old value tried new y put told. answers-try eq (under value) old new y (grind (arith, told, put.0)) (grind (arith, told, put.1));
    }

pub try_insert_spec : {M : Type 1} → routine.Statement.statement M
try_insert_spec 𝓤 𝓛 𝓜 𝓡 wired T L E dE P dP G dG is_eq is_partial is_hash =
    let eq = P.eq in let under = own_hashed G.hash_input in let W = words T L P G in
    meets W 𝓛 (λ old value tried new. sep 𝓤 (fact 𝓤 (Tries eq old new (under value) tried)) (sep 𝓤 (fact 𝓤 (Placed eq G.hash_input old value tried new)) (fact 𝓤 (W.Within new tried)))) 𝓜 𝓡
    (λ old value tried new.
    let Tried = Tries eq old new (under value) tried in let Known = Placed eq G.hash_input old value tried new in
    qed 𝓛 ((raw (fact 𝓤 Tried) ⊛ raw (fact 𝓤 Known) ⊛ raw (fact 𝓤 (W.Within new tried))) ∷ []) ∵
    split3 ! $ heard ! Tried (λ a. heard ! Known (λ b. heard ! (W.Within new tried) (λ c. tells ! (W.Puts old value tried new) (a, b, c) $ done !)))) _ _
    (F.Key.name (bounded (a_type ∷ []) (T, tt) (dcons dE (dcons dP (dcons dG dnil))))) (routine.Code.unfolded 𝓤 𝓛.H 𝓜 𝓡 wired (T, tt) dE dP dG)
    (put.met 𝓤 𝓛 𝓜 𝓡 (routine.Code.calls-starlark_sets::ordered_set::OrderedSet::insert_new 𝓡.env wired) T L E dE P dP G dG is_eq is_partial is_hash)
    (freeze.met 𝓤 𝓛 𝓜 𝓡 (routine.Code.calls-starlark_sets::ordered_set::OrderedSet::frozen 𝓡.env wired) T L E dE P dP is_eq is_partial)
    (show.met 𝓤 𝓛 𝓜 𝓡 (routine.Code.calls-starlark_sets::ordered_set::try_insert::told 𝓡.env wired) T L E dE P dP is_eq is_partial)
