-- `get_or_insert` meets its contract, at any element type. The set is lent to the call that finds or appends the element, and
-- comes back; it is then written no more, and the element is lent. Assumes `Logic`.
use Rattle.starlark_columns.proofs.LogicNames.{arith, ◌<◌, [], ◌∷◌, length, a_type, dcons, dnil, named, refl, id⊢, fact, usize, param, bounded, layout, Laws, param_laws, of_field, copy_shared, ShrRef, usize-field, usize-laws, usize-copy, result_laws, RattleType, IfOk, Lft}
use Rattle.starlark_columns.proofs.ProofSteps.{shr_laws}
use Rattle.core.specs.contracts.result.Result as RS
use Rattle.std.specs.declared.cmp.PartialEq as PartialEq
use Rattle.std.specs.declared.hash.Hash as Hash
use Rattle.starlark_hash.proofs.Common.{IsEquivalence}
use Rattle.starlark_hash.proofs.no_room.NoRoom.TheLaws as room_laws
use Rattle.starlark_hash.specs.contracts.no_room.NoRoom as N
use Rattle.starlark_small.specs.Map.{own_hashed}
use Rattle.starlark_sets.specs.Insert.{AnswersIndex, ShowsPut, Adds, IsShown}
use Rattle.starlark_sets.specs.contracts.small_set.SmallSet as S
use Rattle.starlark_sets.specs.contracts.small_set.SmallSet.get_or_insert as F
use Rattle.starlark_sets.proofs.Callers.{absent-added}
use Rattle.starlark_sets.proofs.Put.{shows-put}
use Rattle.starlark_sets.proofs.ShownAfter.{Words, meets}
use Rattle.starlark_sets.proofs.small_set.SmallSet.index_or_push_own.Met as put
use Rattle.starlark_sets.proofs.small_set.SmallSet.frozen.Met as freeze
use Rattle.starlark_sets.proofs.small_set.get_or_insert.shown.Met as show
use Rattle.starlark_sets.proofs.small_set.SmallSet.get_or_insert as routine

abbrev words : (T : RattleType) → Laws T → (P : PartialEq.Ghosts T.Denot) → IsEquivalence P.eq → Hash.Ghosts T.Denot → Words
words T L P laws G =
    let eq = P.eq in let under = own_hashed G.hash_input in let T' : RattleType = param 0 T in let LT : Laws T' = param_laws 0 T L in let Back : RattleType = N.the_row T' in let LB : Laws Back = room_laws.the_row_laws T' LT in
    let Shown : Lft → RattleType = λ κ. RS.the_row (ShrRef (named 0) κ T') Back in record {
      T = T;
      R = S.the_row T' P;
      Index = RS.the_row usize Back;
      Out = λ κs. Shown κs.0;
      ρ = layout (Shown []);
      laws = L;
      index_laws = result_laws usize Back (of_field usize-field usize-laws refl (copy_shared usize-field usize-copy)) LB;
      out_laws = λ κs. result_laws (ShrRef (named 0) κs.0 T') Back (shr_laws κs.0 T' LT) LB;
      lands = λ κs v good. good;
      Puts = λ old value index new. AnswersIndex eq old new (under value) value index;
      Within = λ new index. IfOk index (λ i. i < length new.entries);
      Shows = λ κs new index y. IsShown new.entries index y;
      Ends = λ κs old value y new. Adds eq old new (under value) y;
      Tells = λ κs old value y. ShowsPut eq old (under value) y;
      within = λ old value index new answers. answers.within;
      ends = λ κs old value index new y answers told. grind (arith, told, answers.set);
      tells = λ κs old value index new y answers told. shows-put eq laws (under value) old y
          (grind (arith, told, answers.stored)) (absent-added eq old new (under value) y (grind (arith, told, answers.set))) (grind (arith, told, answers.handed_back));
    }

pub get_or_insert_spec : {M : Type 1} → routine.Statement.statement M
get_or_insert_spec 𝓤 𝓛 𝓜 𝓡 wired T L E dE P dP G dG dD is_eq is_partial is_hash drops =
    let eq = P.eq in let under = own_hashed G.hash_input in
    meets (words T L P is_eq.laws G) 𝓛 (λ old value index new. fact 𝓤 (AnswersIndex eq old new (under value) value index)) 𝓜 𝓡 (λ old value index new. id⊢ 𝓤 _) _ _
    (F.Key.name (bounded (a_type ∷ []) (T, tt) (dcons dE (dcons dP (dcons dG (dcons dD dnil)))))) (routine.Code.unfolded 𝓤 𝓛.H 𝓜 𝓡 wired (T, tt) dE dP dG dD)
    (put.met 𝓤 𝓛 𝓜 𝓡 (routine.Code.calls-starlark_sets::small_set::SmallSet::index_or_push_own 𝓡.env wired) T L E dE P dP G dG dD is_eq is_partial is_hash drops)
    (freeze.met 𝓤 𝓛 𝓜 𝓡 (routine.Code.calls-starlark_sets::small_set::SmallSet::frozen 𝓡.env wired) T L E dE P dP is_eq is_partial)
    (show.met 𝓤 𝓛 𝓜 𝓡 (routine.Code.calls-starlark_sets::small_set::get_or_insert::shown 𝓡.env wired) T L E dE P dP is_eq is_partial)
