-- The equations of `count`.
use Rattle.starlark_hash.proofs.Common.{◌≡◌, ℕ, ◌+◌, List, [], ◌∷◌, map, refl, sym, ap, ◌∙◌, values_of, Global, String}
use Rattle.starlark_dict.specs.Dict.{Dict, values}
use Rattle.starlark_uses.specs.Counts.{count_step, count, count_all, sum_of}
use Rattle.starlark_uses.specs.declared.value.Value.{Value, Dict as dict_of, roll-Value}
use Rattle.starlark_uses.specs.declared.value.Value.TheOpen.{Value-F}
use Rattle.starlark_uses.specs.declared.value.Value.TheFolds.{fold-roll-Value, map-Value}
use Rattle.starlark_uses.specs.declared.value.Value.TheVariants.{rolls-Dict}

values-map : {K A B : Type 0} (f : A → B) (es : List (K × A)) → values_of (map {B = K × B} (λ (p : K × A). (p.0, f p.1)) es) ≡ map f (values_of es)
values-map f [] = refl
values-map f (e ∷ es) = ap (λ l. f e.1 ∷ l) (values-map f es)

count_roll : (x : Value-F Value) → count (roll-Value x) ≡ count_step (map-Value Value ℕ count x)
count_roll = fold-roll-Value ℕ count_step

pub count_dict : (d : Dict (String Global) Value) → count (dict_of d) ≡ 1 + count_all (values d)
count_dict d = ap count (sym (rolls-Dict d)) ∙ count_roll (Value-F.Dict d) ∙ ap (λ ns. 1 + sum_of ns) (values-map count d.entries)
