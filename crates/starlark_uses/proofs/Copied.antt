-- The equations of `spelled`, and what a copy in the making has.
use Rattle.starlark_hash.proofs.Common.{◌≡◌, ◌∙◌, ◌++◌, ◌∷◌, ℕ, Global, List, String, [], ap, keys_of, length, length-map, map, refl, string_bytes, sym}
use Rattle.std.proofs.Common.{Vec}
use Rattle.starlark_dict.specs.Dict.{Dict}
use Rattle.starlark_uses.specs.Spelling.{Mark, dict, list, spell_all, spell_pairs, spell_step, spelled}
use Rattle.starlark_uses.specs.declared.value.Value.{Value, Dict as dict_of, List as list_of, roll-Value}
use Rattle.starlark_uses.specs.declared.value.Value.TheOpen.{Value-F}
use Rattle.starlark_uses.specs.declared.value.Value.TheFolds.{fold-roll-Value, map-Value}
use Rattle.starlark_uses.specs.declared.value.Value.TheVariants.{rolls-Dict, rolls-List}

-- a name with the spelling of its value
abbrev pub marked : String Global × Value → List ℕ × List Mark
marked p = (string_bytes p.0, spelled p.1)

spell_roll : (x : Value-F Value) → spelled (roll-Value x) ≡ spell_step (map-Value Value (List Mark) spelled x)
spell_roll = fold-roll-Value (List Mark) spell_step

marks : (es : List (String Global × Value)) → map (λ (p : String Global × List Mark). (string_bytes p.0, p.1)) (map (λ (p : String Global × Value). (p.0, spelled p.1)) es) ≡ map marked es
marks [] = refl
marks (e ∷ es) = ap (λ l. marked e ∷ l) (marks es)

spelled_list : (v : Vec Value Global) → spelled (list_of v) ≡ list (length v.items) ∷ spell_all (map spelled v.items)
spelled_list v = ap spelled (sym (rolls-List v)) ∙ spell_roll (Value-F.List v) ∙ ap (λ n. list n ∷ spell_all (map spelled v.items)) (length-map v.items spelled)

spelled_dict : (d : Dict (String Global) Value) → spelled (dict_of d) ≡ dict (length d.entries) ∷ spell_pairs (map marked d.entries)
spelled_dict d =
    ap spelled (sym (rolls-Dict d)) ∙ spell_roll (Value-F.Dict d)
    ∙ (λ i. dict (length-map {B = String Global × List Mark} d.entries (λ (p : String Global × Value). (p.0, spelled p.1)) i) ∷ spell_pairs (marks d.entries i))

as_long : {A B : Type 0} (f : A → B) (xs ys : List A) → map f xs ≡ map f ys → length xs ≡ length ys
as_long f xs ys e = sym (length-map xs f) ∙ ap length e ∙ length-map ys f

pub copied_list : (v w : Vec Value Global) → map spelled v.items ≡ map spelled w.items → spelled (list_of v) ≡ spelled (list_of w)
copied_list v w e = spelled_list v ∙ (λ i. list (as_long spelled v.items w.items e i) ∷ spell_all (e i)) ∙ sym (spelled_list w)

pub copied_dict : (d f : Dict (String Global) Value) → map marked d.entries ≡ map marked f.entries → spelled (dict_of d) ≡ spelled (dict_of f)
copied_dict d f e = spelled_dict d ∙ (λ i. dict (as_long marked d.entries f.entries e i) ∷ spell_pairs (e i)) ∙ sym (spelled_dict f)

-- one item more
pub pushed : {A B : Type 0} (f : A → B) (done : List A) (new x : A) (rest : List A) (all : List B) → f new ≡ f x → map f done ++ f x ∷ map f rest ≡ all → map f (done ++ new ∷ []) ++ map f rest ≡ all
pushed f [] new x rest all same e = ap (λ y. y ∷ map f rest) same ∙ e
pushed f (d ∷ ds) new x rest all same e = ap (λ l. f d ∷ l) (pushed f ds new x rest (map f ds ++ f x ∷ map f rest) same refl) ∙ e

-- the names of pairs, as those of what is copied
abbrev pub name_of : String Global × Value → List ℕ
name_of p = string_bytes p.0

firsts : (es : List (String Global × Value)) → map (λ m. m.0) (map marked es) ≡ map name_of es
firsts [] = refl
firsts (e ∷ es) = ap (λ l. name_of e ∷ l) (firsts es)

both : (done rest : List (String Global × Value)) → map (λ m. m.0) (map marked done ++ map marked rest) ≡ map name_of done ++ map name_of rest
both [] rest = firsts rest
both (d ∷ ds) rest = ap (λ l. name_of d ∷ l) (both ds rest)

keyed : (es : List (String Global × Value)) → map name_of es ≡ map string_bytes (keys_of es)
keyed [] = refl
keyed (e ∷ es) = ap (λ l. name_of e ∷ l) (keyed es)

pub names-copied : (done rest all : List (String Global × Value)) → map marked done ++ map marked rest ≡ map marked all → map name_of done ++ map name_of rest ≡ map string_bytes (keys_of all)
names-copied done rest all e = sym (both done rest) ∙ ap (map (λ m. m.0)) e ∙ firsts all ∙ keyed all
