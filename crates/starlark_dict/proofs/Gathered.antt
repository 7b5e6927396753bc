-- Items that went into a dictionary beside `()`, as those of a set.
use Rattle.starlark_hash.proofs.Common.{[], ◌∙◌, ◌∷◌, ◌≡◌, Bool, IsEquivalence, List, Option, Yields, ap, is_member, keys_of, refl, ⊤}
use Rattle.std.specs.Iterator.{DrainsIf}
use Rattle.std.specs.HashMap as map
use Rattle.std_collections.proofs.SetKeys.{inserts_seen}
use Rattle.std_collections.specs.Layout.HashSet.{key_set}
use Rattle.starlark_hash.specs.Unit.{StepsBeside}
use Rattle.starlark_small.proofs.CallerCollect.{run_of}
use Rattle.starlark_dict.specs.Dict as dict
use Rattle.starlark_dict.specs.Dict.{Dict}
use Rattle.starlark_dict.specs.DictSet.{HasEach, IsFromIterResult, contains, insert_all}
use Rattle.starlark_dict.proofs.Elements.{keys-inserted}

module _ {S T : Type 0} (steps : S → Option T → S → Type 0) where
  yields_alone : (s t : S) (xs : List (T × Unit {0})) → Yields (StepsBeside steps) s xs t → Yields steps s (keys_of xs) t
  yields_alone s t [] gave = gave
  yields_alone s t (x ∷ xs) (j, step, rest) = (j, step, yields_alone j t xs rest)

  drains_alone : (s : S) (xs : List (T × Unit {0})) → DrainsIf (StepsBeside steps) ⊤ s xs → DrainsIf steps ⊤ s (keys_of xs)
  drains_alone s xs (t, gave, ends) = (t, yields_alone s t xs gave, ends)

  module _ (eq : T → T → Bool) (laws : IsEquivalence eq) where
    keys-inserted_all : (es xs : List (T × Unit {0})) → keys_of (dict.insert_all eq es xs) ≡ insert_all eq (keys_of es) (keys_of xs)
    keys-inserted_all es [] = refl
    keys-inserted_all es (x ∷ xs) = keys-inserted_all (dict.insert_entry eq es x.0 tt) xs ∙ ap (λ l. insert_all eq l (keys_of xs)) (keys-inserted eq es x.0)

    -- a dictionary of items beside `()` is the set of the items
    pub gathered : {U : Type 0} (becomes : U → S → Type 0) (iter : U) (it : S) → becomes iter it → (xs : List (T × Unit {0})) → DrainsIf (StepsBeside steps) ⊤ it xs → (d : Dict T (Unit {0})) → d.entries ≡ dict.insert_all eq [] xs → map.IsFromIterResult eq xs d
        → ((it : S) × (ys : List T) × becomes iter it × DrainsIf steps ⊤ it ys × (keys_of d.entries ≡ insert_all eq [] ys) × IsFromIterResult eq ys (key_set d)) × HasEach eq steps becomes iter (key_set d)
    gathered becomes iter it made xs drains d entries from =
        let gave = drains_alone it xs drains in
        let members = inserts_seen laws [] refl xs d.entries from.0 in
        let ended = gave.2 tt in (
          (it, keys_of xs, made, gave, ap keys_of entries ∙ keys-inserted_all [] xs, (members, from.1)),
          (it, made, run_of steps it (keys_of xs) (λ ys. (x : T) → contains eq (key_set d) x ≡ is_member eq ys x) (ended.0, (gave.0, gave.1, ended.1)) members),
        )
