-- `Dict` as a type that may hold the type that holds it, by its values. What is seen of it is std's `HashMap`, so std's former of that
-- serves.
use Rattle.std.specs.Prelude.{◌≡◌, false, List, [], ◌∷◌, map, ⊤}
use Rattle.std.proofs.lemmas.List.{get_or-map, length-map}
use Rattle.std.proofs.lemmas.List.Elements.{All-map}
use mathlib.Core.List.{map-map}
use mathlib.Core.Path.{refl, sym, subst, ap, ◌∙◌}
use mathlib.Core.Former.{Former, one_more, this, list, via, children}
use native.Mathlib.Nat.{ℕ_set}
use native.Mathlib.Omega.{arith}
use base.Stored.{coded×, coded_ℕ, gcons}
use denote.RattleType.{RattleType}
use denote.HoleLaws.{Alike}
use denote.HolePlaces.{Recodes, struct_places, laid}
use denote.Hole.Carrier.{listed}
use denote.Hole.Fix.{over}
use denote.Param.Weighed.{Weighed}
use denote.Model.Placed.{held, view_places}
use Rattle.std.specs.Hash.{HashWrites}
use Rattle.std.specs.declared.cmp.PartialEq as eq
use Rattle.std.specs.declared.hash.Hash as hash
use Rattle.std.specs.HashMap.{hash_map_eq}
use Rattle.std_collections.specs.Layout.Former.{entry, entries_recoded, on_value as on_pair}
use Rattle.std_collections.specs.Layout.HashMap.{hash_map}
use Rattle.std_collections.specs.formers.hash_map.HashMap as hash_map_is
use Rattle.std_collections.specs.formers.hash_map.HashMap.{entries_eq-map}
use Rattle.starlark_hash.specs.Entries.{Entry, entry_hash, entry_key, pair_of}
use Rattle.starlark_hash.specs.Hasher.{own_hash}
use Rattle.starlark_small.specs.Lookup.{AreOwnEntries}
use Rattle.starlark_small.specs.formers.small_map.SmallMap as small_map
use Rattle.starlark_vecmap.specs.formers.vec_map.VecMap as vec_map
use Rattle.starlark_vecmap.specs.formers.vec_map.VecMap.{on_value}
use Rattle.starlark_dict.specs.declared.dict.Dict.TheInside.{Inside}
use Rattle.starlark_dict.specs.declared.dict.Dict.TheView.{view, invariant}
use Rattle.starlark_dict.specs.contracts.dict.Dict as C
use Rattle.starlark_dict.specs.contracts.dict.Dict.TheInside as I
use Rattle.starlark_dict.specs.Dict.{Dict, Memory, memory, memory_code, room}

abbrev pub the_former : Former {0} → Type 0 → Former {0}
the_former g K = hash_map_is.the_former g K Memory ⊤ ⊤

abbrev pub the_weighed : {g : Former {0}} → Weighed g → (K : Type 0) → Weighed (the_former g K)
the_weighed w K = hash_map_is.the_weighed w K Memory ⊤ ⊤

pub the_empty : (K : Type 0) → K → Dict K ⊥
the_empty K k = hash_map [] (record { capacity = 0; indexed = false }) 0

abbrev pub the_items : (K X : Type 0) → Dict K X → List X
the_items K X d = hash_map_is.the_items K Memory ⊤ ⊤ X d

pub the_items_listed : (K X : Type 0) (d : Dict K X) → listed _ (children (the_former this K) X d) ≡ the_items K X d
the_items_listed K X d = hash_map_is.the_items_listed K Memory ⊤ ⊤ X d

abbrev fields : Type 0 → Former {0}
fields K = via (small_map.the_former this K) (λ X. Inside K X) (λ X a. a.map) (λ X v. record { map = v }) (λ X a. refl) (λ X v. refl)

pairs-map : {K X Y : Type 0} (h : X → Y) (es : List (Entry K X)) → map pair_of (map (on_value h) es) ≡ map (λ p. (p.0, h p.1)) (map pair_of es)
pairs-map h es = map-map pair_of (on_value h) es ∙ sym (map-map (λ p. (p.0, h p.1)) pair_of es)

pairs-held : (K X : Type 0) (es : List (Entry K X)) → held (list (entry this K)) X (map pair_of es) ≡ held (list (vec_map.entry this K)) X es
pairs-held K X [] = refl
pairs-held K X (e ∷ es) = λ i. (one_more (pairs-held K X es i).0, (e.1, (pairs-held K X es i).1))

-- keys under their own hashes stay so at other values, and that they are is a proposition
module _ {K X Y : Type 0} (feeds : K → HashWrites) (h : X → Y) (es : List (Entry K X)) where
  own-to : AreOwnEntries feeds es → AreOwnEntries feeds (map (on_value h) es)
  unfolding AreOwnEntries
  own-to own = All-map (λ e. entry_hash e ≡ own_hash feeds (entry_key e)) (on_value h) es own

  own-from : AreOwnEntries feeds (map (on_value h) es) → AreOwnEntries feeds es
  unfolding AreOwnEntries
  own-from own = λ k d below. subst (λ (e : Entry K Y). entry_hash e ≡ own_hash feeds (entry_key e)) (get_or-map (on_value h) es k d (on_value h d) below) (own k (on_value h d) (omega (arith, below, length-map es (on_value h))))

own-prop : {K X : Type 0} (feeds : K → HashWrites) (es : List (Entry K X)) → IsProp (AreOwnEntries feeds es)
unfolding AreOwnEntries
own-prop feeds es p q = λ t k d below i. record { 0 = ℕ_set _ _ (λ j. (p k d below j).0) (λ j. (q k d below j).0) t i }

module _ (K : RattleType) (G : eq.Ghosts K.Denot) (H : hash.Ghosts K.Denot) (R R' : RattleType) (h : R.Denot → R'.Denot) where
  pub the_places : Alike R R' h → Alike (C.the_row K R G H) (C.the_row K R' G H) ((the_former this K.Denot).map R.Denot R'.Denot h)
  the_places a = view_places (fields K.Denot) (the_former this K.Denot) (λ X. view K.Denot X G H)
      (λ X Y k u i. hash_map (pairs-map k u.map.entries i) (record { capacity = u.map.capacity; indexed = u.map.indexed }) u.map.room)
      (λ X u. pairs-held K.Denot X u.map.entries)
      R.Denot R'.Denot h (C.the_row K R G H).coded (C.the_row K R' G H).coded
      (invariant K.Denot R.Denot G H) (invariant K.Denot R'.Denot G H) (λ u. own-prop H.hash_input u.map.entries) (λ u. own-prop H.hash_input u.map.entries)
      (λ u. own-to H.hash_input h u.map.entries) (λ u. own-from H.hash_input h u.map.entries)
      (over (I.the_row K R G H)) (over (I.the_row K R' G H))
      (struct_places (I.the_type K R G H) (I.the_type K R' G H) ((small_map.the_former this K.Denot).map R.Denot R'.Denot h, tt) _ (λ d. refl) refl
      (laid _ _ _ (small_map.the_places K G R R' h a), tt))

  pub the_codes_placed : Recodes R R' h → Recodes (C.the_row K R G H) (C.the_row K R' G H) ((the_former this K.Denot).map R.Denot R'.Denot h)
  the_codes_placed e d = ap (λ x. gcons x ((coded× memory_code coded_ℕ).code (memory d, room d))) (entries_recoded K R R' h e d.entries)

pub the_eq_natural : (K X Y : Type 0) (h : X → Y) (G : eq.Ghosts K) (H : hash.Ghosts K) (V : eq.Ghosts Y) (m n : Dict K X)
    → hash_map_eq G.eq V.eq ((the_former this K).map X Y h m) ((the_former this K).map X Y h n) ≡ hash_map_eq G.eq (λ x y. V.eq (h x) (h y)) m n
the_eq_natural K X Y h G H V m n = entries_eq-map G.eq (λ p q. V.eq p.1 q.1) (on_pair h) m.entries n.entries (λ p. refl)
