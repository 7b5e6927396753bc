-- What a look-up among scopes finds.
use Rattle.starlark_hash.proofs.Common.{◌≡◌, ℕ, zero, suc, ◌<◌, Bool, true, false, List, [], ◌∷◌, ◌++◌, length, lookup as first, get_or, take, Option, Some, None, Result, Ok, Err, OnOk, OnErr, refl, sym, ap, subst, ◌∙◌, arith, bytes_eq, bytes_eq-Decides, string_bytes, string_eq, Global, String}
use Rattle.std.specs.Prelude.{All}
use Rattle.std.specs.Option.{option_or}
use Rattle.std.proofs.lemmas.Map.{update_other}
use Rattle.std.proofs.lemmas.Map.Text.{hash_map_updates_text}
use Rattle.starlark_dict.specs.Dict.{get_by_text, IsUnchanged, Updates, UpdatesBy}
use Rattle.starlark_uses.specs.Bindings.{Scope, Bindings, IsInnermost, bindings, bound, found, lookup, scopes_of}

false_unless : (b : Bool) → (b ≡ true → ⊥) → b ≡ false
false_unless true never = absurd (never refl)
false_unless false never = refl

module _ {V : Type 0} where
  -- the look-up among the first scopes, of which the last binds the name, or does not
  pub found_here : (scopes : List (Scope V)) (i : ℕ) (d : Scope V) (name : List ℕ) (value : V) → i < length scopes → bound (get_or scopes i d) name ≡ Some value → found (take (suc i) scopes) name ≡ Some value
  found_here [] i d name value within there = absurd (omega arith)
  found_here (scope ∷ inner) zero d name value within there = there
  found_here (scope ∷ inner) (suc i) d name value within there = ap (λ o. option_or o (bound scope name)) (found_here inner i d name value (omega arith) there)

  pub found_outer : (scopes : List (Scope V)) (i : ℕ) (d : Scope V) (name : List ℕ) → i < length scopes → bound (get_or scopes i d) name ≡ None → found (take (suc i) scopes) name ≡ found (take i scopes) name
  found_outer [] i d name within there = absurd (omega arith)
  found_outer (scope ∷ inner) zero d name within there = there
  found_outer (scope ∷ inner) (suc i) d name within there = ap (λ o. option_or o (bound scope name)) (found_outer inner i d name (omega arith) there)

  or_none : (o : Option V) → option_or o None ≡ o
  or_none None = refl
  or_none (Some v) = refl

  or_assoc : (o p q : Option V) → option_or (option_or o p) q ≡ option_or o (option_or p q)
  or_assoc None p q = refl
  or_assoc (Some v) p q = refl

  -- the last of the scopes is looked up first
  pub found_last : (scopes : List (Scope V)) (last : Scope V) (name : List ℕ) → found (scopes ++ last ∷ []) name ≡ option_or (bound last name) (found scopes name)
  found_last [] last name = sym (or_none (bound last name))
  found_last (scope ∷ scopes) last name = ap (λ o. option_or o (bound scope name)) (found_last scopes last name) ∙ or_assoc (bound last name) (found scopes name) (bound scope name)

  all_of : (scope : Scope V) (inner : List (Scope V)) (name : List ℕ) → bound scope name ≡ None → All (λ s. bound s name ≡ None) inner → All (λ s. bound s name ≡ None) (scope ∷ inner)
  all_of scope inner name e none zero d within = e
  all_of scope inner name e none (suc k) d within = none k d (omega arith)

  innermost_of : (scope : Scope V) (inner : List (Scope V)) (name : List ℕ) (o p : Option V) → bound scope name ≡ p → IsInnermost inner name o → IsInnermost (scope ∷ inner) name (option_or o p)
  innermost_of scope inner name (Some value) p e there = (scope ∷ there.0, (there.1.0, (there.1.1.0, (ap (λ l. scope ∷ l) there.1.1.1.0, there.1.1.1.1, there.1.1.1.2))))
  innermost_of scope inner name None (Some value) e none = ([], (scope, (inner, (refl, e, none))))
  innermost_of scope inner name None None e none = all_of scope inner name e none

  found-innermost : (scopes : List (Scope V)) (name : List ℕ) → IsInnermost scopes name (found scopes name)
  found-innermost [] name = λ k d within. absurd (omega arith)
  found-innermost (scope ∷ inner) name = innermost_of scope inner name (found inner name) (bound scope name) refl (found-innermost inner name)

  -- what is looked up is what the innermost scope that binds the name binds it to
  pub lookup_innermost : (b : Bindings V) (name : List ℕ) (o : Option V) → o ≡ lookup b name → IsInnermost (scopes_of b) name o
  lookup_innermost b name o e = subst (IsInnermost (scopes_of b) name) (found_last b.enclosing b.innermost name ∙ sym e) (found-innermost (scopes_of b) name)

  -- a scope without entries binds nothing, so that the look-ups stay when one is entered
  pub lookup_entered : (old new : Bindings V) → new.innermost.entries ≡ [] → new.enclosing ≡ old.enclosing ++ old.innermost ∷ [] → (name : List ℕ) → lookup new name ≡ lookup old name
  lookup_entered old new bare around name =
      (λ i. option_or (first (λ key. bytes_eq name (string_bytes key)) (bare i)) (found (around i) name)) ∙ found_last old.enclosing old.innermost name

  -- a change at a name leaves what other names are bound to
  bound_other : (old new : Scope V) (name : List ℕ) (w : Option V) → UpdatesBy string_eq (λ key. bytes_eq name (string_bytes key)) old new w → (other : List ℕ) → (other ≡ name → ⊥) → bound new other ≡ bound old other
  bound_other old new name w updates other differ =
      hash_map_updates_text name old new w updates other
      ∙ update_other bytes_eq (get_by_text old) name w other (false_unless (bytes_eq name other) (λ same. differ (sym ((bytes_eq-Decides name other).0 same))))

  pub lookup_deleted_other : (old new : Scope V) (around : List (Scope V)) (name : List ℕ) → UpdatesBy string_eq (λ key. bytes_eq name (string_bytes key)) old new None
      → (other : List ℕ) → (other ≡ name → ⊥) → lookup (bindings new around) other ≡ lookup (bindings old around) other
  lookup_deleted_other old new around name updates other differ = ap (λ o. option_or o (found around other)) (bound_other old new name None updates other differ)

  -- and so does an assignment, done or refused
  pub lookup_assigned_other : {T E : Type 0} (r : Result T E) (old new : Scope V) (around : List (Scope V)) (name : String Global) (value : V)
      → OnOk r (Updates string_eq old new name (Some value)) → OnErr r (IsUnchanged old new)
      → (other : List ℕ) → (other ≡ string_bytes name → ⊥) → lookup (bindings new around) other ≡ lookup (bindings old around) other
  lookup_assigned_other (Ok done) old new around name value updates same other differ = ap (λ o. option_or o (found around other)) (bound_other old new (string_bytes name) (Some value) updates other differ)
  lookup_assigned_other (Err refused) old new around name value updates same other differ = ap (λ es. option_or (first (λ key. bytes_eq other (string_bytes key)) es) (found around other)) same
