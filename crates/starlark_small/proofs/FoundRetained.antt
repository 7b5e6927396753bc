-- Look-ups in a list after a closure was called on each of its entries.
use Rattle.starlark_hash.proofs.Common.{common_steps, nat_tests, arith, ◌≡◌, ℕ, suc, Bool, true, false, cond, List, [], ◌∷◌, get_or, map, position, option_map, Option, Some, None, refl, sym, ap, subst, ◌∙◌, AllZip, IsEquivalence}
use Rattle.starlark_hash.specs.declared.hash_value.StarlarkHashValue.{StarlarkHashValue}
use Rattle.starlark_hash.specs.Entries.{Entry, IsSingle, entry_hash, entry_key, stands_under, value_at}
use Rattle.starlark_hash.specs.Lookup.{found}
use Rattle.starlark_hash.specs.Retain.{Retains}
use Rattle.starlark_hash.proofs.PositionLemmas.{position-cons}
use Rattle.starlark_small.specs.Retain.{with_each_value}
use Rattle.starlark_small.proofs.CallerLookup.{none_among, none_found}

-- each entry is still there under its key, and is related to what it became
abbrev pub EachBecame : {K V : Type 0} → (Entry K V → Entry K V → Type 0) → List (Entry K V) → List (Entry K V) → Type 0
EachBecame R es kept = AllZip (λ e d. (d.0 ≡ e.0) × R e d) es kept

module _ {F K V : Type 0} (calls : F → Entry K V → Bool → Entry K V → F → Type 0) where
  -- each call in a state of this kind keeps its entry under its key, relates it to what it leaves, and leaves such a state
  pub each-became : (R : Entry K V → Entry K V → Type 0) (good : F → Type 0)
      → ((f : F) (e : Entry K V) (keeps : Bool) (d : Entry K V) (left : F) → good f → calls f e keeps d left → (keeps ≡ true) × (d.0 ≡ e.0) × R e d × good left)
      → (f : F) → good f → (es kept : List (Entry K V)) → Retains calls f es kept → EachBecame R es kept
  each-became R good says f is [] kept none = subst (EachBecame R []) (sym none) tt
  each-became R good says f is (e ∷ es) kept (keeps, d, left, rest, called, others, same) =
      let s = says f e keeps d left is called in
      subst (EachBecame R (e ∷ es)) (sym (same ∙ ap (λ b. cond b (d ∷ rest) rest) s.0))
      ((s.1, s.2), each-became R good says left s.3 es rest others)

  -- each call keeps its entry with the value that the function makes of it, and leaves the closure as it was
  pub each-written : (value : Entry K V → V) (f : F) → ((e : Entry K V) (keeps : Bool) (d : Entry K V) (left : F) → calls f e keeps d left → (keeps ≡ true) × (d ≡ (e.0, value e)) × (left ≡ f))
      → (f' : F) → f' ≡ f → (es kept : List (Entry K V)) → Retains calls f' es kept → kept ≡ with_each_value value es
  unfolding with_each_value
  each-written value f says f' same [] kept none = none
  each-written value f says f' same (e ∷ es) kept (keeps, d, left, rest, called, others, is) =
      let s = says e keeps d left (subst (λ h. calls h e keeps d left) same called) in
      is ∙ ap (λ b. cond b (d ∷ rest) rest) s.0 ∙ ap (λ x. x ∷ rest) s.1 ∙ ap (λ l. (e.0, value e) ∷ l) (each-written value f says left s.2 es rest others)

module _ {K V : Type 0} (R : Entry K V → Entry K V → Type 0) where
  pub keys-became : (es kept : List (Entry K V)) → EachBecame R es kept → map entry_key kept ≡ map entry_key es
  keys-became [] [] z = refl
  keys-became [] (d ∷ kept) z = absurd z
  keys-became (e ∷ es) [] z = absurd z
  keys-became (e ∷ es) (d ∷ kept) z = ap (λ h. h.key ∷ map entry_key kept) z.0.0 ∙ ap (λ l. entry_key e ∷ l) (keys-became es kept z.1)

module _ {K V : Type 0} (test : K → Bool) (hash : StarlarkHashValue) where
  -- the value of the first entry under this hash whose key passes
  abbrev first_value : List (Entry K V) → Option V
  first_value [] = None
  first_value (e ∷ es) = cond (stands_under hash test e) (Some e.1) (first_value es)

  later : (e : Entry K V) (es : List (Entry K V)) (index : Option ℕ) → value_at (e ∷ es) (option_map suc index) ≡ value_at es index
  later e es None = refl
  later e es (Some i) = refl

  found-first : (es : List (Entry K V)) → found test hash es ≡ first_value es
  unfolding found
  found-first [] = refl
  found-first (e ∷ es) =
      let rest = position (stands_under hash test) es in
      ap (value_at (e ∷ es)) (position-cons (stands_under hash test) e es)
      ∙ elim (stands_under hash test e) as (λ b. value_at (e ∷ es) (cond b (Some 0) (option_map suc rest)) ≡ cond b (Some e.1) (first_value es)) [
        | true ↦ refl
        | false ↦ later e es rest ∙ found-first es
      ]

  -- two look-ups find nothing, or values that are so related
  module _ (R : Entry K V → Entry K V → Type 0) (S : Option V → Option V → Type 0) (none : S None None) (some : (e d : Entry K V) → R e d → S (Some e.1) (Some d.1)) where
    either : (e d : Entry K V) (v w : Option V) (b : Bool) → R e d → S v w → S (cond b (Some e.1) v) (cond b (Some d.1) w)
    either e d v w true r s = some e d r
    either e d v w false r s = s

    first-became : (es kept : List (Entry K V)) → EachBecame R es kept → S (first_value es) (first_value kept)
    first-became [] [] z = none
    first-became [] (d ∷ kept) z = absurd z
    first-became (e ∷ es) [] z = absurd z
    first-became (e ∷ es) (d ∷ kept) z =
        subst (λ b. S (cond (stands_under hash test e) (Some e.1) (first_value es)) (cond b (Some d.1) (first_value kept))) (sym (ap (λ h. stands_under {V = V} hash test (h, d.1)) z.0.0))
        (either e d (first_value es) (first_value kept) (stands_under hash test e) z.0.1 (first-became es kept z.1))

    pub found-became : (es kept : List (Entry K V)) → EachBecame R es kept → S (found test hash es) (found test hash kept)
    found-became es kept z =
        subst (λ o. S o (found test hash kept)) (sym (found-first es)) (subst (S (first_value es)) (sym (found-first kept)) (first-became es kept z))

if-none : {V : Type 0} (b : Bool) (v : V) (o : Option V) → cond b (Some v) o ≡ None → (b ≡ false) × (o ≡ None)
if-none true v o is = cc
if-none false v o is = (refl, is)

if-some : {V : Type 0} (b : Bool) (v w : V) (o p : Option V) → (o ≡ Some w → p ≡ Some w) → cond b (Some v) o ≡ Some w → cond b (Some v) p ≡ Some w
if-some true v w o p then is = is
if-some false v w o p then is = then is

clash : {V X : Type 0} (o : Option V) (v : V) → o ≡ None → o ≡ Some v → X
clash None v none some = cc
clash (Some w) v none some = cc

-- Each call leaves its entry as it was.
module _ {F K V : Type 0} (calls : F → Entry K V → Bool → Entry K V → F → Type 0) (says : (f : F) (e : Entry K V) (keeps : Bool) (d : Entry K V) (left : F) → calls f e keeps d left → d ≡ e)
    (eq : K → K → Bool) (laws : IsEquivalence eq) (key : K) (hash : StarlarkHashValue) where
  abbrev first : List (Entry K V) → Option V
  first es = first_value (eq key) hash es

  first-lacks : (f : F) (es kept : List (Entry K V)) → Retains calls f es kept → first es ≡ None → first kept ≡ None
  first-lacks f [] kept none lacks = ap first none
  first-lacks f (e ∷ es) kept (true, d, left, rest, called, others, is) lacks =
      let c = if-none (stands_under hash (eq key) e) e.1 (first es) lacks in
      ap first is ∙ ap (λ b. cond b (Some d.1) (first rest)) (ap (stands_under hash (eq key)) (says f e true d left called) ∙ c.0) ∙ first-lacks left es rest others c.1
  first-lacks f (e ∷ es) kept (false, d, left, rest, called, others, is) lacks =
      ap first is ∙ first-lacks left es rest others (if-none (stands_under hash (eq key) e) e.1 (first es) lacks).1

  apart : (d e : Entry K V) → stands_under hash (eq key) d ≡ true → stands_under (entry_hash d) (eq (entry_key d)) e ≡ false → stands_under hash (eq key) e ≡ false
  apart d e here not = grind (arith, nat_tests, common_steps, laws.congr key (entry_key d) (entry_key e))

  -- if an entry passes, no other one does
  lacks-after : (e : Entry K V) (es : List (Entry K V)) → IsSingle eq (e ∷ es) → stands_under hash (eq key) e ≡ true → first es ≡ None
  lacks-after e es single here =
      sym (found-first (eq key) hash es) ∙ none_found (eq key) hash es
      (none_among (stands_under hash (eq key)) es (λ k d below. apart e (get_or es k d) here (single 0 (suc k) d (omega arith) (omega (arith, below)))))

  first-unwritten : (f : F) (es kept : List (Entry K V)) → Retains calls f es kept → IsSingle eq es → (v : V) → first kept ≡ Some v → first es ≡ Some v
  first-unwritten f [] kept none single v at = sym (ap first none) ∙ at
  first-unwritten f (e ∷ es) kept (true, d, left, rest, called, others, is) single v at =
      if-some (stands_under hash (eq key) e) e.1 v (first rest) (first es) (first-unwritten left es rest others (λ i j x before below. single (suc i) (suc j) x (omega arith) (omega arith)) v)
      (sym (ap first (is ∙ ap (λ x. x ∷ rest) (says f e true d left called))) ∙ at)
  first-unwritten f (e ∷ es) kept (false, d, left, rest, called, others, is) single v at =
      let there : first rest ≡ Some v = sym (ap first is) ∙ at in
      elim (stands_under hash (eq key) e) as (λ b. stands_under hash (eq key) e ≡ b → cond b (Some e.1) (first es) ≡ Some v) [
        | true ↦ λ here. clash (first rest) v (first-lacks left es rest others (lacks-after e es single here)) there
        | false ↦ λ not. first-unwritten left es rest others (λ i j x before below. single (suc i) (suc j) x (omega arith) (omega arith)) v there
      ] refl

  -- what is found was found with this value before
  pub found-unwritten : (f : F) (es kept : List (Entry K V)) → Retains calls f es kept → IsSingle eq es → (v : V) → found (eq key) hash kept ≡ Some v → found (eq key) hash es ≡ Some v
  found-unwritten f es kept retains single v at =
      found-first (eq key) hash es ∙ first-unwritten f es kept retains single v (sym (found-first (eq key) hash kept) ∙ at)
