-- Lists of entries after `retain`.
use Rattle.starlark_hash.proofs.Common.{common_steps, ◌≡◌, suc, ◌≤◌, Bool, true, false, ◌&&◌, List, [], ◌∷◌, length, sym, ap, ◌∙◌, subst, arith, nat_eq, filter, if◌then◌else◌, All, Bor, MutBor, Mut, All-cons, All-head, All-tail}
use Rattle.std.proofs.lemmas.List.Kept.{AllPairs-cons}
use Rattle.starlark_hash.specs.declared.hashed.Hashed.{Hashed}
use Rattle.starlark_hash.specs.Entries.{Entry, IsSingle, stands_under}
use Rattle.starlark_hash.specs.Retain.{Retains, CalledAtEntry}

module _ {F K V : Type 0} (g : Mut F (Bor K × (MutBor V × Unit {0})) (Bool × (MutBor V × Unit {0}))) where
  pub length-retained : (f : F) (es kept : List (Entry K V)) → Retains (CalledAtEntry g) f es kept → length kept ≤ length es
  length-retained f [] kept none = omega (arith, ap length none)
  length-retained f (e ∷ es) kept (keeps, d, f', rest, called, others, is) = grind (arith, common_steps, length-retained f' es rest others)

  -- what holds of all keys under their hashes holds of those that are kept
  pub all_retained : (P : Hashed K → Type 0) (f : F) (es kept : List (Entry K V)) → Retains (CalledAtEntry g) f es kept → All (λ e. P e.0) es → All (λ e. P e.0) kept
  all_retained P f [] kept none all = subst (λ l. All (λ e. P e.0) l) (sym none) all
  all_retained P f (e ∷ es) kept (true, d, f', rest, called, others, is) all =
      let here : P d.0 = subst P (sym (ap (λ x. x.0) called.leaves)) (All-head (λ x. P x.0) e es all) in
      rw is (All-cons (λ x. P x.0) d rest here (all_retained P f' es rest others (All-tail (λ x. P x.0) e es all)))
  all_retained P f (e ∷ es) kept (false, d, f', rest, called, others, is) all = rw is (all_retained P f' es rest others (All-tail (λ x. P x.0) e es all))

  -- a list without equal entries has none afterwards
  pub IsSingle-retained : (eq : K → K → Bool) (f : F) (es kept : List (Entry K V)) → Retains (CalledAtEntry g) f es kept → IsSingle eq es → IsSingle eq kept
  IsSingle-retained eq f [] kept none single = subst (λ l. IsSingle eq l) (sym none) single
  IsSingle-retained eq f (e ∷ es) kept (true, d, f', rest, called, others, is) single =
      let apart : All (λ x. nat_eq x.0.hash.0 e.0.hash.0 && eq e.0.key x.0.key ≡ false) rest =
      all_retained (λ k. nat_eq k.hash.0 e.0.hash.0 && eq e.0.key k.key ≡ false) f' es rest others (λ i x below. single 0 (suc i) x (omega arith) (omega arith)) in
      rw is (AllPairs-cons (λ x y. stands_under x.0.hash (eq x.0.key) y ≡ false) d rest (rw (ap (λ x. x.0) called.leaves) apart)
      (IsSingle-retained eq f' es rest others (λ i j x before below. single (suc i) (suc j) x (omega arith) (omega arith))))
  IsSingle-retained eq f (e ∷ es) kept (false, d, f', rest, called, others, is) single =
      rw is (IsSingle-retained eq f' es rest others (λ i j x before below. single (suc i) (suc j) x (omega arith) (omega arith)))

  -- a closure that tests the entry and leaves the value filters the list
  pub filtered : (test : Entry K V → Bool) → ((f : F) (e : Entry K V) (keeps : Bool) (d : Entry K V) (left : F) → CalledAtEntry g f e keeps d left → (keeps ≡ test e) × (d ≡ e))
      → (f : F) (es kept : List (Entry K V)) → Retains (CalledAtEntry g) f es kept → kept ≡ filter test es
  filtered test says f [] kept none = none
  filtered test says f (e ∷ es) kept (keeps, d, f', rest, called, others, is) =
      let s = says f e keeps d f' called in
      is ∙ (λ i. if s.0 i then s.1 i ∷ rest else rest) ∙ ap (λ l. if test e then e ∷ l else l) (filtered test says f' es rest others)

  -- a closure that does so in its first state, which no call changes, filters the list
  pub tested : (test : Entry K V → Bool) (f : F) → ((e : Entry K V) (keeps : Bool) (d : Entry K V) (left : F) → CalledAtEntry g f e keeps d left → (keeps ≡ test e) × (d ≡ e) × (left ≡ f))
      → (f' : F) → f' ≡ f → (es kept : List (Entry K V)) → Retains (CalledAtEntry g) f' es kept → kept ≡ filter test es
  tested test f says f' same [] kept none = none
  tested test f says f' same (e ∷ es) kept (keeps, d, left, rest, called, others, is) =
      let s = says e keeps d left (subst (λ h. CalledAtEntry g h e keeps d left) same called) in
      is ∙ (λ i. if s.0 i then s.1 i ∷ rest else rest) ∙ ap (λ l. if test e then e ∷ l else l) (tested test f says left s.2 es rest others)
