use Rattle.starlark_hash.proofs.Common.{◌≡◌, Bool, List, [], ◌∷◌, ◌∙◌, refl, sym, ap, subst, rules, of_calls, map-id, CalledAt, filter, if◌then◌else◌}
use Rattle.starlark_hash.specs.Entries.{entry_hash, entry_key}
use Rattle.starlark_hash.specs.Retain.{Retains, TakesInTurn}
use Rattle.starlark_sets.specs.Retain.{CalledAtElement, TakesElement}
use Rattle.starlark_vecmap.proofs.MappedRetention.{takes_carried, retains_carried}
use Rattle.starlark_sets.proofs.small_set.SmallSet.retain.Goals as goal

-- a list is filtered by calls that answer by a test of the item and leave it, if they keep the state of the closure within what
-- is assumed
filtered_by : {F X : Type 0} (calls : F → X → Bool → X → F → Type 0) (test : X → Bool) (kept_state : F → Type 0)
    → ((f : F) (x : X) (keeps : Bool) (y : X) (left : F) → kept_state f → calls f x keeps y left → (keeps ≡ test x) × (y ≡ x) × kept_state left)
    → (f : F) → kept_state f → (xs kept : List X) → Retains calls f xs kept → kept ≡ filter test xs
filtered_by calls test kept_state says f so [] kept none = none
filtered_by calls test kept_state says f so (x ∷ xs) kept (keeps, y, f', rest, called, others, is) =
    let s = says f x keeps y f' so called in
    is ∙ (λ i. if s.0 i then s.1 i ∷ rest else rest) ∙ ap (λ l. if test x then x ∷ l else l) (filtered_by calls test kept_state says f' s.2 xs rest others)

pub retain-requires : goal.retain-requires
retain-requires g c =
    takes_carried _ (CalledAtElement g.F.FnMut) (λ s. s.0.now) (λ e. e) (record { at = λ f x b y f' t. (subst (λ k. CalledAt g.F.FnMut f.0.now k b f'.0.now) t.shows.0 (search (rules, of_calls, t.called)), t.leaves) }) _ (TakesElement g.F.FnMut)
    (λ f x t key value p q y r. t y (r ∙ p))
    _ _ (rw map-id (subst (λ m. TakesInTurn (CalledAtElement g.F.FnMut) (TakesElement g.F.FnMut) c.args.keep m.entries) (sym c.self.view_is) c.requires))

pub returns-clause-entries : goal.returns-clause-entries
returns-clause-entries g c =
    subst (λ m. Retains (CalledAtElement g.F.FnMut) c.args.keep m.entries c.retain.new.self.entries) c.self.view_is
    (simp map-id at (retains_carried _ (CalledAtElement g.F.FnMut) (λ s. s.0.now) (λ e. e) (record { at = λ f x b y f' t. (subst (λ k. CalledAt g.F.FnMut f.0.now k b f'.0.now) t.shows.0 (search (rules, of_calls, t.called)), t.leaves) }) _ _ _ c.retain.ensures.entries))

pub returns-clause-filtered : goal.returns-clause-filtered
returns-clause-filtered g c test says =
    filtered_by (CalledAtElement g.F.FnMut) (λ e. test (entry_key e)) (λ _. Unit {0}) (λ f e keeps d left _ t. (says f (entry_key e) keeps left t.0, t.1, tt))
    c.args.keep tt c.args.self.now.entries c.retain.new.self.entries (returns-clause-entries g c)

pub returns-clause-tested : goal.returns-clause-tested
returns-clause-tested g c test says =
    filtered_by (CalledAtElement g.F.FnMut) test (λ f. f ≡ c.args.keep)
    (λ f e keeps d left same t. let s = says (entry_key e) keeps left (rw same at t.0) in (s.0 (entry_hash e), t.1, s.1))
    c.args.keep refl c.args.self.now.entries c.retain.new.self.entries (returns-clause-entries g c)
