use Rattle.starlark_hash.proofs.Common.{◌≡◌, sym, ap, subst, ◌∙◌, rules, of_calls, ℕ, Bool, Bor, MutBor, Mut}
use Rattle.starlark_hash.specs.Retain.{Retains, TakesInTurn, TakesEntry, CalledAtEntry}
use Rattle.starlark_vecmap.specs.EntryList.{entry_of}
use Rattle.starlark_vecmap.proofs.MappedRetention.{takes_carried, retains_carried}
use Rattle.starlark_vecmap.proofs.vec_map.VecMap.retain.Goals as goal

module _ {F K V : Type 0} (g : Mut F (Bor K × (MutBor V × Unit {0})) (Bool × (MutBor V × Unit {0}))) where
  shown : (f : F) (pair : K × V) (hash : ℕ) (x : (K × V) × ℕ) (b : Bool) (left : K × V) (kept : ℕ) (y : (K × V) × ℕ) (f' : F) → (pair ≡ x.0) × (hash ≡ x.1) → (left ≡ y.0) × (kept ≡ y.1)
      → CalledAtEntry g f (entry_of (pair, hash)) b (entry_of (left, kept)) f' → CalledAtEntry g f (entry_of x) b (entry_of y) f'
  shown f pair hash x b left kept y f' p q t = subst (λ s. s) (λ j. CalledAtEntry g f (entry_of (p.0 j, p.1 j)) b (entry_of (q.0 j, q.1 j)) f') t

pub retain-requires : goal.retain-requires
retain-requires g c =
    takes_carried _ (CalledAtEntry g.F.FnMut) (λ s. s.0.now) entry_of (record { at = λ f x b y f' t. shown g.F.FnMut _ _ _ _ _ _ _ _ _ t.shows t.leaves (search (rules, of_calls, t.called)) }) _ (TakesEntry g.F.FnMut)
    (λ f x t first second p q key value r s. t key value (r ∙ ap (λ z. z.0) p) (s ∙ ap (λ z. z.1) p))
    _ _ (subst (λ m. TakesInTurn (CalledAtEntry g.F.FnMut) (TakesEntry g.F.FnMut) c.args.keep m.entries) (sym c.self.view_is) c.requires)

pub returns-clause-entries : goal.returns-clause-entries
returns-clause-entries g c =
    subst (λ m. Retains (CalledAtEntry g.F.FnMut) c.args.keep m.entries (Rattle.std.proofs.Common.map entry_of c.retain.new.self.pairs)) c.self.view_is
    (retains_carried _ (CalledAtEntry g.F.FnMut) (λ s. s.0.now) entry_of (record { at = λ f x b y f' t. shown g.F.FnMut _ _ _ _ _ _ _ _ _ t.shows t.leaves (search (rules, of_calls, t.called)) }) _ _ _ c.retain.ensures.pairs)
