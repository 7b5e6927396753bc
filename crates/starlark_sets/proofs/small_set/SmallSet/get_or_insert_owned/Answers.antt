use Rattle.starlark_hash.proofs.Common.{ℕ, Ok, Result, arith, refl, rules, common_steps}
use Rattle.std.specs.declared.alloc.AllocError.{AllocError}
use Rattle.starlark_hash.specs.Hasher.{own_hash}
use Rattle.starlark_sets.specs.Insert.{AddsAt, IsShown}
use Rattle.starlark_sets.proofs.Put.{puts-for}
use Rattle.starlark_sets.proofs.small_set.SmallSet.get_or_insert_owned.Goals as goal

pub returns-in_err-index : goal.returns-in_err-index
returns-in_err-index g c =
    let query = c.args.value in let index : Result ℕ AllocError = c.index_or_insert_owned.result in let new = c.index_or_insert_owned.new.self in
    let shown : IsShown new.entries index c.from_residual.result = first_of (search rules, grind (arith, common_steps)) in (
      (refl, (λ _. tt), puts-for g.T.PartialEq.eq g.met.T.Eq.laws g.Q.Query.stands_for g.Q.Hash.hash_input query (g.met.Q.Query.respects_eq query) c.args.self.now new index c.from_residual.result c.index_or_insert_owned.ensures.set shown),
      record { set = tt; succeeds = first_of (search rules, grind (arith, common_steps)) },
    )

pub returns : goal.returns
returns g c =
    let equivalent = g.Q.Query.stands_for in let feeds = g.Q.Hash.hash_input in let query = c.args.value in let old = c.args.self.now in let new = c.self.inside.map in
    let put : AddsAt {E = AllocError} equivalent (own_hash feeds query) old new query (Ok c.in_ok-index.index) = rw c.self.view_is c.in_ok-index.ensures.set in (
      (refl, (λ _. tt), puts-for g.T.PartialEq.eq g.met.T.Eq.laws equivalent feeds query (g.met.Q.Query.respects_eq query) old new (Ok c.in_ok-index.index) (Ok c.element_in.result) put c.element_in.ensures),
      record { set = tt; succeeds = λ _ _. refl },
    )
