use Rattle.starlark_hash.proofs.Common.{ap, length, arith, rules}
use Rattle.starlark_hash.proofs.EntryLemmas.{IsSingle-remove}
use Rattle.starlark_small.proofs.Indexed.{IsIndexed-forgotten, index-within}
use Rattle.starlark_small.proofs.Rooms.{KeepsMemory-removed}
use Rattle.starlark_small.proofs.CallerOwn.{own-removed}
use Rattle.starlark_small.proofs.CallerRemove.{takes-out}
use Rattle.starlark_small.proofs.small_map.SmallMap.take_at.Goals as goal

pub invariant_of-self : goal.invariant_of-self
invariant_of-self g c =
    let list = c.self.inside.entries in
    rw (c.remove.ensures.list, c.forget.ensures)
    (record { single = IsSingle-remove g.K.PartialEq.eq list.entries c.args.index (omega (arith, c.requires, ap (λ m. length m.entries) c.self.view_is)) c.self.invariant.single; indexed = IsIndexed-forgotten list.entries c.args.index c.self.inside.index (omega (arith, c.requires, ap (λ m. length m.entries) c.self.view_is)) c.self.invariant.indexed })

pub returns-clause-takes : goal.returns-clause-takes
returns-clause-takes g c = rw (← c.self.view_is) (takes-out g.K.PartialEq.eq g.met.K.Eq.laws _ _ c.args.index c.remove.result c.self.invariant.single (search rules) (ap (λ l. l.entries) c.remove.ensures.list))

pub returns-clause-removes : goal.returns-clause-removes
returns-clause-removes g c = record {
  entries = search rules;
  own = λ feeds. own-removed feeds c.args.self.now.entries _ c.args.index (search rules);
  kept =
      rw (← c.self.view_is)
      (KeepsMemory-removed c.self.inside.entries c.remove.new.self c.args.index c.self.inside.index c.forget.new.self (ap (λ l. l.entries) c.remove.ensures.list) (ap (λ l. l.capacity) c.remove.ensures.list) (omega (arith, c.requires, ap (λ m. length m.entries) c.self.view_is))
      (search rules) c.self.invariant.indexed c.forget.ensures);
}

pub forget-requires : goal.forget-requires
forget-requires g c = index-within c.self.inside.entries.entries c.args.index c.self.inside.index (omega (arith, c.requires, ap (λ m. length m.entries) c.self.view_is)) c.self.invariant.indexed
