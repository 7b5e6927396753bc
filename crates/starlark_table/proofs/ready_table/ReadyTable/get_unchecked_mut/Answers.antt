use Rattle.starlark_hash.proofs.Common.{IsSome, sym, subst}
use Rattle.starlark_table.specs.Table.{member_at}
use Rattle.starlark_table.specs.Layout.{at}
use Rattle.starlark_table.proofs.FilledSlots.{filled-by_some}
use Rattle.starlark_table.proofs.Shape.{sound-written}
use Rattle.starlark_table.proofs.ready_table.ReadyTable.get_unchecked_mut.Goals as goal

pub get_mut-requires : goal.get_mut-requires
get_mut-requires g c =
    filled-by_some (at c.self.inside.slots c.args.slot) (subst (λ t. IsSome (member_at t c.args.slot)) (sym c.self.view_is) c.requires)

pub invariant_of-self-lent : goal.invariant_of-self-lent
invariant_of-self-lent g c = λ w.
    sound-written w c.self.inside.slots c.args.slot c.get_mut.result.now c.self.inside.tags c.self.inside.len c.self.inside.far c.get_mut.ensures.value c.self.invariant
