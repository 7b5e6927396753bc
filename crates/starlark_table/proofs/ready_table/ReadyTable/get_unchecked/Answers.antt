use Rattle.starlark_hash.proofs.Common.{IsSome, sym, subst}
use Rattle.starlark_table.specs.Table.{member_at}
use Rattle.starlark_table.specs.Layout.{at}
use Rattle.starlark_table.proofs.FilledSlots.{filled-by_some}
use Rattle.starlark_table.proofs.ready_table.ReadyTable.get_unchecked.Goals as goal

pub get-requires : goal.get-requires
get-requires g c =
    filled-by_some (at c.self.inside.slots c.args.slot) (subst (λ t. IsSome (member_at t c.args.slot)) (sym c.self.view_is) c.requires)
