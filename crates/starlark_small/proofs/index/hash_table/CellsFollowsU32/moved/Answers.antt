use Rattle.starlark_hash.proofs.Common.{length-set, Some, None, arith, set}
use Rattle.starlark_small.proofs.Slots.{sited-moved}
use Rattle.starlark_small.proofs.index.hash_table.CellsFollowsU32.moved.Goals as goal

pub index_mut-requires : goal.index_mut-requires
index_mut-requires c = let k = c.requires in omega (arith, k.4.0.within k.1 k.2 c.args.item.now k.3.there, c.args.self.now.0.ok.0)

pub returns-clause-known : goal.returns-clause-known
returns-clause-known c = λ slots from h can known. (
  sited-moved c.args.self.now.0.items slots from c.args.slot h c.args.item.now can known.0,
  omega (arith, length-set (set slots from None) c.args.slot (Some (h, c.args.item.now)), length-set slots from None, known.1),
)
