use Rattle.starlark_hash.proofs.Common.{arith, ◌++◌, refl, length-set, IsPermutation-refl}
use Rattle.starlark_table.specs.Table.{filled}
use Rattle.starlark_table.proofs.FullBits.{window_opens}
use Rattle.starlark_table.proofs.Load.{bag-member_moved, empty_slot-while_moving}
use Rattle.starlark_table.proofs.GroupDrain.{emptying-begins, emptying-finds, emptying-goes_on, emptying-ends}
use Rattle.starlark_table.proofs.growth.move_window.Goals as goal

pub members-init : goal.members-init
members-init g c = search (IsPermutation-refl, emptying-begins, window_opens)

pub take-hash-requires : goal.take-hash-requires
take-hash-requires g c = emptying-finds _ _ _ _ _ _ c.members.invariant.window c.members-test.true refl

pub put-requires-clause-free : goal.put-requires-clause-free
put-requires-clause-free g c =
    let k = c.members.invariant in
    empty_slot-while_moving (filled c.args.from.now ++ filled c.args.slots.now) c.members.from c.members.slots
    (rw k.sized c.requires.some) (rw k.sized c.requires.room) k.bag

pub members-preserved : goal.members-preserved
members-preserved g c = grind (arith, length-set, bag-member_moved, emptying-goes_on)

pub returns-clause-emptied : goal.returns-clause-emptied
returns-clause-emptied g c = search (emptying-ends)
