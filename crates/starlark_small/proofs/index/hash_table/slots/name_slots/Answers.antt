use Rattle.starlark_hash.proofs.Common.{length-set, ◌<◌, length, refl, sym, subst, ◌∙◌, arith, All}
use Rattle.starlark_table.specs.Table.{members}
use Rattle.starlark_small.proofs.Slots.{member-read, named-next, sited-named}
use Rattle.starlark_small.proofs.index.hash_table.slots.name_slots.Goals as goal

pub slots-init : goal.slots-init
slots-init c = record { named = record { before = λ s h x below is. absurd (omega arith) }; even = refl; spare = refl }

pub index_mut-requires : goal.index_mut-requires
index_mut-requires c =
    let it = member-read (length c.args.cells.now.items) c.args.table.now c.in-Some.slot c.get_unchecked-index.result.now _ refl c.requires.below (sym c.get_unchecked-index.ensures) in
    omega (arith, it.2, c.slots.invariant.even, c.slots.cells.ok.0)

pub slots-preserved : goal.slots-preserved
slots-preserved c =
    let k = c.slots.invariant in
    let it = member-read (length c.args.cells.now.items) c.args.table.now c.in-Some.slot c.get_unchecked-index.result.now _ refl c.requires.below (sym c.get_unchecked-index.ensures) in
    assumption (
      named-next c.slots.from c.in-Some.slot c.slots.cells.items c.args.table.now.slots c.in-Some.ensures.passed k.named it.0 c.get_unchecked-index.result.now c.requires.once (omega (arith, it.2, k.even)) it.1,
      length-set c.slots.cells.items c.get_unchecked-index.result.now c.in-Some.slot ∙ k.even,
    )

pub returns : goal.returns
returns c =
    let below = subst (λ n. All (λ m. m.1 < n) (members c.args.table.now)) (sym c.slots.invariant.even) c.requires.below in
    assumption (sited-named c.slots.from c.slots.cells.items c.args.table.now c.in_default.ensures.none below c.slots.invariant.named)
