use Rattle.starlark_hash.proofs.Common.{length-set, ◌≡◌, None, ◌∷◌, get_or, ap, subst, ◌∙◌, arith, IsPermutation, IsSome, common_steps, sym}
use Rattle.std.proofs.lemmas.Grind.{get_or_default_zero}
use Rattle.starlark_table.specs.Table.{members, member_at}
use Rattle.starlark_small.proofs.Numbered.{named-there}
use Rattle.starlark_small.proofs.Slots.{sited-without}
use Rattle.starlark_small.proofs.index.hash_table.slots.take_index.Goals as goal

pub remove_followed-requires-clause-full : goal.remove_followed-requires-clause-full
remove_followed-requires-clause-full c =
    let cells = c.args.cells.now.0.items in
    let slot : c.index.result.now ≡ get_or cells c.args.index 0 = c.index.ensures ∙ get_or_default_zero cells c.args.index c.index.result.now c.requires.within in
    subst (λ s. IsSome (member_at c.args.table.now s)) (sym slot) c.requires.stands

pub remove_followed-requires-clause-known : goal.remove_followed-requires-clause-known
remove_followed-requires-clause-known c =
    (sited-without c.args.cells.now.0.items c.args.table.now.slots c.index.result.now c.requires.sited, omega (arith, c.requires.few, length-set c.args.table.now.slots c.index.result.now None))

pub returns : goal.returns
returns c =
    let old = c.args.table.now in
    let cells = c.args.cells.now.0.items in
    let slot : c.index.result.now ≡ get_or cells c.args.index 0 = c.index.ensures ∙ get_or_default_zero cells c.args.index c.index.result.now c.requires.within in
    record {
      taken = λ h there.
          let at = ap (member_at old) slot ∙ named-there cells old h c.args.index c.requires.sited there in
          subst (λ m. IsPermutation (members old) (m ∷ members c.remove_followed.new.self)) (cc (c.remove_followed.ensures.found, at)) c.remove_followed.ensures.rest;
      slots = c.remove_followed.ensures.slots;
      room = c.remove_followed.ensures.room;
      cells = grind (arith, common_steps);
    }
