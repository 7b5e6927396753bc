use Rattle.starlark_hash.proofs.Common.{ap, subst, sym, ◌∙◌, length, arith}
use Rattle.starlark_hash.specs.Sort.{key_lt}
use Rattle.starlark_hash.proofs.SortingLemmas.{length-sorted_by}
use Rattle.starlark_vec2.specs.Sort.{Moves}
use Rattle.starlark_small.proofs.Indexed.{IsIndexed-renamed, moves-index, renamed-is_some, renamed-room}
use Rattle.starlark_small.proofs.small_map.sort.sort_and_rename.Goals as goal

pub rename-requires : goal.rename-requires
rename-requires g c =
    let es = c.args.entries.now.entries in
    let new = c.sort_keys_with_moves.new.self.entries in
    moves-index es c.as_slice.result.now new c.args.index.now (subst (λ l. Moves es l new) (sym c.as_slice.ensures.value) c.in-Ok.ensures.moves) c.requires

pub returns-clause-follows : goal.returns-clause-follows
returns-clause-follows g c =
    let es = c.args.entries.now.entries in
    let new = c.sort_keys_with_moves.new.self.entries in
    let size = ap (λ l. length l.entries) c.in-Ok.ensures.sorted ∙ length-sorted_by (key_lt g.K.Ord.cmp) es in
    record {
      indexed = IsIndexed-renamed es c.as_slice.result.now new c.args.index.now c.rename.new.self (subst (λ l. Moves es l new) (sym c.as_slice.ensures.value) c.in-Ok.ensures.moves) c.requires c.rename.ensures;
      room = omega (arith, size, renamed-room (length es) (length new) _ c.args.index.now c.rename.new.self size c.rename.ensures);
      kept = renamed-is_some _ c.args.index.now c.rename.new.self c.rename.ensures;
    }
