use Rattle.starlark_hash.proofs.Common.{◌≡◌, ◌∙◌, ap, arith, length, length-reverse}
use Rattle.starlark_small.specs.Hashes.{reversed}
use Rattle.starlark_small.proofs.Indexed.{IsIndexed-reversed, cleared-room, follows-refilled, is_some-map, room-reversed}
use Rattle.starlark_small.proofs.small_map.sort.reverse_indexed.Goals as goal

pub returns-then-is_dense-clause-follows : goal.returns-then-is_dense-clause-follows
returns-then-is_dense-clause-follows g c =
    let es = c.args.entries.now.entries in
    let new = c.reverse-then-is_dense.new.self in
    let size : length new.entries ≡ length es = ap (λ l. length l.entries) c.reverse-then-is_dense.ensures ∙ length-reverse es in
    rw (c.reverse.ensures) (record {
      indexed = rw c.reverse-then-is_dense.ensures (IsIndexed-reversed es c.args.index.now c.requires);
      room = omega (arith, size, room-reversed (length es) (length new.entries) c.args.index.now size);
      kept = is_some-map reversed c.args.index.now;
    })

pub returns-clause-follows : goal.returns-clause-follows
returns-clause-follows g c =
    let size = ap (λ l. length l.entries) c.reverse-2.ensures in
    assumption (follows-refilled c.args.entries.now c.reverse-2.new.self c.args.index.now c.clear.new.self c.note_all.new.self (omega (arith, size, length-reverse c.args.entries.now.entries)) c.requires c.clear.ensures c.note_all.ensures)

pub note_all-requires : goal.note_all-requires
note_all-requires g c =
    let size = ap (λ l. length l.entries) c.reverse-2.ensures in
    cleared-room c.args.entries.now.entries _ c.args.index.now c.clear.new.self (omega (arith, size, length-reverse c.args.entries.now.entries)) c.requires c.clear.ensures
