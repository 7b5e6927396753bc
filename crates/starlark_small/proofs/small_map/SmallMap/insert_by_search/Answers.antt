use Rattle.starlark_hash.proofs.Common.{length, rules}
use Rattle.starlark_hash.specs.HashValue.{hash_of, key_of}
use Rattle.starlark_small.proofs.CallerInsert.{is-done}
use Rattle.starlark_small.proofs.CallerLookup.{found_is}
use Rattle.starlark_small.proofs.Inserted.{LeavesMemory-written}
use Rattle.starlark_small.proofs.Inserting.{long_is_indexed}
use Rattle.starlark_small.proofs.small_map.SmallMap.insert_by_search.Goals as goal

pub returns-in-Some : goal.returns-in-Some
returns-in-Some g c =
    let eq = g.K.PartialEq.eq in
    let old = c.args.self.now in
    let short = long_is_indexed c.index.result old.indexed (length old.entries) c.index.ensures.indexed c.index.ensures.long in
    let done = is-done eq g.met.K.Eq.laws old _ c.args.key c.args.value (search rules) in
    record {
      old = found_is (eq (key_of c.args.key)) (hash_of c.args.key) old.entries _ (search rules);
      updates = done.updates;
      inserts = done.inserts;
      own = done.own;
      refused = tt;
      handed_back = tt;
      memory = LeavesMemory-written eq old c.args.key short c.in-Some.i c.replace.new.dest;
    }
