use Rattle.starlark_hash.proofs.Common.{◌≡◌, None, rules, sym, subst, length}
use Rattle.std.proofs.iter.Next as it
use Rattle.starlark_hash.specs.Entries.{match_of}
use Rattle.starlark_small.proofs.CallerLookup.{position_of-found}
use Rattle.starlark_small.proofs.Inserting.{yields_more, filled_none, filled_more, filled_still, long_is_indexed}
use Rattle.starlark_small.proofs.small_map.SmallMap.insert_entries.Goals as goal

pub loop-entry-init : goal.loop-entry-init
loop-entry-init g c =
    it.begun c.requires.can c.requires.finite
    (filled_none c.args.self.now (long_is_indexed c.index.result c.args.self.now.indexed (length c.args.self.now.entries) c.index.ensures.indexed c.index.ensures.long))

pub loop-entry-preserved-in-Ok : goal.loop-entry-preserved-in-Ok
loop-entry-preserved-in-Ok g c =
    let inv = c.loop-entry.invariant in
    it.again inv c.in-Some.entry c.in-Some.is (c.next.ensures.steps, c.next.ensures.goes)
    (filled_more c.insert_hashed.new.self inv.holds inv.counted (it.on c.in-Some.entry c.in-Some.is c.next.ensures.goes inv.ending).2
    c.in-Some.entry c.insert_hashed.ensures.memory c.in-Ok.ensures.inserts.entries)

pub loop-entry-preserved : goal.loop-entry-preserved
loop-entry-preserved g c =
    let inv = c.loop-entry.invariant in
    it.again inv c.in-Some.entry c.in-Some.is (c.next.ensures.steps, c.next.ensures.goes)
    (filled_more c.insert_hashed.new.self inv.holds inv.counted (it.on c.in-Some.entry c.in-Some.is c.next.ensures.goes inv.ending).2
    c.in-Some.entry c.insert_hashed.ensures.memory c.in-Ok.ensures.inserts.entries)

pub returns-in-Err : goal.returns-in-Err
returns-in-Err g c =
    let inv = c.loop-entry.invariant in
    let same = c.in-Err.ensures.refused.entries in
    let still = filled_still c.insert_hashed.new.self inv.holds inv.counted (it.on c.in-Some.entry c.in-Some.is c.next.ensures.goes inv.ending).2
    c.in-Some.entry c.insert_hashed.ensures.memory same c.in-Err.ensures.refused.full in
    record {
      entries = record {
        items = inv.seen;
        entries = still.entries;
        ended = record {
          next = c.in-Some.entry;
          rest = c.next.new.self;
          gave = yields_more g.I.Iterator.next_gives c.args.items c.loop-entry.items c.next.new.self inv.seen c.in-Some.entry inv.gave (it.said g.I.Iterator.next_gives c.in-Some.is c.next.ensures.steps);
          absent = subst (λ l. match_of g.K.PartialEq.eq l c.in-Some.entry.0 ≡ None) (sym same) (position_of-found _ _ _ c.in-Err.ensures.refused.lacking);
        };
      };
      memory = search (rules, still);
    }
