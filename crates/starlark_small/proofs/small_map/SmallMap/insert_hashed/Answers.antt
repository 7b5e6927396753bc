use Rattle.starlark_hash.proofs.Common.{◌≡◌, ◌-◌, arith, length, sym}
use Rattle.starlark_small.specs.IndexCalls.{IsNotedIn}
use Rattle.starlark_small.specs.Index.{map_of}
use Rattle.starlark_small.proofs.CallerInsert.{is-appended}
use Rattle.starlark_small.proofs.Inserted.{LeavesMemory-inserted}
use Rattle.starlark_small.proofs.NotedAtOnce.{inserted_at_once, sound_at_once}
use Rattle.starlark_small.proofs.small_map.SmallMap.insert_hashed.Goals.{Then-note_new}
use Rattle.starlark_small.proofs.small_map.SmallMap.insert_hashed.Given.{Over}
use Rattle.starlark_small.proofs.small_map.SmallMap.insert_hashed.Goals as goal

noted_in : (g : Over) (c : Then-note_new g) → IsNotedIn c.args.key.hash (c.self.inside.entries.capacity - length c.self.inside.entries.entries) c.self.inside.index c.note_new.new.self
noted_in g c =
    let spare : c.capacity.result - c.len.result ≡ c.self.inside.entries.capacity - length c.self.inside.entries.entries = omega (arith, c.capacity.ensures.capacity, c.len.ensures.len) in
    rw (c.hash.ensures, spare) at (c.note_new.ensures.noted c.if-note_new.true)

pub invariant_of-self : goal.invariant_of-self
invariant_of-self g c =
    sound_at_once g.K.PartialEq.eq g.met.K.Eq.laws c.self.inside.entries c.push_reserved.new.self c.self.inside.index c.note_new.new.self c.args.key c.args.value c.self.invariant
    (noted_in g (goal.at.invariant_of-self g c).Then-note_new) c.push_reserved.ensures

pub returns-then-note_new : goal.returns-then-note_new
returns-then-note_new g c =
    let eq = g.K.PartialEq.eq in
    let old = c.args.self.now in
    let new = map_of c.push_reserved.new.self c.note_new.new.self in
    let at = inserted_at_once eq g.met.K.Eq.laws c.self.inside.entries c.push_reserved.new.self c.self.inside.index c.note_new.new.self c.args.key c.args.value c.self.invariant
    (noted_in g (goal.at.returns-then-note_new g c).Then-note_new) c.push_reserved.ensures old c.self.view_is in
    let done = is-appended eq g.met.K.Eq.laws old new c.args.key c.args.value at.0 at.1.entries in
    record {
      old = sym at.0;
      updates = done.updates;
      inserts = done.inserts;
      own = done.own;
      refused = tt;
      handed_back = tt;
      memory = LeavesMemory-inserted eq old c.args.key c.args.value new at.0 at.1;
    }
