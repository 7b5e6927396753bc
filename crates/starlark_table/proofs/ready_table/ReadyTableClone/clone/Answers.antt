use Rattle.starlark_hash.proofs.Common.{◌≡◌, ◌-◌, length, arith, ◌∙◌, ap}
use Rattle.starlark_table.specs.Growth.{limit}
use Rattle.std.proofs.lemmas.List.{nil_from_length}
use Rattle.starlark_table.proofs.Shape.{shape-cloned, same_length, sound-cloned}
use Rattle.starlark_table.proofs.TagCount.{refilled}
use Rattle.starlark_table.proofs.ready_table.ReadyTableClone.clone.Goals as goal

pub returns-then-count-eq0 : goal.returns-then-count-eq0
returns-then-count-eq0 g c =
    let none : length c.self.inside.slots ≡ 0 = omega (arith, c.if-count-eq0.true, c.cells-count.ensures.cells) in
    let no_room : 0 ≡ limit (length c.self.inside.slots) - c.self.inside.len = omega (arith, none) in
    record {
      cases = rw (← c.self.view_is) (record {
        slots = rw (c.without_slots.ensures.slots, nil_from_length c.self.inside.slots none) tt;
        room = c.without_slots.ensures.room ∙ no_room;
      });
    }

pub invariant_of-result : goal.invariant_of-result
invariant_of-result g c =
    rw (refilled c.in_ok-slots.tags _ (c.clone_members-cloned.auto.copy_tags ∙ ap length c.as_mut_slice.ensures.value))
    (sound-cloned g.T.Clone.is_clone _ _ _ _ _ _ c.self.invariant c.in-Ok.ensures.cloned c.in-Ok.ensures.tagged)

pub returns-in-Ok : goal.returns-in-Ok
returns-in-Ok g c =
    let all = c.in-Ok.ensures.cloned in
    record {
      cases = rw (← c.self.view_is) (record {
        slots = all;
        room = rw (same_length _ _ (shape-cloned g.T.Clone.is_clone _ _ all));
      });
    }
