use Rattle.starlark_hash.proofs.Common.{◌∙◌, ap, ◌<◌, length, arith, refl, inl, inr}
use Rattle.starlark_table.specs.Layout.{tag}
use Rattle.starlark_table.proofs.TagCount.{long_tags}
use Rattle.std.proofs.lemmas.Fn.{called_at}
use Rattle.starlark_table.proofs.SearchState.{Looking, left_to_look, same-by_test, other-by_test, looking_begins, looking_within, looking_ends, looking_near, looking_goes_on, looking_full, looking_asks, looking_accepts, looking_nearer, looking_refuses, looking_skips}
use Rattle.starlark_table.proofs.probe.find_slot.Given.{Over}
use Rattle.starlark_table.proofs.probe.find_slot.Goals as goal
use Rattle.starlark_table.proofs.probe.find_slot.Goals.{After-slots_with-same, After-slots_up_to_empty-same, then-same-ne0+else-is, else-same-ne0+else-ends_at_home, else-is-via-then-is+else-eq, else-is-via-else-is, else-is-2-via-then-is-2+else-eq-2, else-is-2-via-else-is-2}

-- the search begins at the group of the home
begins : (g : Over) (c : After-slots_with-same g) → Looking g.F.FnMut c.args.hash c.args.tags.now c.args.slots.now c.args.eq c.home-start.result c.home-start.result c.slots_with-same.result c.args.eq
begins g c =
    let some : 0 < length c.args.slots.now = omega (arith, c.requires.free.1) in
    search (looking_begins g.F.FnMut, some)

-- the search goes on to the next group when this one has no bit left
goes_on : (g : Over) (c : After-slots_up_to_empty-same g)
    → Looking g.F.FnMut c.args.hash c.args.tags.now c.args.slots.now c.args.eq c.window_after-start.result c.window_after-start.result c.slots_up_to_empty-same.result c.windows.eq
    × (left_to_look c.args.hash c.args.slots.now c.window_after-start.result c.window_after-start.result < left_to_look c.args.hash c.args.slots.now c.windows.start c.windows.slot)
goes_on g c =
    looking_goes_on g.F.FnMut _ _ _ _ c.requires.tagged _ _ _ _ c.windows.invariant c.if-same-eq0.true _ c.slots_with.ensures _ _ _ _ c.requires.free c.requires.mask
    (c.tag-sought.ensures ∙ ap tag c.number-number.ensures) c.if-slots_with-ne0.false c.window_after-start.ensures.on c.window_after-start.ensures.round c.slots_up_to_empty-same.ensures

pub get-requires : goal.get-requires
get-requires g c = search (looking_full g.F.FnMut, begins g (goal.at.get-requires g c).After-slots_with-same)

pub eq-requires : goal.eq-requires
eq-requires g c =
    looking_asks g.F.FnMut _ _ _ _ c.requires.tagged _ _ _ _ (begins g (goal.at.eq-requires g c).After-slots_with-same)
    c.if-same-ne0.true _ _ c.get.ensures (same-by_test _ _ c.is.ensures c.if-is.true) c.requires.callable _ refl

pub returns-then-eq-clause-found : goal.returns-then-eq-clause-found
returns-then-eq-clause-found g c = (
  c.eq.new.self,
  search (
    looking_accepts g.F.FnMut,
    begins g (goal.at.returns-then-eq-clause-found g c).After-slots_with-same,
    same-by_test _ _ c.is.ensures c.if-is.true,
    called_at g.F.FnMut c.eq.ensures c.if-eq.true,
  ),
)

pub windows-init : goal.windows-init
windows-init g c =
    let begins = begins g (goal.at.windows-init g c).After-slots_with-same in
    elim c.if-same-ne0.branch [
      | then-same-ne0+else-is w ↦ rw (w.slot-is, w.same-is, w.eq-is) (elim w.else-is.branch [
        | else-is-via-then-is+else-eq v ↦
            let called = called_at g.F.FnMut v.eq.ensures v.if-eq.false in
            search (looking_refuses g.F.FnMut, begins, same-by_test _ _ w.is.ensures v.if-is.true, rw (← v.eq-is) at called)
        | else-is-via-else-is v ↦
            looking_skips g.F.FnMut _ _ _ _ c.requires.tagged _ _ _ _ begins w.if-same-ne0.true
            w.get.result.now.0 w.get.result.now.1 w.get.ensures w.else-is.eq (other-by_test _ _ w.is.ensures v.if-is.false) v.eq-is
      ])
      | else-same-ne0+else-ends_at_home w ↦ rw (w.slot-is, w.same-is, w.eq-is) begins
    ]

pub returns-then-ends_at_home-clause-found : goal.returns-then-ends_at_home-clause-found
returns-then-ends_at_home-clause-found g c = (
  c.args.eq,
  elim (c.ends_at_home.ensures c.if-ends_at_home.true) [
    | inl empty ↦ search (looking_ends g.F.FnMut, begins g (goal.at.returns-then-ends_at_home-clause-found g c).After-slots_with-same, empty)
    | inr near ↦
        let some : 0 < length c.args.slots.now = omega (arith, c.requires.free.1) in
        search (looking_near g.F.FnMut, near, some)
  ],
)

pub returns-then-slots_with-ne0-clause-found : goal.returns-then-slots_with-ne0-clause-found
returns-then-slots_with-ne0-clause-found g c = (c.windows.eq, search (looking_ends g.F.FnMut))

pub slots_up_to_empty-same-requires : goal.slots_up_to_empty-same-requires
slots_up_to_empty-same-requires g c =
    let start_in = c.windows.invariant.window.start_in in
    let some : 0 < length c.args.slots.now = omega (arith, start_in) in
    let long = long_tags c.args.tags.now c.args.slots.now c.requires.tagged.sized some in
    grind (arith, long, c.requires.mask some, c.window_after-start.ensures.on, c.window_after-start.ensures.round)

pub windows-smaller-then-same-eq0 : goal.windows-smaller-then-same-eq0
windows-smaller-then-same-eq0 g c = (goes_on g (goal.at.windows-smaller-then-same-eq0 g c).After-slots_up_to_empty-same).1

pub windows-preserved-then-same-eq0 : goal.windows-preserved-then-same-eq0
windows-preserved-then-same-eq0 g c = (goes_on g (goal.at.windows-preserved-then-same-eq0 g c).After-slots_up_to_empty-same).0

pub get-requires-else-same-eq0 : goal.get-requires-else-same-eq0
get-requires-else-same-eq0 g c = search (looking_full g.F.FnMut)

pub eq-requires-then-is-2 : goal.eq-requires-then-is-2
eq-requires-then-is-2 g c =
    looking_asks g.F.FnMut _ _ _ _ c.requires.tagged _ _ _ _ c.windows.invariant c.if-same-eq0.false
    _ _ c.get-else-same-eq0.ensures (same-by_test _ _ c.is-else-same-eq0.ensures c.if-is-2.true) c.requires.callable _ refl

pub returns-then-eq-2-clause-found : goal.returns-then-eq-2-clause-found
returns-then-eq-2-clause-found g c = (
  c.eq-then-is-2.new.self,
  search (looking_accepts g.F.FnMut, same-by_test _ _ c.is-else-same-eq0.ensures c.if-is-2.true, called_at g.F.FnMut c.eq-then-is-2.ensures c.if-eq-2.true),
)

pub windows-smaller : goal.windows-smaller
windows-smaller g c = search (looking_nearer g.F.FnMut)

pub windows-preserved : goal.windows-preserved
windows-preserved g c =
    elim c.else-is-2.branch [
      | else-is-2-via-then-is-2+else-eq-2 w ↦
          let called = called_at g.F.FnMut w.eq-then-is-2.ensures w.if-eq-2.false in
          search (looking_refuses g.F.FnMut, same-by_test _ _ c.is-else-same-eq0.ensures w.if-is-2.true, rw (← w.eq-is) at called)
      | else-is-2-via-else-is-2 w ↦
          looking_skips g.F.FnMut _ _ _ _ c.requires.tagged _ _ _ _ c.windows.invariant c.if-same-eq0.false
          _ _ c.get-else-same-eq0.ensures _ (other-by_test _ _ c.is-else-same-eq0.ensures w.if-is-2.false) w.eq-is
    ]

pub overflow_add-slot : goal.overflow_add-slot
overflow_add-slot g c =
    let within = looking_within g.F.FnMut _ _ _ _ c.requires.tagged _ _ _ _ (begins g (goal.at.overflow_add-slot g c).After-slots_with-same) c.if-same-ne0.true in
    omega (arith, within, c.requires.mask (omega (arith, within)), c.ranges.mask)
