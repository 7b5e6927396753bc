use Rattle.starlark_hash.proofs.Common.{refl, arith, rules, ap, is_some}
use Rattle.starlark_table.proofs.FullBits.{window_next}
use Rattle.starlark_table.proofs.LentSlots.{marked-window, passed-window}
use Rattle.starlark_table.proofs.clear.next_full.Goals as goal

pub returns-then-full-ne0 : goal.returns-then-full-ne0
returns-then-full-ne0 g c =
    let made = c.full_slots-full.ensures in
    let next = window_next _ _ _ _ _ _ (marked-window _ _ _ _ _ c.requires made.some made.short made.within made.bits) c.if-full-ne0.true refl in
    record {
      full = (omega (arith, c.windows.invariant.ahead), ap is_some next.here);
      passed = λ p low high. grind (arith, c.windows.invariant.passed p, next.passed p);
      none = search rules;
    }

pub windows-preserved : goal.windows-preserved
windows-preserved g c = search (passed-window, marked-window)
