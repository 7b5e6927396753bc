-- The loop that moves every member out, group by group.
use Rattle.starlark_hash.proofs.Common.{◌≡◌, ◌≢◌, ℕ, ◌+◌, ◌-◌, ◌<◌, ◌≤◌, List, Option, Some, None, arith, ◌∙◌, length, bit_and, common_steps, set, length-set, count_trailing_zeros}
use Rattle.starlark_table.specs.Layout.{at, LeftInWindow}
use Rattle.starlark_table.proofs.BackwardShift.{full_in_range}
use Rattle.starlark_table.proofs.FullBits.{window_next, window_done}

module _ {T : Type 0} where
  -- the full slots of the group before those that are left have been emptied, and the others are as they were
  pub record EmptyingWindow (initial cur : List (Option (ℕ × T))) (start end bits : ℕ) : Type 0 where
    pub next : ℕ
    pub left : LeftInWindow initial start end next bits
    pub sized : length cur ≡ length initial
    pub emptied : (p : ℕ) → start ≤ p → p < next → at cur p ≡ None
    pub before : (p : ℕ) → p < start → at cur p ≡ at initial p
    pub after : (p : ℕ) → next ≤ p → at cur p ≡ at initial p

  pub emptying-begins : (slots : List (Option (ℕ × T))) (start end bits : ℕ) → LeftInWindow slots start end start bits
      → EmptyingWindow slots slots start end bits
  emptying-begins slots start end bits left = grind arith

  module _ (initial cur : List (Option (ℕ × T))) (start end bits k : ℕ) (w : EmptyingWindow initial cur start end bits)
      (some : bits ≢ 0) (lowest : k ≡ count_trailing_zeros 64 bits) where
    -- the slot of the lowest bit is full
    pub emptying-finds : (m : ℕ × T) × (at cur (start + k) ≡ Some m)
    emptying-finds =
        let r = window_next initial start end w.next bits k w.left some lowest in
        (r.member, w.after (start + k) r.ahead ∙ r.here)

    pub emptying-goes_on : EmptyingWindow initial (set cur (start + k) None) start end (bit_and bits (bits - 1))
    emptying-goes_on =
        let r = window_next initial start end w.next bits k w.left some lowest in
        record {
          next = start + k + 1;
          left = r.on;
          sized = length-set cur (start + k) None ∙ w.sized;
          emptied = grind (arith, common_steps, full_in_range cur (start + k) r.member);
          before = grind (arith, common_steps, full_in_range cur (start + k) r.member);
          after = grind (arith, common_steps, full_in_range cur (start + k) r.member);
        }

  -- if no bit is left, the group is empty
  pub emptying-ends : (initial cur : List (Option (ℕ × T))) (start end bits : ℕ) → EmptyingWindow initial cur start end bits → bits ≡ 0
      → (p : ℕ) → start ≤ p → p < end → at cur p ≡ None
  emptying-ends initial cur start end bits w none p low high =
      grind (arith, window_done initial start end w.next bits w.left none p)
