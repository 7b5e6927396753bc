-- The cells as indices are appended, move, are decremented and are removed.
use Rattle.std.proofs.lemmas.List.{ext_get_or, get_or-reverse}
use Rattle.std.proofs.lemmas.Grind.{get_or_default_zero}
use Rattle.starlark_hash.proofs.Common.{option_map, common_steps, ◌≡◌, ◌≢◌, ℕ, ◌+◌, ◌-◌, ◌<◌, ◌≤◌, List, [], ◌∷◌, ◌++◌, length, get_or, take, Option, Some, None, IsSome, sym, ap, ◌∙◌, arith, if◌then◌else◌, nat_lt, remove, reverse, All, set, get_or-append_seam, nat_tests, length-reverse, length-take, get_or-take, length-remove, All-contains, none-some, same_Some}
use Rattle.std.proofs.lemmas.List.Edits.{get_or-remove_below, get_or-remove_above}
use Rattle.starlark_table.specs.Follow.{CanMove, after_move}
use Rattle.starlark_table.specs.Table.{Table, members, member_at, with_item}
use Rattle.starlark_table.proofs.TableLemmas.{members-member_at}
use Rattle.starlark_small.specs.Slots.{IsSited, StandsBut, StandsOnce, lowered, renamed, renaming}

-- slots, each empty or with a member: its hash, and its index
abbrev Slots : Type 0
Slots = List (Option (ℕ × ℕ))

-- a bound of the index of the member in a slot
below-at : (n : ℕ) (t : Table ℕ) → All (λ m. m.1 < n) (members t) → (s h x : ℕ) → member_at t s ≡ Some (h, x) → x < n
below-at n t below s h x is = All-contains (λ m. m.1 < n) (members t) (h, x) below (members-member_at t s (h, x) is)

-- the member in a slot whose index is read
pub member-read : (n : ℕ) (t : Table ℕ) (s x : ℕ) (o : Option (ℕ × ℕ)) → member_at t s ≡ o → All (λ m. m.1 < n) (members t) → Some x ≡ option_map {T = ℕ × ℕ} (λ m. m.1) o → (h : ℕ) × (member_at t s ≡ Some (h, x)) × (x < n)
member-read n t s x None at below is = absurd (none-some x (sym is))
member-read n t s x (Some m) at below is =
    let there : member_at t s ≡ Some (m.0, x) = at ∙ ap (λ k. Some (m.0, k)) (sym (same_Some x m.1 is)) in
    (m.0, there, below-at n t below s m.0 x there)

-- ---- one slot is emptied
pub sited-without : (cells : List ℕ) (slots : Slots) (s : ℕ) → IsSited cells slots → IsSited cells (set slots s None)
sited-without cells slots s sited = grind (arith, common_steps, sited.within, sited.named)

-- ---- a member moves
pub sited-moved : (cells : List ℕ) (slots : Slots) (from to h x : ℕ) → CanMove slots from to h x → IsSited cells slots → IsSited (set cells x to) (after_move slots from to h x)
sited-moved cells slots from to h x can sited = record {
  within = λ t g y is. grind (arith, common_steps, can.there, can.within, sited.within t g y, sited.within from h x);
  named = λ t g y is. grind (arith, common_steps, can.there, can.within, sited.within from h x, sited.named t g y, sited.named from h x);
}

-- ---- the next index is appended
pub sited-put : (cells : List ℕ) (slots : Slots) (slot h x : ℕ) → x ≡ length cells → slot < length slots → IsSited cells slots
    → IsSited (cells ++ slot ∷ []) (set slots slot (Some (h, x)))
sited-put cells slots slot h x last below sited = record {
  within = λ t g y is. grind (arith, common_steps, sited.within t g y);
  named = λ t g y is. grind (arith, common_steps, sited.within t g y, sited.named t g y, get_or-append_seam cells slot [] 0);
}

-- ---- no index is there
pub sited-none : (t : Table ℕ) → members t ≡ [] → IsSited [] t.slots
sited-none t none =
    let none_below : All (λ m. m.1 < 0) (members t) = rw none (λ k d lt. absurd (omega (arith, lt))) in grind (arith, below-at 0 t none_below)

-- ---- the slots are named in turn
-- the cells name the slot of each index in a slot before i
pub record AreNamed (i : ℕ) (cells : List ℕ) (slots : Slots) : Type 0 where
  pub before : (s h x : ℕ) → s < i → get_or slots s None ≡ Some (h, x) → get_or cells x 0 ≡ s

module _ (from i : ℕ) (cells : List ℕ) (slots : Slots) (passed : (p : ℕ) → from ≤ p → p < i → get_or slots p None ≡ None) (named : AreNamed from cells slots) where
  pub named-next : (h x : ℕ) → StandsOnce slots → x < length cells → get_or slots i None ≡ Some (h, x) → AreNamed (i + 1) (set cells x i) slots
  named-next h x once below at = record { before = λ s g y lt is. grind (arith, common_steps, named.before s g y, passed s, once.once s i g h x) }

pub sited-named : (i : ℕ) (cells : List ℕ) (t : Table ℕ) → ((p : ℕ) → i ≤ p → member_at t p ≡ None) → All (λ m. m.1 < length cells) (members t) → AreNamed i cells t.slots → IsSited cells t.slots
sited-named i cells t rest all named = grind (arith, common_steps, below-at (length cells) t all, named.before, rest)

read_map : (f : ℕ → ℕ) (slots : Slots) (s : ℕ) → get_or (renamed f slots) s None ≡ option_map (renaming f) (get_or slots s None)
read_map f slots s = grind (arith, common_steps)

-- each index is replaced, and so are the cells
sited-renamed : (f : ℕ → ℕ) (cells after : List ℕ) (slots : Slots) → IsSited cells slots
    → ((s h y : ℕ) → get_or slots s None ≡ Some (h, y) → y < length cells → (f y < length after) × (get_or after (f y) 0 ≡ get_or cells y 0)) → IsSited after (renamed f slots)
sited-renamed f cells after slots sited goes = record {
  within = λ s h x is. grind (arith, read_map f slots s, sited.within s h, goes s h);
  named = λ s h x is. grind (arith, read_map f slots s, sited.within s h, sited.named s h, goes s h);
}

pub sited-lowered : (i : ℕ) (cells : List ℕ) (slots : Slots) → i < length cells → ((s h x : ℕ) → get_or slots s None ≡ Some (h, x) → x ≢ i) → IsSited cells slots
    → IsSited (remove cells i) (renamed (lowered i) slots)
sited-lowered i cells slots inside none sited =
    sited-renamed (lowered i) cells (remove cells i) slots sited (λ s h y is lt. let apart = none s h y is in
    (grind (arith, nat_tests, length-remove cells i inside), grind (arith, nat_tests, get_or-remove_below cells i 0 y, get_or-remove_above cells i 0 (y - 1))))

pub sited-reversed : (cells : List ℕ) (slots : Slots) → IsSited cells slots → IsSited (reverse cells) (renamed (λ i. length cells - 1 - i) slots)
sited-reversed cells slots sited = sited-renamed (λ i. length cells - 1 - i) cells (reverse cells) slots sited (λ s h y is lt.
    (omega (arith, lt, length-reverse cells), grind (arith, get_or-reverse cells (length cells - 1 - y) 0)))

-- ---- each index above one is decremented, slot by slot
-- the index, decremented if it is above one index and below another
abbrev pub lowered_to : ℕ → ℕ → ℕ → ℕ
lowered_to i j x = if nat_lt x j then lowered i x else x

module _ (i : ℕ) (cells : List ℕ) (t : Table ℕ) (sited : IsSited cells t.slots) where
  pub lowered-none : t.slots ≡ renamed (lowered_to i (i + 1)) t.slots
  lowered-none = ext_get_or None t.slots (renamed (lowered_to i (i + 1)) t.slots) (grind (arith, common_steps)) (λ s lt. grind (arith, common_steps, nat_tests, read_map (lowered_to i (i + 1)) t.slots s))

  pub lowered-all : (j : ℕ) → length cells ≤ j → renamed (lowered_to i j) t.slots ≡ renamed (lowered i) t.slots
  lowered-all j all = ext_get_or None (renamed (lowered_to i j) t.slots) (renamed (lowered i) t.slots) (grind (arith, common_steps)) (λ s lt. grind (arith, common_steps, nat_tests, read_map (lowered_to i j) t.slots s, read_map (lowered i) t.slots s, sited.within s))

  -- the next index to be decremented is in the slot that its cell names
  module _ (stands : StandsBut i cells t.slots) (j slot : ℕ) (above : i < j) (below : j < length cells) (read : slot ≡ get_or cells j slot) (now : Table ℕ) (held : now.slots ≡ renamed (lowered_to i j) t.slots) where
    there : (h : ℕ) × (member_at t slot ≡ Some (h, j))
    there = let it = stands.there j below (λ same. omega (arith, same)) in (it.0, ap (member_at t) (read ∙ get_or_default_zero cells j slot below) ∙ it.1)

    pub next-there : IsSome (member_at now slot)
    next-there = grind (arith, common_steps, there.1, read_map (lowered_to i j) t.slots slot)

    pub lowered-next : (with_item now slot (j - 1)).slots ≡ renamed (lowered_to i (j + 1)) t.slots
    lowered-next = ext_get_or None (with_item now slot (j - 1)).slots (renamed (lowered_to i (j + 1)) t.slots) (grind (arith, common_steps)) (λ s lt.
        grind (arith, common_steps, nat_tests, read_map (lowered_to i j) t.slots s, read_map (lowered_to i (j + 1)) t.slots s, sited.named s, there.1))

-- ---- the last index is gone
pub sited-last : (cells : List ℕ) (t : Table ℕ) (n : ℕ) → n ≤ length cells → All (λ m. m.1 < n) (members t) → IsSited cells t.slots → IsSited (take n cells) t.slots
sited-last cells t n short below sited = grind (arith, below-at n t below, sited.named, length-take n cells, get_or-take n cells)
