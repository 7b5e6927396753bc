-- The table and the cells of a hash index after each call: their invariant, and the hashes that a contract sees.
use Rattle.starlark_hash.proofs.Common.{◌≡◌, ℕ, ◌+◌, ◌-◌, ◌<◌, ◌≤◌, ◌^◌, List, [], ◌∷◌, ◌++◌, length, map, get_or, take, Option, Some, None, refl, sym, ap, subst, ◌∙◌, arith, Bool, nat_eq, IsPermutation, filter, remove, reverse, slice_index, All, Contains, IsSome, is_some, set, length-append, length-map, length-reverse, length-take, length-remove, IsPermutation-map, IsPermutation-refl, IsPermutation-trans, length_permutation}
use Rattle.std.proofs.Common.{option_map}
use Rattle.std.proofs.lemmas.List.{length-set}
use Rattle.std.proofs.lemmas.Simd.{map-map}
use Rattle.starlark_table.proofs.PairBags.{IsPermutation-filter}
use Rattle.starlark_table.proofs.TableLemmas.{items-items_under}
use Rattle.starlark_table.specs.Table.{Table, filled, items_under, member_at, members, table_capacity, table_len}
use Rattle.starlark_vec2.specs.Sort.{Moves}
use Rattle.starlark_small.specs.Hashes.{Hashes, indices_under, numbered}
use Rattle.starlark_small.specs.Slots.{IsSited, KeepsIndices, RenamesEach, StandsBut, StandsOnce, hash_in, hashes_in, lowered, renaming}
use Rattle.starlark_small.proofs.Numbered.{bag-noted, bag-renamed, filled-renamed, hashes-back, held, left-bag, left-none, left-there, length-moved, members-below, members-count, named-there, stands-once, numbered-moved, numbered_from-remove, numbered_from-remove_last, numbered-reverse}
use Rattle.starlark_small.proofs.Slots.{sited-last, sited-lowered, sited-none, sited-put, sited-reversed}

pub length-hashes_in : (slots : List (Option (ℕ × ℕ))) (cells : List ℕ) → length (hashes_in slots cells) ≡ length cells
length-hashes_in slots cells = length-map cells (λ s. hash_in (get_or slots s None))

-- the indices under a hash, as the items of a table
pub indices-moved : (hs : List ℕ) (t : Table ℕ) (hash : ℕ) → IsPermutation (numbered hs) (members t) → IsPermutation (indices_under hash hs) (map (λ p. (p.1, p.1)) (items_under hash t))
indices-moved hs t hash bag =
    let q : ℕ × ℕ → Bool = λ m. nat_eq m.0 hash in
    subst (IsPermutation (indices_under hash hs)) (simp map-map at (ap (map {A = ℕ} {B = ℕ × ℕ} (λ i. (i, i))) (sym (items-items_under hash t))))
    (IsPermutation-map (λ m. (m.1, m.1)) (filter q (numbered hs)) (filter q (members t)) (IsPermutation-filter q (numbered hs) (members t) bag))

-- table and cells meet the invariant, and a contract sees these hashes and this room
pub record Keeps (hs : List ℕ) (free : ℕ) (t : Table ℕ) (cells : List ℕ) (memory : ℕ) : Type 0 where
  pub keeps : KeepsIndices t cells memory
  pub list : hashes_in t.slots cells ≡ hs
  pub room : t.room ≡ free

-- there are slots, and 32 bits number them
abbrev pub AreNumbered : ℕ → Type 0
AreNumbered n = (0 < n) × (n ≤ 2 ^ 32)

numbered-alike : (n m : ℕ) → n ≡ m → 0 < m → m ≤ 2 ^ 32 → AreNumbered n
numbered-alike n m same some few = (omega (arith, same, some), omega (arith, same, few))

keeps_by : (hs : List ℕ) (room : ℕ) (t : Table ℕ) (cells : List ℕ) (memory : ℕ) → IsPermutation (numbered hs) (members t) → IsSited cells t.slots → length cells ≡ length hs → memory ≡ table_capacity t → AreNumbered (length t.slots) → table_capacity t ≤ 2 ^ 32 → t.room ≡ room
    → Keeps hs room t cells memory
keeps_by hs room t cells memory bag sited long tight few narrow free =
    let back = hashes-back hs t bag cells long sited in
    record { keeps = record { bag = subst (λ l. IsPermutation (numbered l) (members t)) (sym back) bag; sited = sited; even = long ∙ sym (members-count hs t bag); tight = tight; some = few.0; few = few.1; narrow = narrow }; list = back; room = free }

-- what a contract sees of them
abbrev pub view_of : Table ℕ → List ℕ → Hashes
view_of t cells = record { list = hashes_in t.slots cells; room = t.room }

pub seen : (hs : List ℕ) (room : ℕ) (t : Table ℕ) (cells : List ℕ) (memory : ℕ) → Keeps hs room t cells memory → view_of t cells ≡ record { list = hs; room = room }
seen hs room t cells memory k = λ j. record { list = k.list j; room = k.room j }

-- no index
pub keeps-none : (t : Table ℕ) (cells : List ℕ) (memory : ℕ) → members t ≡ [] → cells ≡ [] → memory ≡ t.room → AreNumbered (length t.slots) → t.room ≤ 2 ^ 32 → Keeps [] t.room t cells memory
keeps-none t cells memory none is tight few narrow =
    let empty = ap length none in
    keeps_by [] t.room t cells memory (subst (IsPermutation []) (sym none) (IsPermutation-refl [])) (subst (λ l. IsSited l t.slots) (sym is) (sited-none t none)) (ap length is) (omega (arith, empty, tight)) few (omega (arith, empty, narrow)) refl

module _ (old : Table ℕ) (cells : List ℕ) (memory : ℕ) (k : KeepsIndices old cells memory) where
  abbrev hs : List ℕ
  hs = hashes_in old.slots cells

  pub indices-below : All (λ m. m.1 < length cells) (members old)
  indices-below = subst (λ n. All (λ m. m.1 < n) (members old)) (length-hashes_in old.slots cells) (members-below hs old k.bag)

  -- each index is in the slot that its cell names
  pub stands-named : (i : ℕ) → i < length cells → IsSome (member_at old (get_or cells i 0))
  stands-named i inside =
      ap is_some (named-there cells old (get_or hs i 0) i k.sited (held hs old k.bag i (omega (arith, inside, length-hashes_in old.slots cells))))

  -- an index was appended
  pub keeps-noted : (new : Table ℕ) (after : List ℕ) (h x slot space : ℕ) → after ≡ cells ++ slot ∷ [] → space ≡ memory → x ≡ length cells → slot < length old.slots → new.slots ≡ set old.slots slot (Some (h, x)) → IsPermutation ((h, x) ∷ members old) (members new) → table_capacity new ≡ table_capacity old
      → 0 < old.room → Keeps (hs ++ h ∷ []) (old.room - 1) new after space
  keeps-noted new after h x slot space put more last within is added room some =
      let longer = length_permutation ((h, x) ∷ members old) (members new) added in
      let long = length-hashes_in old.slots cells in
      keeps_by (hs ++ h ∷ []) (old.room - 1) new after space (bag-noted hs h x old new (omega (arith, last, long)) k.bag added)
      (rw (put, is) (sited-put cells old.slots slot h x last within k.sited))
      (omega (arith, ap length put, length-append cells (slot ∷ []), length-append hs (h ∷ []), long)) (omega (arith, room, k.tight, more)) (numbered-alike (length new.slots) (length old.slots) (ap length is ∙ length-set old.slots slot (Some (h, x))) k.some k.few) (omega (arith, room, k.narrow)) (omega (arith, room, longer, some))

  -- each index was replaced, and the cells were written anew
  module _ (name : ℕ → ℕ) (ks : List ℕ) (new : Table ℕ) (renames : RenamesEach name old new) (same : IsPermutation (numbered ks) (map (renaming name) (numbered hs))) (long : length ks ≡ length cells) where
    pub renamed-bag : IsPermutation (numbered ks) (members new)
    renamed-bag = bag-renamed name (numbered hs) ks old new k.bag same renames.slots

    pub keeps-renamed : (after : List ℕ) (space : ℕ) → IsSited after new.slots → length after ≡ length cells → space ≡ memory → Keeps ks old.room new after space
    keeps-renamed after space sited even more =
        let count = members-count ks new renamed-bag in
        let was = k.even in
        keeps_by ks old.room new after space renamed-bag sited (even ∙ sym long) (omega (arith, count, was, long, renames.room, k.tight, more))
        (numbered-alike (length new.slots) (length old.slots) (ap length renames.slots ∙ length-map old.slots (option_map (renaming name))) k.some k.few) (omega (arith, count, was, long, renames.room, k.narrow)) renames.room

  -- each hash was moved as a list says
  module _ (to ks : List ℕ) (moves : Moves hs to ks) where
    pub moved-to : length to ≡ length cells
    moved-to = (length-moved hs to ks moves).0 ∙ length-hashes_in old.slots cells

    moved-long : length ks ≡ length cells
    moved-long = (length-moved hs to ks moves).1 ∙ length-hashes_in old.slots cells

    module _ (new : Table ℕ) (renames : RenamesEach (slice_index to) old new) where
      moved-bag : IsPermutation (numbered ks) (members new)
      moved-bag = renamed-bag (slice_index to) ks new renames (numbered-moved hs to ks moves) moved-long

      pub moved-below : All (λ m. m.1 < length cells) (members new)
      moved-below = subst (λ n. All (λ m. m.1 < n) (members new)) moved-long (members-below ks new moved-bag)

      pub moved-once : StandsOnce new.slots
      moved-once = stands-once ks new moved-bag

      pub keeps-moved : (after : List ℕ) (space : ℕ) → IsSited after new.slots → length after ≡ length cells → space ≡ memory → Keeps ks old.room new after space
      keeps-moved after space sited even more = keeps-renamed (slice_index to) ks new renames (numbered-moved hs to ks moves) moved-long after space sited even more

  -- another table has the same members
  module _ (new : Table ℕ) (same : IsPermutation (members old) (members new)) where
    grown-bag : IsPermutation (numbered hs) (members new)
    grown-bag = IsPermutation-trans (numbered hs) (members old) (members new) k.bag same

    pub grown-below : All (λ m. m.1 < length cells) (members new)
    grown-below = subst (λ n. All (λ m. m.1 < n) (members new)) (length-hashes_in old.slots cells) (members-below hs new grown-bag)

    pub grown-once : StandsOnce new.slots
    grown-once = stands-once hs new grown-bag

    pub keeps-grown : (after : List ℕ) (space : ℕ) → IsSited after new.slots → length after ≡ length cells → space ≡ table_capacity new → AreNumbered (length new.slots) → table_capacity new ≤ 2 ^ 32 → Keeps hs new.room new after space
    keeps-grown after space sited even tight few narrow = keeps_by hs new.room new after space grown-bag sited (even ∙ sym (length-hashes_in old.slots cells)) tight few narrow refl

  -- the order was reversed
  pub keeps-reversed : (n : ℕ) (new : Table ℕ) (space : ℕ) → n ≡ length cells → RenamesEach (λ i. n - 1 - i) old new → space ≡ memory → Keeps (reverse hs) old.room new (reverse cells) space
  keeps-reversed n new space is renames more =
      let long = length-hashes_in old.slots cells in
      let bag = subst (λ m. IsPermutation (numbered (reverse hs)) (map (renaming (λ i. m - 1 - i)) (numbered hs))) (long ∙ sym is) (numbered-reverse hs) in
      keeps-renamed (λ i. n - 1 - i) (reverse hs) new renames bag (length-reverse hs ∙ long) (reverse cells) space
      (rw (renames.slots, is) (sited-reversed cells old.slots k.sited)) (length-reverse cells) more

  -- an index was removed, and those above it are not yet decremented
  module _ (i : ℕ) (inside : i < length cells) (mid : Table ℕ) (after : List ℕ) (even : length after ≡ length cells) (sited : IsSited after mid.slots) (taken : (h : ℕ) → Contains (members old) (h, i) → IsPermutation (members old) ((h, i) ∷ members mid))
      (slots : length mid.slots ≡ length old.slots) (room : table_capacity mid ≡ table_capacity old) where
    within : i < length hs
    within = omega (arith, inside, length-hashes_in old.slots cells)

    apart : IsPermutation (members old) ((get_or hs i 0, i) ∷ members mid)
    apart = taken (get_or hs i 0) (held hs old k.bag i within)

    bag : IsPermutation (remove (numbered hs) i) (members mid)
    bag = left-bag hs old k.bag i within mid apart

    pub stands-but : StandsBut i after mid.slots
    stands-but = record { there = λ j lt other. (get_or hs j 0, left-there hs old k.bag i within mid apart after sited j (omega (arith, lt, even, length-hashes_in old.slots cells)) other) }

    -- the indices above it are decremented
    pub keeps-forgotten : (new : Table ℕ) (space : ℕ) → RenamesEach (lowered i) mid new → space ≡ memory → Keeps (remove hs i) (old.room + 1) new (remove after i) space
    keeps-forgotten new space renames more =
        let ks = remove hs i in
        let now = bag-renamed (lowered i) (remove (numbered hs) i) ks mid new bag (rw (numbered_from-remove 0 i i hs (omega arith) within) (IsPermutation-refl (numbered ks))) renames.slots in
        let count : table_len new ≡ table_len mid = ap length (ap filled renames.slots ∙ filled-renamed (lowered i) mid.slots) ∙ length-map (members mid) (renaming (lowered i)) in
        let here : i < length after = omega (arith, inside, even) in
        keeps_by ks (old.room + 1) new (remove after i) space now
        (subst (IsSited (remove after i)) (sym renames.slots) (sited-lowered i after mid.slots here (left-none hs old k.bag i within mid apart) sited))
        (omega (arith, length-remove after i here, length-remove hs i within, even, length-hashes_in old.slots cells)) (omega (arith, count, renames.room, room, k.tight, more))
        (numbered-alike (length new.slots) (length old.slots) (ap length renames.slots ∙ length-map mid.slots (option_map (renaming (lowered i))) ∙ slots) k.some k.few) (omega (arith, count, renames.room, room, k.narrow))
        (omega (arith, renames.room, room, length_permutation (members old) _ apart))

    -- there was no index above it
    pub keeps-forgotten_last : (space : ℕ) → i + 1 ≡ length cells → space ≡ memory → Keeps (remove hs i) (old.room + 1) mid (take i after) space
    keeps-forgotten_last space end more =
        let ks = remove hs i in
        let long = length-hashes_in old.slots cells in
        let now : IsPermutation (numbered ks) (members mid) = subst (λ l. IsPermutation l (members mid)) (numbered_from-remove_last 0 i hs (omega (arith, end, long))) bag in
        let left : length ks ≡ i = omega (arith, length-remove hs i within, end, long) in
        keeps_by ks (old.room + 1) mid (take i after) space now
        (sited-last after mid i (omega (arith, end, even)) (subst (λ n. All (λ m. m.1 < n) (members mid)) left (members-below ks mid now)) sited)
        (omega (arith, length-take i after, end, even, left)) (omega (arith, room, k.tight, more)) (numbered-alike (length mid.slots) (length old.slots) slots k.some k.few) (omega (arith, room, k.narrow)) (omega (arith, room, length_permutation (members old) _ apart))
