-- The loop that replaces each item, group by group.
use Rattle.starlark_columns.proofs.LogicNames.{◌≡◌, ◌≢◌, ℕ, suc, ◌+◌, ◌-◌, ◌<◌, ◌≤◌, ◌++◌, ◌∷◌, [], List, Option, Some, arith, refl, sym, ◌∙◌, ap, subst, length, get_or, bit_and, set, take-add, take-take, drop-drop, drop-take, get_or-drop, drop_split, count_trailing_zeros, Mut, CalledAt, TakesAt}
use Rattle.starlark_hash.proofs.Common.{common_steps, None, drop, drop-cons, length-set, take_all, Bor}
use Rattle.std.proofs.Common.{slice_range}
use Rattle.starlark_table.specs.Table.{items_in}
use Rattle.starlark_table.specs.Layout.{at, LeftInWindow}
use Rattle.starlark_table.specs.Walk.{CanReplace, ReplacesEach, ReplacesWithin}
use Rattle.starlark_table.proofs.BackwardShift.{full_in_range}
use Rattle.starlark_table.proofs.FullBits.{NextFull, window_next, window_done}
use Rattle.starlark_table.proofs.ClosureCalls.{walk_on, walk_asks}

module _ {X : Type 0} where
  -- lists that are alike from j on have the same elements there
  pub alike_behind : (xs ys : List X) (j p : ℕ) (d : X) → drop j xs ≡ drop j ys → j ≤ p → get_or xs p d ≡ get_or ys p d
  alike_behind xs ys j p d same behind = grind (arith, get_or-drop j xs (p - j), get_or-drop j ys (p - j))

module _ {F T : Type 0} (g : Mut F (Bor T × Unit {0}) T) where
  replaces-append : (f f' last : F) (a b a' b' : List (Option (ℕ × T))) → ReplacesEach g f a a' f' → ReplacesEach g f' b b' last
      → ReplacesEach g f (a ++ b) (a' ++ b') last
  replaces-append f f' last [] b a' b' (none, same) more =
      rw none (rw same at more)
  replaces-append f f' last (None ∷ a) b a' b' (rest, is, tail) more =
      (rest ++ b', ap (λ l. l ++ b') is, replaces-append f f' last a b rest b' tail more)
  replaces-append f f' last (Some (h, x) ∷ a) b a' b' (y, next, rest, called, is, tail) more =
      (y, next, rest ++ b', called, ap (λ l. l ++ b') is, replaces-append next f' last a b rest b' tail more)

  can_replace-past : (f f' : F) (a b a' : List (Option (ℕ × T))) → ReplacesEach g f a a' f' → CanReplace g (items_in (a ++ b)) f
      → CanReplace g (items_in b) f'
  can_replace-past f f' [] b a' (none, same) can = subst (λ f. CanReplace g (items_in b) f) (sym same) can
  can_replace-past f f' (None ∷ a) b a' (rest, is, tail) can = can_replace-past f f' a b rest tail can
  can_replace-past f f' (Some (h, x) ∷ a) b a' (y, next, rest, called, is, tail) can =
      can_replace-past next f' a b rest tail (walk_on (TakesAt g) _ x (items_in (a ++ b)) f next (y, called) can)

  -- if no slot is full, nothing is replaced
  replaces-none : (f : F) (xs : List (Option (ℕ × T))) → ((p : ℕ) → at xs p ≡ None) → ReplacesEach g f xs xs f
  replaces-none f [] none = (refl, refl)
  replaces-none f (None ∷ xs) none = (xs, refl, replaces-none f xs (λ p. none (suc p)))
  replaces-none f (Some m ∷ xs) none = absurd (cc (none 0))

  pub within-join : (f f' last : F) (a b c : List (Option (ℕ × T))) (i j k : ℕ) → i ≤ j → j ≤ k → ReplacesWithin g f a b f' i j
      → ReplacesWithin g f' b c last j k → ReplacesWithin g f a c last i k
  within-join f f' last a b c i j k on on' w v =
      let back : i + (j - i) ≡ j = omega arith in
      let past : j + (k - j) ≡ k = omega arith in
      let old : slice_range a i k ≡ slice_range a i j ++ slice_range b j k = grind (arith, common_steps, take-add (j - i) (k - j) (drop i a)) in
      let new : slice_range c i k ≡ slice_range b i j ++ slice_range c j k =
      grind (arith, common_steps, take-add (j - i) (k - j) (drop i c), drop-take i (j - i) c, drop-take i (j - i) b) in
      record {
        before = cc (take-take i j c on, take-take i j b on);
        items = rw (old, new) (replaces-append f f' last _ _ _ _ w.items v.items);
        after = cc (drop-drop (k - j) j b, drop-drop (k - j) j a);
      }

  -- the replaced range extends over empty slots
  within-past : (f last : F) (a b : List (Option (ℕ × T))) (i j k : ℕ) → i ≤ j → j ≤ k → ReplacesWithin g f a b last i j → ((p : ℕ) → j ≤ p → p < k → at a p ≡ None)
      → ReplacesWithin g f a b last i k
  within-past f last a b i j k on on' w none =
      let nothing = replaces-none last (slice_range b j k) (λ p. grind (arith, common_steps, none (j + p), alike_behind b a j (j + p) None w.after)) in
      within-join f last last a b b i j k on on' w (record { before = refl; items = nothing; after = refl })

  within-member : (f f' : F) (xs : List (Option (ℕ × T))) (i h : ℕ) (x y : T) → i < length xs → at xs i ≡ Some (h, x) → CalledAt g f x y f'
      → ReplacesWithin g f xs (set xs i (Some (h, y))) f' i (i + 1)
  within-member f f' xs i h x y i_in here called =
      let old : slice_range xs i (i + 1) ≡ Some (h, x) ∷ [] = grind (arith, common_steps) in
      let new : slice_range (set xs i (Some (h, y))) i (i + 1) ≡ Some (h, y) ∷ [] = grind (arith, common_steps) in
      let items : ReplacesEach g f (slice_range xs i (i + 1)) (slice_range (set xs i (Some (h, y))) i (i + 1)) f' =
      rw (old, new) (y, f', [], called, refl, (refl, refl)) in
      grind (arith, common_steps)

  pub within-all : (f last : F) (old new : List (Option (ℕ × T))) (end : ℕ) → length old ≤ end → length new ≡ length old
      → ReplacesWithin g f old new last 0 end → ReplacesEach g f old new last
  within-all f last old new end all same w =
      rw (take_all (end - 0) old (omega arith), take_all (end - 0) new (omega arith)) at w.items

  -- after some calls, the closure may be called on the items that are left
  pub can_replace-after : (f f' : F) (old new : List (Option (ℕ × T))) (i j : ℕ) → i ≤ j → ReplacesWithin g f old new f' i j
      → CanReplace g (items_in (drop i old)) f → CanReplace g (items_in (drop j new)) f'
  can_replace-after f f' old new i j on w can =
      rw w.after (can_replace-past f f' _ (drop j old) _ w.items (rw (drop_split old i j on) at can))

  -- the items of the group before the full slots that are left have been replaced
  pub record ReplacingWindow (first : F) (initial cur : List (Option (ℕ × T))) (f : F) (start end bits : ℕ) : Type 0 where
    pub next : ℕ
    pub left : LeftInWindow initial start end next bits
    pub sized : length cur ≡ length initial
    pub replaced : ReplacesWithin g first initial cur f start next

  pub replacing-begins : (f : F) (slots : List (Option (ℕ × T))) (start end bits : ℕ) → LeftInWindow slots start end start bits
      → ReplacingWindow f slots slots f start end bits
  replacing-begins f slots start end bits left =
      let nothing = replaces-none f (slice_range slots start start) (λ p. grind (arith, common_steps)) in
      record { next = start; left = left; sized = refl; replaced = record { before = refl; items = nothing; after = refl } }

  module _ (first : F) (initial cur : List (Option (ℕ × T))) (f : F) (start end bits k : ℕ) (w : ReplacingWindow first initial cur f start end bits)
      (some : bits ≢ 0) (lowest : k ≡ count_trailing_zeros 64 bits) where
    found : NextFull initial start end w.next bits k
    found = window_next initial start end w.next bits k w.left some lowest

    -- the slot of the lowest bit is full
    pub replacing-finds : (m : ℕ × T) × (at cur (start + k) ≡ Some m)
    replacing-finds = (found.member, alike_behind cur initial w.next (start + k) None w.replaced.after found.ahead ∙ found.here)

    up_to_slot : ReplacesWithin g first initial cur f start (start + k)
    up_to_slot = within-past first f initial cur start w.next (start + k) w.left.from found.ahead w.replaced found.passed

    module _ (m : ℕ × T) (here : at cur (start + k) ≡ Some m) where
      -- the closure may be called on the item of that slot
      pub replacing-asks : CanReplace g (items_in (drop start initial)) first → TakesAt g f m.1
      replacing-asks can =
          let slot_in = full_in_range cur (start + k) m here in
          walk_asks (TakesAt g) _ m.1 (items_in (drop (suc (start + k)) cur)) f
          (rw (drop-cons cur (start + k) None slot_in, here) at (can_replace-after first f initial cur start (start + k) (omega arith) up_to_slot can))

      pub replacing-goes_on : (y : T) (f' : F) → CalledAt g f m.1 y f'
          → ReplacingWindow first initial (set cur (start + k) (Some (m.0, y))) f' start end (bit_and bits (bits - 1))
      replacing-goes_on y f' called = record {
        next = start + k + 1;
        left = found.on;
        sized = length-set cur (start + k) (Some (m.0, y)) ∙ w.sized;
        replaced = within-join first f f' initial cur (set cur (start + k) (Some (m.0, y))) start (start + k) (start + k + 1) (omega arith) (omega arith)
            up_to_slot (within-member f f' cur (start + k) m.0 m.1 y (full_in_range cur (start + k) m here) here called);
      }

  -- if no bit is left, the group is done
  pub replacing-ends : (first : F) (initial cur : List (Option (ℕ × T))) (f : F) (start end bits : ℕ) → ReplacingWindow first initial cur f start end bits
      → bits ≡ 0 → ReplacesWithin g first initial cur f start end
  replacing-ends first initial cur f start end bits w none =
      within-past first f initial cur start w.next end w.left.from w.left.to w.replaced (window_done initial start end w.next bits w.left none)
