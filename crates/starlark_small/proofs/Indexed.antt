-- The hash index and its room as the list changes.
use Rattle.starlark_hash.proofs.Common.{take, drop, All-append, common_steps, ◌≡◌, ℕ, suc, ◌+◌, ◌-◌, ◌<◌, ◌≤◌, ◌^◌, List, [], ◌∷◌, ◌++◌, length, map, Option, Some, None, is_some, refl, sym, ap, subst, ◌∙◌, arith, IsPermutation, IfSome, remove, reverse, slice_get, range_with_len, option_map, length-map, length-reverse, length_push, map-append, length-remove, All-push, IsPermutation-reverse, IsPermutation-sym, All-permutation, length_permutation, none-some, same_Some, slice_get-map}
use Rattle.std.proofs.lemmas.List.Elements.{All-take, All-drop}
use Rattle.starlark_vecmap.proofs.Views.{map-remove, map-reverse}
use Rattle.std.proofs.lemmas.Simd.{map-map}
use Rattle.starlark_hash.specs.HashValue.{hash_number}
use Rattle.starlark_hash.specs.declared.hash_value.StarlarkHashValue.{StarlarkHashValue}
use Rattle.starlark_hash.specs.Entries.{Entry, entry_hash}
use Rattle.starlark_small.specs.Hashes.{Hashes, cleared, forgotten, hash_under, noted, reversed}
use Rattle.starlark_small.specs.Index.{IsIndexed, IsIndexedAt, hashes_of, index_room}
use Rattle.starlark_small.specs.IndexCalls.{IsFilled, IsRenamed}
use Rattle.starlark_vec2.specs.Sort.{Moves}
use Rattle.starlark_vec2.proofs.Positions.{IsPermutation-from_order}
use Rattle.starlark_vecmap.specs.EntryList.{EntryList}

pub is_some-map : {A B : Type 0} (f : A → B) (o : Option A) → is_some (option_map f o) ≡ is_some o
is_some-map f o = grind (arith, common_steps)

module _ {K V : Type 0} where
  -- a hash index has as many hashes as the list has entries
  pub indexed-at : (es : List (Entry K V)) (index : Option Hashes) → IsIndexed es index → IsIndexedAt (length es) index
  indexed-at es None short = short
  indexed-at es (Some h) index = ap length index.list ∙ length-map es (λ e. hash_under (entry_hash e))

  pub index-within : (es : List (Entry K V)) (i : ℕ) (index : Option Hashes) → i < length es → IsIndexed es index → IfSome index (λ h. i < length h.list)
  index-within es i index below holds = grind (arith, common_steps, indexed-at es index holds)

  -- an entry is appended
  pub hashes-push : (es : List (Entry K V)) (e : Entry K V) → hashes_of (es ++ e ∷ []) ≡ hashes_of es ++ hash_under (entry_hash e) ∷ []
  hashes-push es e = map-append (λ d. hash_under (entry_hash d)) es (e ∷ [])

  pub IsIndexed-noted : (es : List (Entry K V)) (e : Entry K V) (hash : StarlarkHashValue) (index : Option Hashes) → entry_hash e ≡ hash → 1 ≤ index_room (length es) index → IfSome index (λ _. hash_number hash < 2 ^ 32)
      → IsIndexed es index → IsIndexed (es ++ e ∷ []) (option_map (noted hash) index)
  IsIndexed-noted es e hash None under room fits short = omega (arith, length_push es e, room, short)
  IsIndexed-noted es e hash (Some h) under room fits index = record {
    list = (λ j. index.list j ++ hash_under (sym under j) ∷ []) ∙ sym (hashes-push es e);
    fits = All-push (λ d. d.0.hash.0 < 2 ^ 32) es e index.fits (subst (λ k. k.0 < 2 ^ 32) (sym under) fits);
  }

  -- an entry is removed
  pub IsIndexed-forgotten : (es : List (Entry K V)) (i : ℕ) (index : Option Hashes) → i < length es → IsIndexed es index → IsIndexed (remove es i) (option_map (forgotten i) index)
  IsIndexed-forgotten es i None below short = omega (arith, length-remove es i below, short)
  IsIndexed-forgotten es i (Some h) below index = record {
    list = ap (λ l. remove l i) index.list ∙ sym (map-remove (λ e. hash_under (entry_hash e)) es i);
    fits = let P : Entry K V → Type 0 = λ d. d.0.hash.0 < 2 ^ 32 in All-append P (take i es) (drop (suc i) es) (All-take P i es index.fits) (All-drop P (suc i) es index.fits);
  }

  -- the list is reversed
  pub IsIndexed-reversed : (es : List (Entry K V)) (index : Option Hashes) → IsIndexed es index → IsIndexed (reverse es) (option_map reversed index)
  IsIndexed-reversed es None short = omega (arith, length-reverse es, short)
  IsIndexed-reversed es (Some h) index = record {
    list = ap reverse index.list ∙ sym (map-reverse (λ e. hash_under (entry_hash e)) es);
    fits = All-permutation (λ e. e.0.hash.0 < 2 ^ 32) es (reverse es) (IsPermutation-reverse es) index.fits;
  }

  -- an empty hash index is filled from a list
  pub IsIndexed-filled : (es : List (Entry K V)) (old new : Option Hashes) → length es ≤ index_room 0 old → IsFilled es old new → IsIndexed es new
  IsIndexed-filled es None new short filled = rw filled.hashes short
  IsIndexed-filled es (Some h) new short filled = rw filled.hashes (record { list = refl; fits = filled.fits })

  -- a hash index is emptied, and filled from a list that is no longer
  pub follows-refilled : (before after : EntryList K V) (old mid new : Option Hashes) → length after.entries ≤ length before.entries → IsIndexed before.entries old → mid ≡ option_map cleared old → IsFilled after.entries mid new
      → IsIndexed after.entries new × (length before.entries + index_room (length before.entries) old ≤ length after.entries + index_room (length after.entries) new) × (is_some new ≡ is_some old)
  follows-refilled before after old mid new shorter indexed emptied filled =
      let out : length before.entries + index_room (length before.entries) old ≤ index_room 0 mid = rw emptied (grind (arith, common_steps, indexed-at before.entries old indexed)) in
      (IsIndexed-filled after.entries mid new (omega (arith, shorter, out)) filled, grind (arith, common_steps, filled.hashes), grind (arith, common_steps, filled.hashes))

  -- the hashes move as their entries do
  pub moves-hashes : (es : List (Entry K V)) (to : List ℕ) (after : List (Entry K V)) → Moves es to after → Moves (hashes_of es) to (hashes_of after)
  moves-hashes es to after moves =
      let f : Entry K V → ℕ = λ e. hash_under (entry_hash e) in
      let there : map (λ k. option_map f (slice_get after k)) to ≡ map (slice_get (hashes_of after)) to = λ j. map (λ k. sym (slice_get-map f after k) j) to in
      record {
        once = subst (λ n. IsPermutation (range_with_len 0 n) to) (sym (length-map after f)) moves.once;
        items = map-map Some f es ∙ sym (map-map (option_map f) Some es) ∙ ap (map (option_map f)) moves.items ∙ map-map (option_map f) (slice_get after) to ∙ there;
      }

  pub moves-index : (es : List (Entry K V)) (to : List ℕ) (after : List (Entry K V)) (index : Option Hashes) → Moves es to after → IsIndexed es index → IfSome index (λ h. (list : List ℕ) × Moves h.list to list)
  moves-index es to after None moves short = tt
  moves-index es to after (Some h) moves index = (hashes_of after, subst (λ l. Moves l to (hashes_of after)) (sym index.list) (moves-hashes es to after moves))

  pub IsIndexed-renamed : (es : List (Entry K V)) (to : List ℕ) (after : List (Entry K V)) (old new : Option Hashes) → Moves es to after → IsIndexed es old → IsRenamed to old new → IsIndexed after new
  IsIndexed-renamed es to after None None moves short renamed = omega (arith, length_permutation es after (IsPermutation-sym after es (IsPermutation-from_order after to es moves.once moves.items)), short)
  IsIndexed-renamed es to after None (Some k) moves short renamed = absurd (none-some k.room (sym renamed.room))
  IsIndexed-renamed es to after (Some h) None moves index renamed = absurd (none-some h.room renamed.room)
  IsIndexed-renamed es to after (Some h) (Some k) moves index renamed = record {
    list = same_Some k.list (hashes_of after) (renamed.list (hashes_of after) (subst (λ l. Moves l to (hashes_of after)) (sym index.list) (moves-hashes es to after moves)));
    fits = All-permutation (λ e. e.0.hash.0 < 2 ^ 32) es after (IsPermutation-sym after es (IsPermutation-from_order after to es moves.once moves.items)) index.fits;
  }

  -- an emptied hash index has room for a list that is no longer
  pub cleared-room : (es : List (Entry K V)) (n : ℕ) (old mid : Option Hashes) → n ≤ length es → IsIndexed es old → mid ≡ option_map cleared old → IfSome mid (λ h. (h.list ≡ []) × (n ≤ h.room))
  cleared-room es n old mid shorter indexed is = rw is (grind (arith, common_steps, indexed-at es old indexed))

pub renamed-is_some : (to : List ℕ) (old new : Option Hashes) → IsRenamed to old new → is_some new ≡ is_some old
renamed-is_some to old new renamed = grind (arith, common_steps, renamed.room)

pub renamed-room : (len len' : ℕ) (to : List ℕ) (old new : Option Hashes) → len' ≡ len → IsRenamed to old new → index_room len' new ≡ index_room len old
renamed-room len len' to old new same renamed = grind (arith, common_steps, renamed.room)

pub room-forgotten : (len i : ℕ) (index : Option Hashes) → IsIndexedAt len index → 0 < len → 1 + index_room len index ≤ index_room (len - 1) (option_map (forgotten i) index)
room-forgotten len i index holds some = grind (arith, common_steps)

pub room-reversed : (len len' : ℕ) (index : Option Hashes) → len' ≡ len → index_room len' (option_map reversed index) ≡ index_room len index
room-reversed len len' index same = grind (arith, common_steps)

-- the last hash is that of the last entry
pub last-forgotten : {K V : Type 0} (es : List (Entry K V)) (index : Option Hashes) → IsIndexed es index → option_map (λ h. forgotten (length h.list - 1) h) index ≡ option_map (forgotten (length es - 1)) index
last-forgotten es index holds = grind (arith, common_steps, indexed-at es index holds)
