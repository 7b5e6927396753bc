-- A search that jumps from one match of the hash to the next, as a search of the keys under the hash.
use Rattle.starlark_hash.proofs.Common.{◌≡◌, ℕ, zero, suc, ◌+◌, ◌<◌, ◌≤◌, Bool, true, false, List, [], ◌∷◌, ◌++◌, map, length, get_or, drop, Option, Some, None, refl, sym, ap, ◌∙◌, arith, length-drop, ◌==◌, filter, position, enumerate_from, option_map, Bor, Mut, Called, CalledAt, Takes, get_or-drop, drop-drop, IsPermutation-refl, IsPermutation-cons, none-some}
use Rattle.starlark_hash.specs.declared.hash_value.StarlarkHashValue.{StarlarkHashValue}
use Rattle.starlark_hash.specs.Entries.{entry_key, is_under}
use Rattle.starlark_hash.specs.Search.{Asks, CanSearch, keys_under}
use Rattle.starlark_hash.proofs.PositionLemmas.{position-cons}
use Rattle.starlark_vecmap.specs.EntryList.{entries_in}

module _ {K V : Type 0} (hash : StarlarkHashValue) where
  -- the indices under the hash, counted from n, each with its key
  abbrev keys_from : ℕ → List (K × V) → List ℕ → List (ℕ × K)
  keys_from n pairs hashes = map (λ p. (p.0, entry_key p.1)) (filter (λ p. is_under hash p.1) (enumerate_from n (entries_in pairs hashes)))

  -- the first key under the hash, and those behind it, if the hash is found
  jump-Some : (hashes : List ℕ) (pairs : List (K × V)) (n s m : ℕ) (d : K × V) → length hashes ≡ length pairs → position (λ h. h == hash.0) hashes ≡ Some s → m ≡ n + s
      → keys_from n pairs hashes ≡ (m, (get_or pairs s d).0) ∷ keys_from (m + 1) (drop (suc s) pairs) (drop (suc s) hashes)
  jump-Some [] pairs n s m d same e at = absurd (none-some s e)
  jump-Some (h ∷ hashes) [] n s m d same e at = absurd (omega arith)
  jump-Some (h ∷ hashes) (p ∷ pairs) n zero m d same e at = grind (arith, position-cons (λ x. x == hash.0) h hashes)
  jump-Some (h ∷ hashes) (p ∷ pairs) n (suc s) m d same e at = grind (arith, position-cons (λ x. x == hash.0) h hashes, jump-Some hashes pairs (n + 1) s m d)

  jump-None : (hashes : List ℕ) (pairs : List (K × V)) (n : ℕ) → position (λ h. h == hash.0) hashes ≡ None → keys_from n pairs hashes ≡ []
  jump-None hashes [] n e = refl
  jump-None [] (p ∷ pairs) n e = refl
  jump-None (h ∷ hashes) (p ∷ pairs) n e = grind (arith, position-cons (λ x. x == hash.0) h hashes, jump-None hashes pairs (n + 1))

  -- the next key under the hash from i on, and those behind it, if there is one
  next-Some : (pairs : List (K × V)) (hashes : List ℕ) (i index : ℕ) (o : Option ℕ) (pair : K × V) → length hashes ≡ length pairs → position (λ h. h == hash.0) (drop i hashes) ≡ o → option_map (λ s. i + s) o ≡ Some index
      → pair ≡ get_or pairs index pair → keys_from i (drop i pairs) (drop i hashes) ≡ (index, pair.0) ∷ keys_from (index + 1) (drop (index + 1) pairs) (drop (index + 1) hashes)
  next-Some pairs hashes i index None pair same is found at = absurd (none-some index found)
  next-Some pairs hashes i index (Some s) pair same is found at =
      let sum : i + s ≡ index = cc in let behind : i + suc s ≡ index + 1 = omega arith in
      let tails : length (drop i hashes) ≡ length (drop i pairs) = omega (arith, length-drop i hashes, length-drop i pairs) in
      rw (jump-Some (drop i hashes) (drop i pairs) i s index pair tails is (sym sum), drop-drop (suc s) i pairs, drop-drop (suc s) i hashes, behind) (grind (arith, get_or-drop i pairs s pair))

  module _ {F : Type 0} (g : Mut F (Bor K × Unit {0}) Bool) (pairs : List (K × V)) (hashes : List ℕ) (first f : F) (i : ℕ) where
    abbrev left : List (ℕ × K)
    left = keys_from i (drop i pairs) (drop i hashes)

    -- the closure `first` refused the keys under the hash before i, and is f now
    pub record Reached : Type 0 where
      pub within : i ≤ length hashes
      pub lengths : length hashes ≡ length pairs
      pub callable : CanSearch g left f
      pub rest : (answer : Option ℕ) (last : F) → Asks g f left answer last → Asks g first (keys_under hash (entries_in pairs hashes)) answer last

module _ {F K V : Type 0} {g : Mut F (Bor K × Unit {0}) Bool} {hash : StarlarkHashValue} {pairs : List (K × V)} {hashes : List ℕ} {first f : F} {i : ℕ} (s : Reached hash g pairs hashes first f i) where
  -- the closure is called with the key of the pair at the next index
  module _ {index : ℕ} {pair : K × V} (found : option_map (λ s. i + s) (position (λ h. h == hash.0) (drop i hashes)) ≡ Some index) (at : pair ≡ get_or pairs index pair)
      (shown : Bor K) (shows : shown.now ≡ (get_or pairs index pair).0) where
    abbrev later : List (ℕ × K)
    later = keys_from hash (index + 1) (drop (index + 1) pairs) (drop (index + 1) hashes)

    next : left hash g pairs hashes first f i ≡ (index, pair.0) ∷ later
    next = next-Some hash pairs hashes i index (position (λ h. h == hash.0) (drop i hashes)) pair s.lengths refl found at

    its_key : shown.now ≡ pair.0
    its_key = shows ∙ sym (ap (λ p. p.0) at)

    called : (after : F) (r told : Bool) → r ≡ told → Called g f (shown, tt) r after → CalledAt g f pair.0 told after
    called after r told is call = record { shown = shown; shows = its_key; called = rw is at call }

    pub index_asked : Takes g f (shown, tt)
    index_asked = (rw next at s.callable).at [] (index, pair.0) later f (IsPermutation-refl ((index, pair.0) ∷ later)) refl shown its_key

    pub index_accepted : (last : F) (r : Bool) → r ≡ true → Called g f (shown, tt) r last → Asks g first (keys_under hash (entries_in pairs hashes)) (Some index) last
    index_accepted last r is call = s.rest (Some index) last (rw next (true, last, called last r true is call, (refl, refl)))

    pub index_refused : (after : F) (r : Bool) → r ≡ false → Called g f (shown, tt) r after → index < length hashes → Reached hash g pairs hashes first after (index + 1)
    index_refused after r is call below =
        let refused = called after r false is call in let asked = rw next at s.callable in record {
          within = omega arith;
          lengths = s.lengths;
          callable = record { at = λ before q behind end moves refuses. asked.at ((index, pair.0) ∷ before) q behind end (IsPermutation-cons (index, pair.0) later (before ++ q ∷ behind) moves) (after, refused, refuses) };
          rest = λ answer last asks. s.rest answer last (rw next (false, after, refused, asks));
        }

  -- the search ends without an index if there is no next match
  pub none_left : option_map (λ s. i + s) (position (λ h. h == hash.0) (drop i hashes)) ≡ None → Asks g first (keys_under hash (entries_in pairs hashes)) None f
  none_left none = s.rest None f (rw (jump-None hash (drop i hashes) (drop i pairs) i (grind arith)) (refl, refl))
