-- The clauses of a map, in the definitions that callers use.
use Rattle.starlark_hash.proofs.Common.{◌≡◌, ℕ, suc, ◌≤◌, ◌+◌, Bool, true, cond, List, [], ◌∷◌, Option, Some, None, is_some, length, map, option_map, refl, sym, ap, ◌∙◌, arith, count_by, IsEquivalence, Contains, lookup, set_value, values_of, IsKeyTest, IsPermutation, HashWrites, IsPermutation-map, if◌then◌else◌, Contains-permutation, IsPermutation-sym, length_permutation, sum_by-IsPermutation, common_steps, take, drop, drop-cons, place_from_lookup, slice_get_within, get_or_from_slice_get, take-append-drop, IsPermutation-refl}
use Rattle.std.specs.List.{IsAmong}
use Rattle.std.proofs.lemmas.Map.{length-set_value, lookup-set_value}
use Rattle.std.proofs.lemmas.Map.Made.{Contains-values_of, lookup-map_values}
use Rattle.starlark_table.specs.Table.{Table, members, GrowsAsNeeded}
use Rattle.starlark_table.proofs.TableLemmas.{grows-alike, grows-not}
use Rattle.starlark_unordered.specs.Pairs.{pairs_of, with_pair, with_value, HasDistinctKeys, IsPairAt, IsWithout}
use Rattle.starlark_unordered.specs.Insert.{AddsPair}
use Rattle.starlark_unordered.specs.Remove.{TakesSlot}
use Rattle.starlark_unordered.proofs.Keys.{distinct_pairs, table_len_written}
use Rattle.starlark_unordered.specs.Sound.{IsKeyed, keyed}
use Rattle.starlark_unordered.proofs.Lists.{count-alike, lookup-only, none_counted, nothing}
use Rattle.starlark_unordered.specs.Lookup.{contains, found, get, total_of, Trades, Updates, Writes}
use Rattle.starlark_hash.specs.Lookup.{weight_of}
use Rattle.std.proofs.lemmas.Map.Entries.{sum_by_values_permutation, sum_by-remove_entry, sum_by-set_value}

module _ {K V : Type 0} (measure : V → ℕ) where
  -- one pair more adds its weight to the total
  pub total-more : (p : K × V) (ps qs : List (K × V)) → IsPermutation (p ∷ ps) qs → total_of measure qs ≡ total_of measure ps + measure p.1
  total-more p ps qs moves = grind (arith, common_steps, sum_by_values_permutation measure (p ∷ ps) qs moves)

  module _ (t : K → Bool) where
    -- the value that is found weighs at most what all values weigh together
    pub part-found : (ps : List (K × V)) → weight_of measure (found t ps) ≤ total_of measure ps
    unfolding found
    part-found ps = omega (arith, sum_by-remove_entry measure t ps)

module _ {K V : Type 0} (t : K → Bool) where
  -- the weight of a written value replaces that of the value before
  pub trades-slot : (m : Table (K × V)) (slot : ℕ) → IsPairAt t m slot → (w : V) → Trades m (with_value m slot w) (found t (pairs_of m)) (Some w)
  unfolding found
  trades-slot m slot at w measure = rw (at.writes w, at.found) (sum_by-set_value measure t (pairs_of m) at.value w at.found)

  -- a value that is found belongs to a pair whose key passes
  pub at_some : (es : List (K × V)) (v : V) → found t es ≡ Some v → (k : K) × (t k ≡ true) × Contains es (k, v)
  unfolding found
  at_some es v h = let (i, k, at, does) = place_from_lookup t es v h in (k, does, (i, slice_get_within es i (k, v) at, get_or_from_slice_get es i (k, v) (k, v) at))

  -- a value that is found is among the values
  pub among_found : (es : List (K × V)) (v : V) → found t es ≡ Some v → IsAmong (values_of es) v
  among_found es v h =
      let (k, does, there) = at_some es v h in
      let (i, below, is) = Contains-values_of es k v there in (i, (below, sym is))

  -- if at most one key passes, the value of its pair is found
  pub only : (es : List (K × V)) (k : K) (v : V) → t k ≡ true → count_by (λ p. t p.0) es ≤ 1 → Contains es (k, v) → found t es ≡ Some v
  unfolding found
  only es k v does once (n, below, is) =
      grind (arith, lookup-only t (take n es) (k, v) (drop (suc n) es) does, take-append-drop n es, drop-cons es n (k, v) below, is, once)

  pub same_found : (es fs : List (K × V)) → IsPermutation es fs → count_by (λ p. t p.0) fs ≤ 1 → found t fs ≡ found t es
  same_found es fs moves once = step (found t es) refl
    where
      step : (o : Option V) → found t es ≡ o → found t fs ≡ o
      step None at = nothing t fs (omega (arith, none_counted t es at, sum_by-IsPermutation (λ (p : K × V). cond (t p.0) 1 0) es fs moves))
      step (Some v) at = let r = at_some es v at in only fs r.0 v r.1 once (Contains-permutation es fs (r.0, v) moves r.2)

-- new is old except that the key has this value
pub record Put {K V : Type 0} (eq : K → K → Bool) (old new : Table (K × V)) (key : K) (value : V) : Type 0 where
  pub updates : Updates eq old new key (Some value)
  pub pairs : IsPermutation (with_pair eq key value (pairs_of old)) (pairs_of new)
  pub count : length (pairs_of new) ≡ length (pairs_of old) + (if contains eq old key then 0 else 1)
  pub total : Trades old new (get eq old key) (Some value)
  pub memory : GrowsAsNeeded old new

module _ {K V : Type 0} (eq : K → K → Bool) (laws : IsEquivalence eq) where
  -- what is found after an insertion, in whatever order the pairs are
  pub found-inserted : (key : K) (value : V) (old new : List (K × V)) → IsPermutation (with_pair eq key value old) new → HasDistinctKeys eq new → (q : K) → found (eq q) new ≡ (if eq key q then Some value else found (eq q) old)
  unfolding found
  found-inserted key value old new moves distinct q =
      same_found (eq q) (with_pair eq key value old) new moves (distinct q) ∙ grind (arith, lookup-set_value laws (eq key) (λ x y. laws.congr key x y) q value old, laws.symm q key)

  -- a new member adds its pair, stored under its hash
  pub adds_pair : (feeds : K → HashWrites) (h : ℕ) (old new : Table (K × V)) (key : K) (value : V) → IsPermutation ((h, (key, value)) ∷ members old) (members new) → found (eq key) (pairs_of old) ≡ None
      → IsKeyed eq feeds (keyed (members new)) → AddsPair eq old new key value
  adds_pair feeds h old new key value added lacks keys =
      let distinct = distinct_pairs eq feeds (members new) keys in
      let moves = IsPermutation-map (λ m. m.1) ((h, (key, value)) ∷ members old) (members new) added in
      let at = found-inserted key value (pairs_of old) (pairs_of new) (rw lacks moves) distinct in
      let longer = length_permutation ((key, value) ∷ pairs_of old) (pairs_of new) moves in
      let total = λ (measure : V → ℕ). total-more measure (key, value) (pairs_of old) (pairs_of new) moves in
      grind (arith, moves, at, laws.refl key, longer, total)

  module _ (t : K → Bool) (one : IsKeyTest eq t) where
    -- the pair was removed from its slot
    pub record Removed (old new : Table (K × V)) (value : V) : Type 0 where
      pub was : found t (pairs_of old) ≡ Some value
      pub updates : Writes eq t old new None
      pub count : length (pairs_of old) ≡ length (pairs_of new) + 1
      pub total : Trades old new (Some value) None
      pub pairs : IsWithout t value (pairs_of old) (pairs_of new)

    pub removes_at : (old new : Table (K × V)) (slot : ℕ) (p : K × V) → IsPairAt t old slot → TakesSlot eq old new slot p → Removed old new p.1
    unfolding found
    removes_at old new slot p at takes =
        let does : t p.0 ≡ true = cc (at.at, at.passes, takes.pair) in
        let value : Some p.1 ≡ lookup t (pairs_of old) = cc (at.at, at.found, takes.pair) in
        let back = IsPermutation-sym (pairs_of old) (p ∷ pairs_of new) takes.rest in
        let same = sum_by-IsPermutation (λ (q : K × V). cond (eq p.0 q.0) 1 0) (pairs_of old) (p ∷ pairs_of new) takes.rest in
        let gone = nothing t (pairs_of new) (grind (arith, common_steps, count-alike eq t one p.0 does (pairs_of new), takes.distinct p.0, same, laws.refl p.0)) in
        let finds = λ (q : K). same_found (eq q) (p ∷ pairs_of new) (pairs_of old) back (takes.distinct q) in
        let longer = length_permutation (pairs_of old) (p ∷ pairs_of new) takes.rest in
        let total = λ (measure : V → ℕ). total-more measure p (pairs_of new) (pairs_of old) back in
        let rest : IsWithout t p.1 (pairs_of old) (pairs_of new) = (p.0, does, takes.rest) in
        grind (arith, value, gone, finds, laws.symm, one p.0, does, longer, total, rest)

    -- writing the value in the slot of a key is writing the value at the key
    pub writes-slot : (m : Table (K × V)) (slot : ℕ) → IsPairAt t m slot → (w : V) → Writes eq t m (with_value m slot w) (Some w)
    unfolding found
    writes-slot m slot at w =
        let written = λ (q : K). lookup-set_value laws t one q w (pairs_of m) (ap is_some at.found) in
        rw (at.writes w) ((λ i. lookup (λ k. one at.key k at.passes i) (set_value t (pairs_of m) w)) ∙ rw at.passes at (written at.key), λ other not. rw not at (written other))

  -- the value replaces the one at a key that is there
  pub puts_at : (m : Table (K × V)) (slot : ℕ) (key : K) (value : V) → IsPairAt (eq key) m slot → Put eq m (with_value m slot value) key value
  puts_at m slot key value at =
      let there : is_some (found (eq key) (pairs_of m)) ≡ true = ap is_some at.found in
      record {
        updates = writes-slot (eq key) (λ x y does. laws.congr key x y does) m slot at value;
        pairs = rw (there, at.writes value) (IsPermutation-refl (set_value (eq key) (pairs_of m) value));
        count = grind (arith, there, at.writes value, length-set_value (eq key) (pairs_of m) value);
        total = trades-slot (eq key) m slot at value;
        memory = grows-alike m m (with_value m slot value) (table_len_written (eq key) m slot value at) refl (grows-not m m refl);
      }

-- what is found after all values were changed
pub found-map_values : {K V W : Type 0} (change : V → W) (test : K → Bool) (ps : List (K × V)) → found test (map (λ p. (p.0, change p.1)) ps) ≡ option_map change (found test ps)
unfolding found
found-map_values change test ps = lookup-map_values change test ps

-- what is found is what the standard library's `lookup` finds
pub found-lookup : {K V : Type 0} (test : K → Bool) (ps : List (K × V)) → found test ps ≡ lookup test ps
unfolding found
found-lookup test ps = refl

-- a map without pairs has no value at any key
pub nothing_found : {K V : Type 0} (ps : List (K × V)) → ps ≡ [] → (test : K → Bool) → found test ps ≡ None
unfolding found
nothing_found ps none test = ap (lookup test) none

pub ruleset callers = (nothing_found, found-lookup)
