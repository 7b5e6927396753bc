-- Pairs that are inserted one after the other.
use Rattle.starlark_hash.proofs.Common.{◌≡◌, ℕ, ◌+◌, ◌≤◌, Bool, max, length, List, [], ◌∷◌, ◌++◌, Option, None, refl, sym, subst, ap, ◌∙◌, arith, count_by, IsPermutation, IsEquivalence, Drains, if◌then◌else◌, set_value, update_all, length-map, common_steps}
use Rattle.std.proofs.iter.SoFar.{exit_by}
use Rattle.std.specs.Iterator.Runs.{WholeRun}
use Rattle.starlark_table.specs.Growth.{most_for}
use Rattle.starlark_table.specs.Table.{Table, members, table_len, GrowsAsNeeded}
use Rattle.starlark_table.proofs.TableLemmas.{grows-on}
use Rattle.starlark_unordered.specs.Lookup.{contains, found}
use Rattle.starlark_unordered.specs.Collect.{InsertsAll}
use Rattle.starlark_unordered.specs.Pairs.{pairs_of, with_pair, HasDistinctKeys}
use Rattle.starlark_unordered.proofs.Callers.{found-inserted}
use Rattle.starlark_unordered.proofs.Lists.{distinct-cons}
use Rattle.starlark_unordered.proofs.PairMoves.{distinct-permutation}

-- inserting the first pair and then the others is inserting them all
inserts_more : {K V : Type 0} (eq : K → K → Bool) (ps : List (K × V)) (p : K × V) (old mid new : List (K × V)) → InsertsAll eq old ps mid → IsPermutation (with_pair eq p.0 p.1 mid) new
    → InsertsAll eq old (ps ++ p ∷ []) new
inserts_more eq [] p old mid new same put = (new, subst (λ l. IsPermutation (with_pair eq p.0 p.1 l) new) same put, refl)
inserts_more eq (q ∷ ps) p old mid new (next, first, rest) put = (next, first, inserts_more eq ps p next mid new rest put)

-- one insertion is a step of the loop that inserts all pairs
pub takes_more : {K V : Type 0} (eq : K → K → Bool) (ps : List (K × V)) (p : K × V) (old mid new : Table (K × V)) → InsertsAll eq (pairs_of old) ps (pairs_of mid) × GrowsAsNeeded old mid
    → IsPermutation (with_pair eq p.0 p.1 (pairs_of mid)) (pairs_of new) → length (pairs_of new) ≡ length (pairs_of mid) + (if contains eq mid p.0 then 0 else 1) → GrowsAsNeeded mid new
    → InsertsAll eq (pairs_of old) (ps ++ p ∷ []) (pairs_of new) × GrowsAsNeeded old new
takes_more eq ps p old mid new (all, grows) pairs count memory =
    let longer : table_len mid ≤ table_len new = grind (arith, count, length-map (members new) (λ m. m.1), length-map (members mid) (λ m. m.1)) in
    (inserts_more eq ps p (pairs_of old) (pairs_of mid) (pairs_of new) all pairs, grows-on old mid new longer grows memory)

-- writing a value changes no key
count-set_value : {K V : Type 0} (t u : K → Bool) (w : V) (ps : List (K × V)) → count_by (λ p. t p.0) (set_value u ps w) ≡ count_by (λ p. t p.0) ps
count-set_value t u w [] = refl
count-set_value t u w (p ∷ ps) = grind (arith, common_steps, count-set_value t u w ps)

module _ {K V : Type 0} (eq : K → K → Bool) (laws : IsEquivalence eq) where
  -- after an insertion no two keys are equal
  distinct-put : (key : K) (value : V) (ps : List (K × V)) → HasDistinctKeys eq ps → HasDistinctKeys eq (with_pair eq key value ps)
  unfolding found
  distinct-put key value ps distinct k = grind (arith, common_steps, distinct k, count-set_value (eq k) (eq key) value ps, distinct-cons eq laws key value ps)

  -- each key has the last of its values among the inserted pairs, or what it had before
  found-all : (ps old new : List (K × V)) → HasDistinctKeys eq old → InsertsAll eq old ps new → (q : K) → found (eq q) new ≡ update_all eq (λ k. found (eq k) old) ps q
  found-all [] old new distinct is q = ap (found (eq q)) is
  found-all (p ∷ ps) old new distinct (next, moves, rest) q =
      let apart = distinct-permutation eq (with_pair eq p.0 p.1 old) next moves (distinct-put p.0 p.1 old distinct) in
      found-all ps next new apart rest q ∙ (λ i. update_all eq (λ k. found-inserted eq laws p.0 p.1 old next moves apart k i) ps q)

  -- a collected map has the last value for each key
  pub found-collected : (ps : List (K × V)) (new : List (K × V)) → InsertsAll eq [] ps new → (q : K) → found (eq q) new ≡ update_all eq (λ _. None) ps q
  unfolding found
  found-collected ps new put q = found-all ps [] new (λ k. omega arith) put q

-- the run of an iterator that returned these items and ended
pub run_of : {T A : Type 0} (steps : T → Option A → T → Type 0) (it : T) (xs : List A) (P : List A → Type 0) → Drains steps it xs → P xs → WholeRun steps it (λ p. P p.items)
run_of steps it xs P drained holds =
    let run = exit_by steps (xs, drained.1.1) drained.0 drained.1.2 in
    (run.0, run.1, run.2, subst P (sym run.3.0) holds)

-- a map that began without pairs and with some room has at most that room, or what its pairs make it grow to
pub most-collected : {K V : Type 0} (made new : Table (K × V)) (first : ℕ) → pairs_of made ≡ [] → made.room ≤ most_for first
    → GrowsAsNeeded made new → table_len new + new.room ≤ most_for (max first (table_len new))
most-collected made new first none most grows = grind (arith, length-map (members made) (λ m. m.1), ap length none, grows.stays, grows.most)
