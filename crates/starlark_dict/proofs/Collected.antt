-- What a list of pairs becomes once items are inserted in turn, and what clones of entries are to the pairs.
use Rattle.starlark_hash.proofs.Common.{◌≡◌, ◌+◌, ◌≤◌, ◌∙◌, AllZip, Bool, Drains, Err, HashWrites, IsEquivalence, IsTrue, List, MatchResult, Ok, OnOk, Option, Result, Some, Yields, [], ◌++◌, ◌∷◌, ap, arith, cond, false, is_some, length, map, refl, true, update_all}
use Rattle.std.specs.Iterator.Runs.{WholeRun}
use Rattle.std.specs.Map.{lookup, update}
use Rattle.starlark_hash.specs.Clone.{IsEntryClone}
use Rattle.starlark_hash.specs.Entries.{Entry, pair_of}
use Rattle.starlark_hash.specs.Insert as list
use Rattle.starlark_small.specs.Collect as small
use Rattle.starlark_small.specs.Collect.{own_entry, InsertsItems}
use Rattle.starlark_small.specs.Lookup.{AreOwnEntries}
use Rattle.starlark_small.specs.Map.{own_hashed}
use Rattle.starlark_small.proofs.CallerCollect.{run_of}
use Rattle.starlark_small.proofs.CallerOwn.{own-inserted}
use Rattle.starlark_dict.specs.Dict.{insert_all, insert_entry}
use Rattle.starlark_dict.proofs.Changes.{length-insert_entry, updated-inserted}
use Rattle.starlark_dict.proofs.OwnPairs.{pairs-inserted}

module _ {K V : Type 0} (eq : K → K → Bool) where
  update_all_same : (f h : K → Option V) (xs : List (K × V)) (q : K) → ((x : K) → f x ≡ h x) → update_all eq f xs q ≡ update_all eq h xs q
  update_all_same f h [] q same = same q
  update_all_same f h (p ∷ ps) q same = update_all_same (update eq f p.0 (Some p.1)) (update eq h p.0 (Some p.1)) ps q (λ x. ap (cond (eq p.0 x) (Some p.1)) (same x))

  -- by look-ups
  pub found-insert_all : IsEquivalence eq → (es xs : List (K × V)) (q : K) → lookup (eq q) (insert_all eq es xs) ≡ update_all eq (λ k. lookup (eq k) es) xs q
  found-insert_all laws es [] q = refl
  found-insert_all laws es (x ∷ xs) q =
      let one = insert_entry eq es x.0 x.1 in
      found-insert_all laws one xs q ∙ update_all_same (λ k. lookup (eq k) one) (update eq (λ k. lookup (eq k) es) x.0 (Some x.1)) xs q (updated-inserted eq x.0 x.1 laws es one refl).0

  -- how many
  pub length-insert_all : (es xs : List (K × V)) → (length es ≤ length (insert_all eq es xs)) × (length (insert_all eq es xs) ≤ length es + length xs)
  length-insert_all es [] = (omega arith, omega arith)
  length-insert_all es (x ∷ xs) =
      let rest = length-insert_all (insert_entry eq es x.0 x.1) xs in
      let one = length-within es x in
      (omega (arith, one.0, rest.0), omega (arith, one.1, rest.1))
    where
      length-within : (es : List (K × V)) (x : K × V) → (length es ≤ length (insert_entry eq es x.0 x.1)) × (length (insert_entry eq es x.0 x.1) ≤ length es + 1)
      length-within es x = elim (is_some (lookup (eq x.0) es)) as (λ b. length (insert_entry eq es x.0 x.1) ≡ length es + (cond b 0 1) → (length es ≤ length (insert_entry eq es x.0 x.1)) × (length (insert_entry eq es x.0 x.1) ≤ length es + 1)) [
        | true ↦ λ is. (omega (arith, is), omega (arith, is))
        | false ↦ λ is. (omega (arith, is), omega (arith, is))
      ] (length-insert_entry eq x.0 x.1 es)

module _ {K V : Type 0} (eq : K → K → Bool) (feeds : K → HashWrites) (alike : (x y : K) → IsTrue (eq x y) → feeds x ≡ feeds y) where
  -- insertions into the small map inside are those of the pairs
  pub pairs-inserted_all : (es : List (Entry K V)) (xs : List (K × V)) → AreOwnEntries feeds es → map pair_of (small.insert_all eq es (map (own_entry feeds) xs)) ≡ insert_all eq (map pair_of es) xs
  pairs-inserted_all es [] own = refl
  pairs-inserted_all es (x ∷ xs) own =
      let one = list.insert_entry eq es (own_hashed feeds x.0) x.1 in
      pairs-inserted_all one xs (own-inserted feeds eq es one (own_hashed feeds x.0) x.1 refl refl own) ∙ ap (λ ps. insert_all eq ps xs) (pairs-inserted eq feeds alike x.0 x.1 es own)

module _ {T A : Type 0} (steps : T → Option A → T → Type 0) where
  -- calls that gave one item more gave those before it
  yields-front : (s t : T) (xs : List A) (y : A) → Yields steps s (xs ++ y ∷ []) t → (j : T) × Yields steps s xs j
  yields-front s t [] y gave = (s, refl)
  yields-front s t (x ∷ xs) y gave = let rest = yields-front gave.0 t xs y gave.2 in (rest.0, (gave.0, gave.1, rest.1))

  pub ended-items : {K V E : Type 0} (eq : K → K → Bool) (item : A → Entry K V) (it : T) (old new : List (Entry K V)) (r : Result (Unit {0}) E) (put : InsertsItems eq item steps it old new r)
      → MatchResult r (λ _. Drains steps it put.items) (λ _. (t : T) × Yields steps it put.items t)
  ended-items eq item it old new (Ok a) put = put.ended
  ended-items eq item it old new (Err e) put = yields-front it put.ended.rest put.items put.ended.next put.ended.gave

-- where all items were taken in, what holds of them holds of a whole run
pub taken-in : {A T U E : Type 0} (steps : T → Option A → T → Type 0) (becomes : U → T → Type 0) (iter : U) (P : List A → Type 0) (r : Result (Unit {0}) E) (it : T) → becomes iter it → (xs : List A)
    → MatchResult r (λ _. Drains steps it xs) (λ _. (t : T) × Yields steps it xs t) → P xs → OnOk r ((it : T) × becomes iter it × WholeRun steps it (λ p. P p.items))
taken-in steps becomes iter P (Ok a) it made xs ended holds = (it, made, run_of steps it xs P ended holds)
taken-in steps becomes iter P (Err e) it made xs ended holds = tt

-- clones
pub clones-pairs : {K V : Type 0} (key : K → K → Type 0) (value : V → V → Type 0) (es fs : List (Entry K V)) → AllZip (IsEntryClone key value) es fs → AllZip (λ p q. key p.0 q.0 × value p.1 q.1) (map pair_of es) (map pair_of fs)
clones-pairs key value [] [] all = all
clones-pairs key value [] (f ∷ fs) all = absurd all
clones-pairs key value (e ∷ es) [] all = absurd all
clones-pairs key value (e ∷ es) (f ∷ fs) all = ((all.0.1, all.0.2), clones-pairs key value es fs all.1)
