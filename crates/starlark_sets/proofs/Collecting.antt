-- The runs of an iterator that gives each item beside `()` are runs of the one inside.
use Rattle.starlark_hash.proofs.Common.{◌≡◌, ◌≤◌, ◌+◌, ℕ, arith, common_steps, length, length-map, option_map_or, Bool, true, false, List, [], ◌∷◌, ◌++◌, map, Option, Result, Ok, Err, OnOk, is_some, refl, sym, ap, subst, ◌∙◌, ◌||◌, IsEquivalence, HashWrites, Drains, Yields, is_member, map-append, map-id, is_some-update_all}
use Rattle.std.specs.Iterator.{Count}
use Rattle.std.specs.Iterator.Runs.{WholeRun}
use Rattle.std.proofs.lemmas.Simd.{map-map}
use Rattle.starlark_hash.specs.Hasher.{own_hash}
use Rattle.starlark_hash.specs.Entries.{Entry, match_of, set_value_at}
use Rattle.starlark_hash.specs.Insert.{insert_entry}
use Rattle.starlark_hash.specs.declared.hashed.Hashed.{Hashed}
use Rattle.starlark_hash.proofs.EntryLemmas.{length-set_value_at}
use Rattle.starlark_hash.specs.Lookup.{found}
use Rattle.starlark_small.specs.Lookup.{contains}
use Rattle.starlark_small.specs.Collect.{Collects, Extends, InsertsItems, IsExtended, insert_all, own_entry}
use Rattle.starlark_small.specs.Map.{Map}
use Rattle.starlark_small.proofs.CallerCollect.{looked_all, run_of}
use Rattle.starlark_small.proofs.CallerLookup.{empty-found as none_found}
use Rattle.starlark_sets.specs.Collect.{HasEach, own_element}
use Rattle.starlark_hash.specs.Unit.{StepsBeside}
use Rattle.starlark_sets.specs.Set.{Elements, Set}

-- the items alone, and the entry of an item beside `()`
abbrev alone : {A : Type 0} → List (A × Unit {0}) → List A
alone xs = map (λ p. p.0) xs

abbrev beside : {A T : Type 0} → (A → Entry T (Unit {0})) → A × Unit {0} → Entry T (Unit {0})
beside entry p = ((entry p.0).0, p.1)

module _ {S A : Type 0} (steps : S → Option A → S → Type 0) where
  yields_alone : (s t : S) (xs : List (A × Unit {0})) → Yields (StepsBeside steps) s xs t → Yields steps s (alone xs) t
  yields_alone s t [] gave = gave
  yields_alone s t (x ∷ xs) (j, step, rest) = (j, step, yields_alone j t xs rest)

  drains_alone : (s : S) (xs : List (A × Unit {0})) → Drains (StepsBeside steps) s xs → Drains steps s (alone xs)
  drains_alone s xs (u, (t, gave, end)) = (u, (t, yields_alone s t xs gave, end))

entries_alone : {A T : Type 0} (entry : A → Entry T (Unit {0})) (xs : List (A × Unit {0})) → map (beside entry) xs ≡ map entry (alone xs)
entries_alone entry xs = sym (map-map entry (λ p. p.0) xs)

module _ {S A T : Type 0} {steps : S → Option A → S → Type 0} {eq : T → T → Bool} {entry : A → Entry T (Unit {0})} where
  inserts_alone : {E : Type 0} (it : S) (old new : Elements T) (r : Result (Unit {0}) E)
      → InsertsItems eq (beside entry) (StepsBeside steps) it old new r → InsertsItems eq entry steps it old new r
  inserts_alone it old new (Ok a) put = record { items = alone put.items; entries = put.entries ∙ ap (insert_all eq old) (entries_alone entry put.items); ended = drains_alone steps it put.items put.ended }
  inserts_alone it old new (Err e) put =
      let gave = rw map-append at (yields_alone steps it put.ended.rest (put.items ++ put.ended.next ∷ []) put.ended.gave) in
      record { items = alone put.items; entries = put.entries ∙ ap (insert_all eq old) (entries_alone entry put.items); ended = record { next = put.ended.next.0; rest = put.ended.rest; gave = gave; absent = put.ended.absent } }

  pub collects_alone : {U : Type 0} {becomes : U → S → Type 0} {remaining : S → Count} {iter : U} (it : S) {set : Set T}
      → becomes iter it → Collects eq (beside entry) (StepsBeside steps) (λ s t. t ≡ s) remaining it set → Collects eq entry steps becomes remaining iter set
  collects_alone {becomes = becomes} {iter = iter} it is put =
      let made = subst (becomes iter) (sym put.made) is in let drained = drains_alone steps put.it put.items put.drained in let entries = put.entries ∙ ap (insert_all eq []) (entries_alone entry put.items) in
      record { it = put.it; made = made; first = put.first; bounded = put.bounded; items = alone put.items; drained = drained; entries = entries; room = put.room; capacity = put.capacity; indexed = put.indexed }

  pub extends_alone : {U E : Type 0} {becomes : U → S → Type 0} {iter : U} (it : S) {old new : Elements T} {r : Result (Unit {0}) E}
      → becomes iter it → Extends eq (beside entry) (StepsBeside steps) (λ s t. t ≡ s) it old new r → Extends eq entry steps becomes iter old new r
  extends_alone {becomes = becomes} {iter = iter} it {old} {new} {r} made put = record { it = put.it; made = subst (becomes iter) (sym put.made) made; inserts = inserts_alone put.it old new r put.inserts }

-- `IsExtended` holds under a stronger condition
pub extended_where : {K V A E : Type 0} (fits said : Type 0) (old new : Map K V) (r : Result A E) → (said → fits) → IsExtended fits old new r → IsExtended said old new r
extended_where fits said old new r on is = assumption (λ (s : said). is.succeeds (on s), λ (s : said). is.spare (on s))

-- what holds of each list of items that makes the set holds of the iterator's items
module _ {T A S U : Type 0} {eq : T → T → Bool} {entry : A → Entry T (Unit {0})} {steps : S → Option A → S → Type 0} {becomes : U → S → Type 0} {iter : U} {remaining : S → Count} (set : Set T) where
  pub collected : Collects eq entry steps becomes remaining iter set → (P : List A → Type 0) → ((xs : List A) → set.entries ≡ insert_all eq [] (map entry xs) → P xs)
      → (it : S) × becomes iter it × WholeRun steps it (λ p. P p.items)
  collected has P holds = (has.it, has.made, run_of steps has.it has.items P has.drained (holds has.items has.entries))

-- each item that is inserted adds at most one entry
module _ {K V : Type 0} (eq : K → K → Bool) where
  one_more_at_most : (es : List (Entry K V)) (key : Hashed K) (value : V) (o : Option ℕ) → length (option_map_or (λ i. set_value_at es i value) o (es ++ (key, value) ∷ [])) ≤ length es + 1
  one_more_at_most es key value o = grind (arith, common_steps, length-set_value_at es)

  length-insert_all : (xs es : List (Entry K V)) → length (insert_all eq es xs) ≤ length es + length xs
  length-insert_all [] es = omega arith
  length-insert_all (x ∷ xs) es = omega (arith, one_more_at_most es x.0 x.1 (match_of eq es x.0), length-insert_all xs (insert_entry eq es x.0 x.1))

  pub length-collected : {A : Type 0} (item : A → Entry K V) (xs : List A) (es : List (Entry K V)) → es ≡ insert_all eq [] (map item xs) → length es ≤ length xs
  length-collected item xs es is = omega (arith, ap length is, length-insert_all (map item xs) [], length-map xs item)

-- what look-ups find once an iterator's items were inserted
module _ {T : Type 0} {eq : T → T → Bool} (laws : IsEquivalence eq) (feeds : T → HashWrites) (alike : (x y : T) → eq x y ≡ true → feeds x ≡ feeds y) where
  has_all : (xs : List T) (es : Elements T) (element : T)
      → is_some (found (eq element) (own_hash feeds element) (insert_all eq es (map (own_element feeds) xs))) ≡ (is_some (found (eq element) (own_hash feeds element) es) || is_member eq xs element)
  has_all xs es element =
      let paired : T → T × Unit {0} = λ x. (x, tt) in
      ap (λ l. is_some (found (eq element) (own_hash feeds element) (insert_all eq es l))) (sym (map-map (own_entry feeds) paired xs))
      ∙ ap is_some (looked_all eq laws feeds alike (map paired xs) es element)
      ∙ is_some-update_all laws element (λ k. found (eq k) (own_hash feeds k) es) (map paired xs)
      ∙ ap (λ l. is_some (found (eq element) (own_hash feeds element) es) || is_member eq l element) (map-map (λ (p : T × Unit {0}). p.0) paired xs ∙ map-id xs)

  module _ {S U : Type 0} {steps : S → Option T → S → Type 0} {becomes : U → S → Type 0} {iter : U} where
    pub has_extended : {E : Type 0} (r : Result (Unit {0}) E) (old new : Set T) → Extends eq (own_element feeds) steps becomes iter old.entries new.entries r
        → OnOk r (HasEach eq feeds steps becomes iter (contains eq feeds old) new)
    has_extended (Ok a) old new went =
        let all = went.inserts in let holds = λ (element : T). ap (λ l. is_some (found (eq element) (own_hash feeds element) l)) all.entries ∙ has_all all.items old.entries element in
        (went.it, went.made, run_of steps went.it all.items (λ xs. (element : T) → contains eq feeds new element ≡ (contains eq feeds old element || is_member eq xs element)) all.ended holds)
    has_extended (Err e) old new went = tt

    pub has_collected : {remaining : S → Count} (set : Set T) → Collects eq (own_element feeds) steps becomes remaining iter set → HasEach eq feeds steps becomes iter (λ _. false) set
    has_collected set has =
        collected set has (λ xs. (element : T) → contains eq feeds set element ≡ is_member eq xs element)
        (λ xs is element. ap (λ l. is_some (found (eq element) (own_hash feeds element) l)) is ∙ has_all xs [] element
        ∙ ap (λ o. is_some o || is_member eq xs element) (none_found {K = T} {V = Unit {0}} [] refl (eq element) (own_hash feeds element)))
