-- A search of the indices under a hash as a search of the keys under it.
use Rattle.starlark_hash.proofs.Common.{common_steps, ◌≡◌, ℕ, suc, ◌+◌, ◌<◌, ◌^◌, Bool, List, [], ◌∷◌, ◌++◌, length, get_or, map, Option, Some, None, refl, sym, ap, subst, ◌∙◌, arith, IsPermutation, nat_eq, filter, slice_get, Bor, Mut, CalledAt, TakesAt, All, Contains, enumerate_from, nat_tests, length-append, length-map, All-contains, All-filter, All-map, IsPermutation-refl, length_permutation, get_or_from_slice_get, slice_get-map, slice_get-get_or, slice_get_within, same_Some}
use Rattle.std.proofs.lemmas.List.{nil_from_length}
use Rattle.starlark_hash.specs.HashValue.{promoted}
use Rattle.starlark_hash.specs.declared.hash_value.StarlarkHashValue.{StarlarkHashValue}
use Rattle.starlark_hash.proofs.Promotion.{promoted-injective}
use Rattle.starlark_hash.specs.Entries.{Entry, entry_key, is_under, pair_of}
use Rattle.starlark_hash.specs.Search.{Asks, CanSearch, Searches, keys_under}
use Rattle.starlark_small.specs.Hashes.{indices_under, numbered, numbered_from}
use Rattle.starlark_small.specs.Index.{hashes_of}
use Rattle.starlark_small.proofs.Numbered.{below-all}
use Rattle.starlark_small.proofs.Transport.{can_transport, transported}

-- the indices under a hash are below the length
pub indices-within : (hash : ℕ) (hs : List ℕ) (p : ℕ × ℕ) → Contains (indices_under hash hs) p → p.1 < length hs
indices-within hash hs p there =
    All-contains (λ p. p.1 < length hs) (indices_under hash hs) p
    (All-map (λ p. p.1 < length hs) (λ m. (m.1, m.1)) _ (All-filter (λ m. nat_eq m.0 hash) (λ m. m.1 < length hs) (numbered hs) (below-all hs))) there

module _ {K V : Type 0} where
  -- an index named, with the key of the entry that `look` gives for it
  abbrev keyed : (ℕ → Entry K V) → ℕ × ℕ → ℕ × K
  keyed look p = (p.0, entry_key (look p.1))

  keys-numbered : (hash : StarlarkHashValue) (look : ℕ → Entry K V) (n : ℕ) (es : List (Entry K V)) → All (λ e. e.0.hash.0 < 2 ^ 32) es → hash.0 < 2 ^ 32 → ((k : ℕ) (e : Entry K V) → slice_get es k ≡ Some e → look (n + k) ≡ e)
      → map (λ p. (p.0, entry_key p.1)) (filter (λ p. is_under hash p.1) (enumerate_from n es)) ≡ map (keyed look) (map (λ m. (m.1, m.1)) (filter (λ m. nat_eq m.0 (promoted hash.0)) (numbered_from n (hashes_of es))))
  keys-numbered hash look n [] fits h_fits known = refl
  keys-numbered hash look n (e ∷ es) fits h_fits known =
      let rest = keys-numbered hash look (n + 1) es (λ k d lt. fits (suc k) d (omega (arith, lt))) h_fits (λ k d is. ap look {x = n + 1 + k} {y = n + suc k} (omega arith) ∙ known (suc k) d is) in
      grind (arith, nat_tests, promoted-injective e.0.hash.0 hash.0 (fits 0 e (omega arith)) h_fits, rest, known 0 e refl)

-- w, asked about an index, asks g about the key there; inner is g's state in w's, and Sees says that w looks at the list
module _ {C F K V : Type 0} (g : Mut F (Bor K × Unit {0}) Bool) (w : Mut C (Bor ℕ × Unit {0}) Bool) (inner : C → F) (Sees : C → Type 0) (es : List (Entry K V)) (hs : List ℕ) (same : hs ≡ hashes_of es) (hash : StarlarkHashValue)
    (small : All (λ e. e.0.hash.0 < 2 ^ 32) es) (fits : hash.0 < 2 ^ 32)
    (relate : (s : C) (i : ℕ) (b : Bool) (t : C) → Sees s → CalledAt w s i b t → Sees t × ((e : Entry K V) → slice_get es i ≡ Some e → CalledAt g (inner s) (entry_key e) b (inner t))) (s : C) (sees : Sees s) where
  abbrev items : List (ℕ × ℕ)
  items = indices_under (promoted hash.0) hs

  module _ (d : Entry K V) where
    abbrev look : ℕ → Entry K V
    look i = get_or es i d

    there : (p : ℕ × ℕ) → Contains items p → slice_get es p.1 ≡ Some (look p.1)
    there p among = slice_get-get_or es p.1 d (omega (arith, indices-within (promoted hash.0) hs p among, ap length same, length-map es (λ e. promoted e.0.hash.0)))

    keys-are : keys_under hash es ≡ map (keyed look) items
    keys-are = rw same (keys-numbered hash (λ i. get_or es i d) 0 es small fits (λ k e at. ap (λ i. get_or es i d) {x = 0 + k} {y = k} (omega arith) ∙ get_or_from_slice_get es k e d at))

  -- if the keys may be searched, the indices may
  pub can_in : (fs : List (Entry K V)) → fs ≡ es → ((s : C) (i : ℕ) → Sees s → (e : Entry K V) → slice_get es i ≡ Some e → TakesAt g (inner s) (entry_key e) → TakesAt w s i) → CanSearch g (keys_under hash es) (inner s) → CanSearch w items s
  can_in [] is pass may =
      let none : length items ≡ 0 = ap (λ l. length (indices_under (promoted hash.0) l)) (same ∙ ap hashes_of (sym is)) in
      record { at = λ before p after later moves refused. absurd (omega (arith, none, length_permutation items (before ++ p ∷ after) moves, length-append before (p ∷ after))) }
  can_in (d ∷ fs) is pass may =
      can_transport w g inner Sees (keyed (look d)) items (λ p among s b t sees called. let r = relate s p.1 b t sees called in (r.0, r.1 (look d p.1) (there d p among))) (keys_under hash es) s
      (subst (IsPermutation (keys_under hash es)) (keys-are d) (IsPermutation-refl (keys_under hash es))) (λ p among s sees takes. pass s p.1 sees (look d p.1) (there d p among) takes) sees may

  -- what is found among the indices is found among the keys
  pub found_in : (fs : List (Entry K V)) → fs ≡ es → (last : C) (answer : Option ℕ) → Searches w items s answer last → Searches g (keys_under hash es) (inner s) answer (inner last)
  found_in [] is last answer search =
      let none = nil_from_length search.order (length_permutation items search.order search.rearranged ∙ ap (λ l. length (indices_under (promoted hash.0) l)) (same ∙ ap hashes_of (sym is))) in
      let asked : (answer ≡ None) × (last ≡ s) = subst (λ l. Asks w s l answer last) none search.asks in
      subst (λ l. Searches g (keys_under hash l) (inner s) answer (inner last)) is (record { order = []; rearranged = IsPermutation-refl []; asks = (asked.0, ap inner asked.1) })
  found_in (d ∷ fs) is last answer search =
      transported w g inner Sees (keyed (look d)) items (λ p among s b t sees called. let r = relate s p.1 b t sees called in (r.0, r.1 (look d p.1) (there d p among))) (λ o. o) refl (λ p among. refl) (keys_under hash es) s last answer
      (subst (IsPermutation (keys_under hash es)) (keys-are d) (IsPermutation-refl (keys_under hash es))) sees search

-- the pair of an entry is at the index of the entry
pub pair_there : {K V : Type 0} (es : List (Entry K V)) (pairs : List (K × V)) (x i : ℕ) (e : Entry K V) → pairs ≡ map pair_of es → i ≡ x
    → slice_get es x ≡ Some e → slice_get pairs i ≡ Some (pair_of e)
pair_there es pairs x i e sees shows at = grind (arith, common_steps, slice_get-map pair_of es i)

-- the closure may be called on an index that is there
pub taken : {F K V : Type 0} (g : Mut F (Bor K × Unit {0}) Bool) (es : List (Entry K V)) (pairs : List (K × V)) (x i : ℕ) (f : F) → pairs ≡ map pair_of es → i ≡ x
    → (e : Entry K V) → slice_get es x ≡ Some e → TakesAt g f (entry_key e)
    → (i < length pairs) × ((p : K × V) → slice_get pairs i ≡ Some p → TakesAt g f p.0)
taken g es pairs x i f sees shows e at takes =
    let here = pair_there es pairs x i e sees shows at in
    (slice_get_within pairs i (pair_of e) here, λ p is. subst (λ z. TakesAt g f z.0) (same_Some (pair_of e) p (sym here ∙ is)) takes)
