-- Elements that come between what an ascending list has already given and what it has left: whether the list has them.
use Rattle.starlark_hash.proofs.Common.{◌≡◌, Bool, true, false, not, [], ◌∷◌, ◌++◌, Option, Some, None, refl, subst, ◌∙◌, ◌+◌, get_or, length, arith, Bor, IsTotalOrder, eq_by_cmp, Ordering, Equal, common_steps, append_assoc, length-append, All-append, All-cons}
use Rattle.std.specs.Prelude.{All}
use Rattle.std.proofs.lemmas.List.{get_or-append-add}
use Rattle.starlark_hash.specs.declared.hashed.Hashed.{Hashed}
use Rattle.starlark_hash.specs.HashValue.{hash_of, key_of}
use Rattle.starlark_hash.specs.Entries.{Entry, entry_key, is_under, stands_under}
use Rattle.starlark_hash.specs.Sort.{Ascends, key_lt}
use Rattle.starlark_hash.proofs.PositionLemmas.{position-cons}
use Rattle.starlark_hash.proofs.SortingLemmas.{key_lt-order}
use Rattle.starlark_small.proofs.CallerLookup.{none_among}
use Rattle.starlark_sets.specs.Difference.{lacks}
use Rattle.starlark_sets.specs.Set.{Elements}
use Rattle.starlark_map.specs.SortedUnion.{ComesNext, Follows, comes_first, shown_element}
use Rattle.starlark_map.proofs.AscendingKeys.{Ascends-tail, rest-above}
use Rattle.starlark_map.proofs.AscendingUnion.{before-all}

module _ {T : Type 0} (eq : T → T → Bool) where
  -- a list lacks an element that is equal to none of its elements
  lacks-apart : (f : Entry T (Unit {0})) (xs : Elements T) → All (λ w. eq (entry_key f) (entry_key w) ≡ false) xs → lacks eq xs f ≡ true
  lacks-apart f xs apart = rw (none_among (stands_under (hash_of f.0) (eq (key_of f.0))) xs (λ k d inside. grind (arith, common_steps, apart k d inside))) refl

  -- a list has an element that is equal to one of its elements, with the same hash
  holds-at : (f : Entry T (Unit {0})) (ds : Elements T) (x : Entry T (Unit {0})) (xs : Elements T) → stands_under (hash_of f.0) (eq (key_of f.0)) x ≡ true
      → lacks eq (ds ++ x ∷ xs) f ≡ false
  holds-at f [] x xs same = grind (arith, common_steps, position-cons)
  holds-at f (d ∷ ds) x xs same = grind (arith, common_steps, position-cons, holds-at f ds x xs same)

Ascends-behind-all : {T : Type 0} (cmp : T → T → Ordering) (ds es : Elements T) → Ascends cmp (ds ++ es) → Ascends cmp es
Ascends-behind-all cmp [] es up = up
Ascends-behind-all cmp (d ∷ ds) es up = Ascends-behind-all cmp ds es (Ascends-tail cmp d (ds ++ es) up)

module _ {T : Type 0} {eq : T → T → Bool} {cmp : T → T → Ordering} (total : IsTotalOrder cmp) (ties : (x y : T) → eq x y ≡ eq_by_cmp cmp x y) where
  less-apart : (f w : Entry T (Unit {0})) → key_lt cmp f w ≡ true → eq (entry_key f) (entry_key w) ≡ false
  less-apart f w lt = grind (arith, common_steps, ties (entry_key f) (entry_key w))

  greater-apart : (f w : Entry T (Unit {0})) → key_lt cmp w f ≡ true → eq (entry_key f) (entry_key w) ≡ false
  greater-apart f w lt = grind (arith, common_steps, ties (entry_key f) (entry_key w), total.antisymm (entry_key f) (entry_key w))

  all-below : (ds es : Elements T) (h f : Entry T (Unit {0})) → Ascends cmp (ds ++ h ∷ es) → key_lt cmp h f ≡ true → All (λ w. key_lt cmp w f ≡ true) ds
  all-below [] es h f up lt = grind arith
  all-below (d ∷ ds) es h f up lt =
      let above : key_lt cmp h d ≡ false = cc (get_or-append-add ds (h ∷ es) 0 h, rest-above total d (ds ++ h ∷ es) up (length ds + 0) h (omega (arith, length-append ds (h ∷ es)))) in
      All-cons (λ w. key_lt cmp w f ≡ true) d ds (grind (arith, (key_lt-order total).chain h d f above)) (all-below ds es h f (Ascends-tail cmp d (ds ++ h ∷ es) up) lt)

  -- a list lacks an element that comes before all of it
  pub lacks-before : (es : Elements T) (f : Entry T (Unit {0})) → Ascends cmp es → comes_first cmp es f ≡ true → lacks eq es f ≡ true
  lacks-before es f up first = lacks-apart eq f es (λ k d inside. less-apart f (get_or es k d) (before-all total es f up first k d inside))

  -- a list lacks an element that comes between two adjacent ones
  pub lacks-between : (ds es : Elements T) (h f : Entry T (Unit {0})) → Ascends cmp (ds ++ h ∷ es) → key_lt cmp h f ≡ true → comes_first cmp es f ≡ true → lacks eq (ds ++ h ∷ es) f ≡ true
  lacks-between ds es h f up lt first =
      let P = λ (w : Entry T (Unit {0})). eq (entry_key f) (entry_key w) ≡ false in
      let rest : Ascends cmp es = Ascends-tail cmp h es (Ascends-behind-all cmp ds (h ∷ es) up) in
      lacks-apart eq f (ds ++ h ∷ es)
      (All-append P ds (h ∷ es) (λ k d inside. greater-apart f (get_or ds k d) (all-below ds es h f up lt k d inside))
      (All-cons P h es (greater-apart f h lt) (λ k d inside. less-apart f (get_or es k d) (before-all total es f rest first k d inside))))

  -- a list that has given nothing lacks the other list's next element f
  pub lacks-next : (there : Elements T) (f : Entry T (Unit {0})) → ComesNext cmp None there f → false ≡ not (lacks eq there f)
  lacks-next there f next =
      let (es, up, all, first) = next in
      rw (all, lacks-before es f (subst (Ascends cmp) all up) first)

  -- a list that has given something lacks the other list's next element f if f is greater than the element that it gave last
  pub lacks-next-above : (h : Hashed (Bor T)) (there : Elements T) (f : Entry T (Unit {0})) → ComesNext cmp (Some h) there f → key_lt cmp (shown_element h) f ≡ true → false ≡ not (lacks eq there f)
  lacks-next-above h there f next lt =
      let (es, up, behind, first) = next in
      rw (behind.1, lacks-between behind.0 es (shown_element h) f (subst (Ascends cmp) behind.1 up) lt first)

  -- a list has the other list's next element f if f ties with the element that it gave last and has the same hash
  pub holds-tie : (h : Hashed (Bor T)) (there : Elements T) (f : Entry T (Unit {0})) → ComesNext cmp (Some h) there f → cmp (entry_key (shown_element h)) (entry_key f) ≡ Equal
      → is_under (hash_of f.0) (shown_element h) ≡ true → true ≡ not (lacks eq there f)
  holds-tie h there f next tie under =
      let (es, up, behind, first) = next in
      let equal : eq (entry_key f) (entry_key (shown_element h)) ≡ true = cc (ties (entry_key f) (entry_key (shown_element h)), total.antisymm (entry_key f) (entry_key (shown_element h))) in
      rw (behind.1, holds-at eq f behind.0 (shown_element h) es (cc (under, equal)))

-- what is left of an ascending list ascends
pub Ascends-left : {T : Type 0} (cmp : T → T → Ordering) (last : Option (Hashed (Bor T))) (es there : Elements T) → Follows last es there → Ascends cmp there → Ascends cmp es
Ascends-left cmp None es there all up = subst (Ascends cmp) all up
Ascends-left cmp (Some h) es there all up = Ascends-tail cmp (shown_element h) es (Ascends-behind-all cmp all.0 (shown_element h ∷ es) (subst (Ascends cmp) all.1 up))

-- the element that was taken from what is left is the last given
pub Follows-taken : {T : Type 0} (last : Option (Hashed (Bor T))) (h : Hashed (Bor T)) (es fs there : Elements T) → fs ≡ shown_element h ∷ es → Follows last fs there → Follows (Some h) es there
Follows-taken None h es fs there is all = ([], all ∙ is)
Follows-taken (Some g) h es fs there is all = (all.0 ++ shown_element g ∷ [], cc (all.1, append_assoc all.0 (shown_element g ∷ []) (shown_element h ∷ es)))
