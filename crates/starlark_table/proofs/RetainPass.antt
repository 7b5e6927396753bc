-- The loop that asks for each member whether it is kept.
use Rattle.starlark_columns.proofs.LogicNames.{◌≡◌, ℕ, ◌+◌, ◌<◌, ◌≤◌, ◌++◌, ◌∷◌, [], List, Option, Some, Bool, true, false, take, arith, refl, sym, ◌∙◌, ap, subst, length, get_or, append_assoc, append-nil, length-append, if◌then◌else◌, Mut, RetainsInTurn, set, set-get_or, set-set}
use Rattle.starlark_hash.proofs.Common.{common_steps, None, drop, MutBor, length-set, drop_all, take_all}
use Rattle.std.proofs.lemmas.List.{take_more_set}
use Rattle.starlark_table.specs.Table.{filled, items_in}
use Rattle.starlark_table.specs.Walk.{CanRetain, TakesAtMut, AsksMember}
use Rattle.starlark_table.specs.Layout.{at, empty_tag, StandsIn, IsTagged}
use Rattle.starlark_table.proofs.Lists.{head_left, still_untouched}
use Rattle.starlark_table.proofs.ClosureCalls.{walk_on}
use Rattle.starlark_table.proofs.Load.{filled-append}
use Rattle.starlark_table.proofs.SlotTags.{tagged-changed, empty-by_tag, tagged-rewritten}

module _ {F T : Type 0} (g : Mut F (MutBor T × Unit {0}) (Bool × (MutBor T × Unit {0}))) where
  -- the closure was asked about the member of a slot, if there is one; `left` is the slot afterwards
  pub record Asked (f : F) (o : Option (ℕ × T)) (f' : F) (left : Option (ℕ × T)) : Type 0 where
    pub stood : (h : ℕ) (y : T) → left ≡ Some (h, y) → (x : T) × (o ≡ Some (h, x))
    pub callable : (slots : List (Option (ℕ × T))) → CanRetain g (items_in (o ∷ slots)) f → CanRetain g (items_in slots) f'
    pub retains : (slots : List (Option (ℕ × T))) (rest : List (ℕ × T)) → RetainsInTurn (AsksMember g) f' (filled slots) rest
        → RetainsInTurn (AsksMember g) f (filled (o ∷ slots)) (filled (left ∷ []) ++ rest)

  -- one turn of the loop, at slot i
  pub record Turn (cur new : List (Option (ℕ × T))) (tags : List ℕ) (i count count' : ℕ) (f f' : F) : Type 0 where
    pub slot : Option (ℕ × T)
    pub asked : Asked f (at cur i) f' slot
    pub set_is : new ≡ set cur i slot
    pub counted : count' ≡ count + length (filled (slot ∷ []))
    pub tagged : IsTagged tags new

  asked-member : (o : Option (ℕ × T)) (m n : ℕ × T) (keeps : Bool) (f f' : F) → o ≡ Some m → AsksMember g f m keeps f' n
      → Asked f o f' (if keeps then Some n else None)
  asked-member o m n keeps f f' here asks = rw here (record {
    stood = λ h y e. (m.1, grind (arith, asks.hash));
    callable = λ slots can. walk_on (TakesAtMut g) _ m.1 (items_in slots) f f' (keeps, n.1, asks.called) can;
    retains = λ slots rest more. (keeps, f', n, asks, rest, more, grind arith);
  })

  module _ (cur new : List (Option (ℕ × T))) (tags tags' : List ℕ) (i count count' : ℕ) (f f' : F) (below : i < length cur) (tagged : IsTagged tags cur) where
    pub turn-kept : (m n : ℕ × T) (keeps : Bool) (next : F) → at cur i ≡ Some m → AsksMember g f m keeps next n → keeps ≡ true
        → new ≡ set cur i (Some n) → tags' ≡ tags → count' ≡ count + 1 → f' ≡ next → Turn cur new tags' i count count' f f'
    turn-kept m n keeps next here asks kept is same counted called = record {
      slot = Some n;
      asked = rw called (rw kept at (asked-member (at cur i) m n keeps f next here asks));
      set_is = is;
      counted = counted;
      tagged = rw (is, same) (tagged-rewritten tags cur i m n below tagged here asks.hash);
    }

    pub turn-taken : (m n : ℕ × T) (keeps : Bool) (next : F) → at cur i ≡ Some m → AsksMember g f m keeps next n → keeps ≡ false
        → new ≡ set (set cur i (Some n)) i None → tags' ≡ set tags i empty_tag → count' ≡ count → f' ≡ next → Turn cur new tags' i count count' f f'
    turn-taken m n keeps next here asks kept is same counted called =
        let once = is ∙ set-set cur i (Some n) None in
        record {
          slot = None;
          asked = rw called (rw kept at (asked-member (at cur i) m n keeps f next here asks));
          set_is = once;
          counted = omega (arith, counted);
          tagged = rw (once, same) (tagged-changed tags cur i empty_tag None below tagged refl);
        }

    pub turn-empty : get_or tags i 0 ≡ empty_tag → new ≡ cur → tags' ≡ tags → count' ≡ count → f' ≡ f → Turn cur new tags' i count count' f f'
    turn-empty empty is same counted called =
        let none = empty-by_tag tags cur i tagged below empty in
        record {
          slot = at cur i;
          asked = rw (called, none) (record { stood = λ h y e. absurd (cc); callable = λ slots can. can; retains = λ slots rest more. more });
          set_is = is ∙ sym (set-get_or cur i None);
          counted = rw none (omega (arith, counted));
          tagged = rw (is, same) tagged;
        }

  -- what the loop left of the slots before i, and what it asks of the others
  pub record Walked (first f : F) (initial cur : List (Option (ℕ × T))) (tags : List ℕ) (i count : ℕ) : Type 0 where
    pub callable : CanRetain g (items_in (drop i initial)) f
    pub untouched : drop i cur ≡ drop i initial
    pub counted : count ≡ length (filled (take i cur))
    pub few : count ≤ i
    pub stand : StandsIn initial cur
    pub tagged : IsTagged tags cur
    pub done : (rest : List (ℕ × T)) → RetainsInTurn (AsksMember g) f (filled (drop i initial)) rest
        → RetainsInTurn (AsksMember g) first (filled initial) (filled (take i cur) ++ rest)

  module _ (first f f' : F) (initial cur new : List (Option (ℕ × T))) (tags tags' : List ℕ) (i count count' : ℕ) (below : i < length cur)
      (w : Walked first f initial cur tags i count) (turn : Turn cur new tags' i count count' f f') where
    rest-of_slots : drop i initial ≡ at cur i ∷ drop (i + 1) initial
    rest-of_slots = head_left initial cur i None (at cur i) below w.untouched refl

    front-of_slots : filled (take (i + 1) new) ≡ filled (take i cur) ++ filled (turn.slot ∷ [])
    front-of_slots = ap (λ l. filled (take (i + 1) l)) turn.set_is ∙ ap filled (take_more_set cur i turn.slot below) ∙ filled-append (take i cur) (turn.slot ∷ [])

    pub walked_on : Walked first f' initial new tags' (i + 1) count'
    walked_on = record {
      callable = turn.asked.callable _ (rw rest-of_slots at w.callable);
      untouched = still_untouched initial cur new i turn.slot w.untouched turn.set_is;
      counted = omega (arith, turn.counted, w.counted, length-append (filled (take i cur)) (filled (turn.slot ∷ [])), ap length front-of_slots);
      few = grind (arith, turn.counted, w.few);
      stand = record {
        sized = ap length turn.set_is ∙ length-set cur i turn.slot ∙ w.stand.sized;
        stood = λ p h y e. grind (arith, common_steps, turn.set_is, turn.asked.stood h y, w.stand.stood p h);
      };
      tagged = turn.tagged;
      done = λ rest more. rw (front-of_slots, append_assoc) (w.done _ (rw rest-of_slots (turn.asked.retains _ rest more)));
    }

  pub walked_all : (first f : F) (initial cur : List (Option (ℕ × T))) (tags : List ℕ) (i count : ℕ) → length initial ≤ i → Walked first f initial cur tags i count
      → RetainsInTurn (AsksMember g) first (filled initial) (filled cur)
  walked_all first f initial cur tags i count all w =
      let sized = w.stand.sized in
      subst (λ l. RetainsInTurn (AsksMember g) first (filled initial) l) (append-nil (filled (take i cur)) ∙ ap filled (take_all i cur (omega arith)))
      (w.done [] (subst (λ l. RetainsInTurn (AsksMember g) f (filled l) []) (sym (drop_all i initial all)) refl))

module _ {S X : Type 0} (calls : S → X → Bool → S → X → Type 0) where
  -- at most as many members are kept as there were
  pub length-retained : (s : S) (xs ys : List X) → RetainsInTurn calls s xs ys → length ys ≤ length xs
  length-retained s [] ys r = rw r (omega arith)
  length-retained s (x ∷ xs) ys (b, t, y, called, rest, more, is) = grind (arith, length-retained t xs rest more)
