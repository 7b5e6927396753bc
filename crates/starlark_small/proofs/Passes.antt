-- Passes over a table that replace its indices.
use Rattle.starlark_hash.proofs.Common.{common_steps, ◌≡◌, ℕ, ◌<◌, List, [], ◌∷◌, length, get_or, Option, Some, None, sym, ap, subst, ◌∙◌, arith, Bor, Mut, Takes, Called, CalledAt, All, FoldsTo, get_or-append_seam, length-append}
use Rattle.starlark_table.specs.Walk.{CanReplace, ReplacesEach}
use Rattle.starlark_small.specs.Slots.{renamed}

module _ {F : Type 0} (g : Mut F (Bor ℕ × Unit {0}) ℕ) where
  -- a pass whose calls return by a function replaces the index of each member by its value
  pub replaced-each : (name : ℕ → ℕ) (f end : F) (old new : List (Option (ℕ × ℕ))) → ((x : Bor ℕ) (y : ℕ) (next : F) → Called g f (x, tt) y next → (y ≡ name x.now) × (next ≡ f))
      → ReplacesEach g f old new end → new ≡ renamed name old
  replaced-each name f end [] new says (is, same) = is
  replaced-each name f end (None ∷ old) new says (rest, is, others) = is ∙ ap (λ l. None ∷ l) (replaced-each name f end old rest says others)
  replaced-each name f end (Some (h, x) ∷ old) new says (y, next, rest, called, is, others) =
      let told = says called.shown y next called.called in
      grind (arith, common_steps, called.shows, replaced-each name f end old rest says (subst (λ k. ReplacesEach g k old rest end) told.1 others))

  module _ (f : F) (stays : (x : Bor ℕ) (y : ℕ) (next : F) → Called g f (x, tt) y next → next ≡ f) where
    stays_all : (before : List ℕ) (later : F) → FoldsTo (λ k x next. (y : ℕ) × CalledAt g k x y next) f before later → f ≡ later
    stays_all [] later same = same
    stays_all (x ∷ before) later (next, (y, called), rest) =
        let same = stays called.shown y next called.called in
        stays_all before later (subst (λ k. FoldsTo (λ k x next. (y : ℕ) × CalledAt g k x y next) k before later) same rest)

    -- a closure that may be called below a bound, and that no call changes, may be called on indices below it in turn
    pub can_replace : (n : ℕ) (xs : List ℕ) → ((x : Bor ℕ) → x.now < n → Takes g f (x, tt)) → All (λ x. x < n) xs → CanReplace g xs f
    can_replace n xs takes all = record {
      at = λ before x after later is told y shows.
          let below : x < n =
          subst (λ k. k < n) (ap (λ l. get_or l (length before) x) is ∙ get_or-append_seam before x after x)
          (all (length before) x (omega (arith, ap length is, length-append before (x ∷ after)))) in
          subst (λ k. Takes g k (y, tt)) (stays_all before later told) (takes y (subst (λ k. k < n) (sym shows) below));
    }
