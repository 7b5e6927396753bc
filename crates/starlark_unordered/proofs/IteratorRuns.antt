-- The runs of an iterator that is seen as the list of what it has left.
use Rattle.starlark_hash.proofs.Common.{◌≡◌, List, [], ◌∷◌, map, length, ap, sym, ◌∙◌, Drains}
use Rattle.std.proofs.iter.runs.Sources.{from_front}
use Rattle.std.specs.Map.Iter.{TakesFirst, ShowsInOrder}

module _ {A X : Type 0} (shows : A → X) where
  pub shows_in_order : ShowsInOrder shows
  shows_in_order = from_front (TakesFirst shows) shows (λ s. s) (λ s t h. ap length h.0) (λ s x t h. h)

  -- the items returned until the end are the list
  pub drained_shown : (xs : List A) (s : List X) → Drains (TakesFirst shows) s xs → map shows xs ≡ s
  drained_shown [] s (end, (t, same, none)) = sym (same ∙ none.0)
  drained_shown (x ∷ xs) s (end, (t, (u, step, rest), none)) = ap (λ l. shows x ∷ l) (drained_shown xs u (end, (t, rest, none))) ∙ sym step
