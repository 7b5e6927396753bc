-- Retaining in a mapped list is retaining in the list itself.
use Rattle.starlark_hash.proofs.Common.{Bool, List, [], ◌∷◌, map, ap, ◌∙◌, FoldsTo, map-append}
use Rattle.std_collections.proofs.SetLists.{cond_map}
use Rattle.starlark_hash.specs.Retain.{Retains, TakesInTurn, MayLeave}

module _ {F G X Y : Type 0} (calls : F → X → Bool → X → F → Type 0) (seen : G → Y → Bool → Y → G → Type 0) (st : F → G) (h : X → Y) where
  -- what a call may do to an item, a call may do to its image under h
  pub record Carries : Type 0 where
    pub at : (f : F) (x : X) (b : Bool) (y : X) (f' : F) → calls f x b y f' → seen (st f) (h x) b (h y) (st f')

  pub retains_carried : Carries → (f : F) (xs kept : List X) → Retains calls f xs kept → Retains seen (st f) (map h xs) (map h kept)
  retains_carried c f [] kept s = ap (map h) s
  retains_carried c f (x ∷ xs) kept (b, y, f', rest, t, r, e) = (b, h y, st f', map h rest, c.at f x b y f' t, retains_carried c f' xs rest r, ap (map h) e ∙ cond_map (map h) b (y ∷ rest) rest)

  folds : Carries → (f : F) (xs : List X) (f' : F) → FoldsTo (MayLeave calls) f xs f' → FoldsTo (MayLeave seen) (st f) (map h xs) (st f')
  folds c f [] f' e = ap st e
  folds c f (x ∷ xs) f' (u, (b, y, t), r) = (st u, (b, h y, c.at f x b y u t), folds c u xs f' r)

  -- if the mapped closure may be asked about the images in turn, the closure may be asked about the items
  pub takes_carried : Carries → (asks : F → X → Type 0) (sees : G → Y → Type 0) → ((f : F) (x : X) → sees (st f) (h x) → asks f x)
      → (f : F) (xs : List X) → TakesInTurn seen sees (st f) (map h xs) → TakesInTurn calls asks f xs
  takes_carried c asks sees on f xs t = record {
    at = λ before after f' x e r. on f' x (t.at (map h before) (map h after) (st f') (h x) (ap (map h) e ∙ map-append h before (x ∷ after)) (folds c f before f' r));
  }
