-- Runs with the same refusals give the same replies and lead to the same list.
use Rattle.starlark_hash.proofs.Common.{◌≡◌, Bool, List, [], ◌∷◌, Option, Some, None, refl, sym, ap, ◌∙◌, rules, option_map, Ordering}
use Rattle.starlark_hash.specs.Entries.{Entry}
use Rattle.starlark_runs.specs.declared.command.Command.{Command}
use Rattle.starlark_runs.specs.declared.command.Command.TheVariants.{Look, At, First, Last, Len, Insert, Remove, RemoveAt, Pop}
use Rattle.starlark_runs.specs.declared.command.Reply.{Reply}
use Rattle.starlark_runs.specs.declared.command.Reply.TheVariants.{Found, Shown, Count, Old, Refused, Taken, TakenHashed, Done, NoMemory}
use Rattle.starlark_runs.specs.Run.{IsShown, Run, Step, is_refusal, refusals}

-- two optional pairs with the same first and second parts are the same
pub option-parts : {A B : Type 0} (x y : Option (A × B)) → option_map (λ p. p.0) x ≡ option_map (λ p. p.0) y → option_map (λ p. p.1) x ≡ option_map (λ p. p.1) y → x ≡ y
option-parts None None first second = refl
option-parts (Some p) (Some q) first second =
    let a : p.0 ≡ q.0 = cc in
    let b : p.1 ≡ q.1 = cc in
    (λ i. Some (a i, b i))
option-parts x y first second = cc

module _ {K V R : Type 0} (eq : K → K → Bool) (cmp : K → K → Ordering) (shows : Entry K V → R → Type 0) (once : (e : Entry K V) (r s : R) → shows e r → shows e s → r ≡ s) where
  pub shown-once : (entry : Option (Entry K V)) (r s : Option R) → IsShown shows entry r → IsShown shows entry s → r ≡ s
  shown-once None None None p q = refl
  shown-once (Some e) (Some r) (Some s) p q = ap Some (once e r s p q)
  shown-once entry r s p q = search rules

  pub Step-determined : (old : List (Entry K V)) (command : Command K V) (r s : Reply K V R) (new end : List (Entry K V))
      → Step eq cmp shows old command r new → Step eq cmp shows old command s end → is_refusal r ≡ is_refusal s → (r ≡ s) × (new ≡ end)
  Step-determined old (Look key) (Found a) (Found b) new end p q same =
      (ap Found (option-parts a b (p.0 ∙ sym q.0) (shown-once _ _ _ p.1 q.1)), p.2 ∙ sym q.2)
  Step-determined old (At i) (Shown a) (Shown b) new end p q same = (ap Shown (shown-once _ _ _ p.0 q.0), p.1 ∙ sym q.1)
  Step-determined old First (Shown a) (Shown b) new end p q same = (ap Shown (shown-once _ _ _ p.0 q.0), p.1 ∙ sym q.1)
  Step-determined old Last (Shown a) (Shown b) new end p q same = (ap Shown (shown-once _ _ _ p.0 q.0), p.1 ∙ sym q.1)
  Step-determined old Len (Count a) (Count b) new end p q same = (ap Count (p.0 ∙ sym q.0), p.1 ∙ sym q.1)
  Step-determined old (Insert key value) (Refused a v) (Refused b w) new end p q same =
      ((λ i. Refused ((p.1 ∙ sym q.1) i) ((p.2 ∙ sym q.2) i)), p.3 ∙ sym q.3)
  Step-determined old (Remove key) (Taken a) (Taken b) new end p q same = (ap Taken (p.0 ∙ sym q.0), p.1 ∙ sym q.1)
  Step-determined old (RemoveAt i) (TakenHashed a) (TakenHashed b) new end p q same = (ap TakenHashed (p.0 ∙ sym q.0), p.1 ∙ sym q.1)
  Step-determined old Pop (Taken a) (Taken b) new end p q same = (ap Taken (p.0 ∙ sym q.0), p.1 ∙ sym q.1)
  Step-determined old command NoMemory NoMemory new end p q same = (refl, first_of (cc, search rules))
  Step-determined old command (Old a) (Old b) new end p q same = (first_of (cc, search rules), first_of (cc, search rules))
  Step-determined old command Done Done new end p q same = (refl, first_of (cc, search rules))
  Step-determined old command r s new end p q same = absurd (first_of (assumption, cc))

  pub Run-determined : (old : List (Entry K V)) (commands : List (Command K V)) (rs ss : List (Reply K V R)) (new end : List (Entry K V))
      → Run eq cmp shows old commands rs new → Run eq cmp shows old commands ss end → refusals rs ≡ refusals ss → (rs ≡ ss) × (new ≡ end)
  Run-determined old [] [] [] new end p q same = (refl, p ∙ sym q)
  Run-determined old (command ∷ commands) (r ∷ rs) (s ∷ ss) new end p q same =
      let now = Step-determined old command r s p.0 q.0 p.1 q.1 (cc) in
      let later = Run-determined p.0 commands rs ss new end p.2 (rw now.1 q.2) (cc) in
      ((λ i. now.0 i ∷ later.0 i), later.1)
  Run-determined old commands rs ss new end p q same = absurd assumption
