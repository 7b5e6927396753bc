-- Runs on two maps with one list.
use Rattle.starlark_hash.proofs.Common.{◌≡◌, Bool, List, [], ◌∷◌, refl, sym, subst, ◌∙◌, All-head, All-tail, All, Ordering}
use Rattle.starlark_hash.specs.Entries.{Entry}
use Rattle.starlark_runs.proofs.Determinism.{Run-determined}
use Rattle.starlark_runs.specs.OneList.{AgreeWhere, HaveSameRuns, IsGranted, IsShownOnce, NoneRefused, SameRefused}
use Rattle.starlark_runs.specs.Run.{Run, is_refusal, refusals}
use Rattle.starlark_runs.specs.declared.command.Command.{Command}
use Rattle.starlark_runs.specs.declared.command.Reply.{Reply}

module _ {K V R : Type 0} (eq : K → K → Bool) (cmp : K → K → Ordering) (shows : Entry K V → R → Type 0) where
  -- two runs of the same commands in which nothing is refused have equal lists of refusals
  refusals-granted : (first second : List (Entry K V)) (commands : List (Command K V)) (rs ss : List (Reply K V R)) (new end : List (Entry K V))
      → Run eq cmp shows first commands rs new → Run eq cmp shows second commands ss end → All IsGranted rs → All IsGranted ss → refusals rs ≡ refusals ss
  refusals-granted first second [] [] [] new end p q all every = refl
  refusals-granted first second (command ∷ commands) (r ∷ rs) (s ∷ ss) new end p q all every =
      let now : is_refusal r ≡ is_refusal s = All-head IsGranted r rs all ∙ sym (All-head IsGranted s ss every) in
      let later = refusals-granted p.0 q.0 commands rs ss new end p.2 q.2 (All-tail IsGranted r rs all) (All-tail IsGranted s ss every) in
      (λ i. now i ∷ later i)
  refusals-granted first second commands rs ss new end p q all every = absurd assumption

  module _ (first second : List (Entry K V)) (one : first ≡ second) where
    pub HaveSameRuns-of_one : HaveSameRuns eq cmp shows first second
    HaveSameRuns-of_one commands replies end =
        (subst (λ l. Run eq cmp shows l commands replies end) one, subst (λ l. Run eq cmp shows l commands replies end) (sym one))

    pub AgreeWhere-same_refused : IsShownOnce shows → AgreeWhere eq cmp shows SameRefused first second
    AgreeWhere-same_refused once commands replies others new end run other same =
        Run-determined eq cmp shows once first commands replies others new end run (subst (λ l. Run eq cmp shows l commands others end) (sym one) other) same

    pub AgreeWhere-none_refused : IsShownOnce shows → AgreeWhere eq cmp shows NoneRefused first second
    AgreeWhere-none_refused once commands replies others new end run other granted =
        AgreeWhere-same_refused once commands replies others new end run other (refusals-granted first second commands replies others new end run other granted.0 granted.1)
