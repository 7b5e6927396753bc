-- What an ordered map ends as, once a value was put under an entry of the map inside. Assumes `Logic`.
use Rattle.starlark_callers.proofs.Walks.{◌≡◌, subst, ◌∙◌, Bool, [], ◌∷◌, Ura, sep, ent, GName, fres, Logic, sem, ‵, ◌$◌, ◌∵◌, !, qed, move, use2, fpick, fpack, done, RattleType, MutBor, None, Result, Ok, Err, IfErr, OnOk, OnErr, Hashed, NoRoom}
use denote.Follow.{follows, follows_by, follows_so, such_by, followed, follows_then}
use mathlib.Core.Option.{Option, none, some}
use Rattle.starlark_hash.proofs.Common.{false≢true, IsOk, IsErr}
use Rattle.std.specs.declared.cmp.PartialEq as eq
use Rattle.starlark_hash.specs.HashValue.{hash_of, key_of}
use Rattle.starlark_hash.specs.Lookup.{found}
use Rattle.starlark_callers.proofs.LookedUp.{put_there, put_new}
use Rattle.starlark_callers.specs.Lend.{IsPutUnder}
use Rattle.starlark_small.specs.Insert.{IsRefused}
use Rattle.starlark_small.specs.Map.{Map}
use Rattle.starlark_small.specs.MapEntry.{map_of_entry, Enters, IsEntryOf, IsPut, Puts, Refuses, ShowsOrGives}
use Rattle.starlark_small.specs.declared.entry.Entry.{Entry}
use Rattle.starlark_small.specs.declared.entry.Entry.TheVariants.{Occupied, Vacant}

module _ {K V : Type 0} {g : eq.Ghosts K} (same : K → K → Bool) (m : Map K V) (key : Hashed K) where
  pub held : (e : Entry K V g) → IsEntryOf same m key e → (map_of_entry e).now ≡ m
  held (Occupied o) is = is.0
  held (Vacant v) is = is.0

  put_under : (e : Entry K V g) → Enters same m key e → (value : V) (new : Map K V) → IsPut e value new → Puts e value new → IsPutUnder same m new key value
  put_under e is value new put puts = record {
    written = put_there same m new key value e is.entry put;
    inserted = put_new same m new key value e is.entry put;
    entries = (is.inserts value new puts).entries;
    updates = is.updates value new puts;
  }

  -- what the map inside ends as, in the words of the ordered map
  pub put_at : (e : Entry K V g) → Enters same m key e → (r : Result (MutBor V) (NoRoom (Hashed K × V))) (value : V) (new : Map K V)
      → OnOk r (IsPut e value new) × (IsOk r → Puts e value new) → IsOk r → IsPutUnder same m new key value
  put_at e is (Ok p) value new put ok = put_under e is value new put.0 (put.1 ok)
  put_at e is (Err b) value new put ok = absurd (false≢true ok)

  pub refused_at : (e : Entry K V g) → IsEntryOf same m key e → (r : Result (MutBor V) (NoRoom (Hashed K × V))) (new : Map K V)
      → OnErr r (IsRefused (map_of_entry e).now new) × (IsErr r → Refuses e new) → OnErr r (IsRefused m new)
  refused_at e is (Ok p) new left = tt
  refused_at e is (Err b) new left = subst (λ n. IsRefused n new) (held e is) left.0

  -- it is refused under a key that is lacking alone, and hands all back
  pub absent_at : (value : V) (e : Entry K V g) → IsEntryOf same m key e → (r : Result (MutBor V) (NoRoom (Hashed K × V))) → ShowsOrGives (λ v. v ≡ value) e r → OnErr r (found (same (key_of key)) (hash_of key) m.entries ≡ None)
  absent_at value e is (Ok p) gives = tt
  absent_at value (Occupied o) is (Err b) gives = absurd gives
  absent_at value (Vacant v) is (Err b) gives = is.1

  pub handed_back_at : (value : V) (e : Entry K V g) → IsEntryOf same m key e → (r : Result (MutBor V) (NoRoom (Hashed K × V))) → ShowsOrGives (λ v. v ≡ value) e r → IfErr r (λ b. b.0 ≡ (key, value))
  handed_back_at value e is (Ok p) gives = tt
  handed_back_at value (Occupied o) is (Err b) gives = absurd gives
  handed_back_at value (Vacant v) is (Err b) gives = λ i. ((gives.0 ∙ is.2) i, gives.1 i)

-- what follows a part that follows its own part by a relation
module _ {M : Type 1} {𝓤 : Ura M} (𝓛 : Logic 𝓤) (R S T : RattleType) (F : S.Denot → R.Denot) (γ δ : GName) where
  pub so_then : (n : Option GName) (P : T.Denot → S.Denot → Type 0) (Q : T.Denot → R.Denot → Type 0) (P₀ : S.Denot → Type 0) (Q₀ : R.Denot → Type 0)
      → ((w : T.Denot) (v : S.Denot) → P w v → Q w (F v)) → ((v : S.Denot) → P₀ v → Q₀ (F v))
      → ent 𝓤 (sep 𝓤 (sem 𝓛 (follows R S γ δ F)) (sem 𝓛 (follows_so S T δ n P P₀))) (sem 𝓛 (follows_so R T γ n Q Q₀))
  unfolding such_by follows_by
  so_then none P Q P₀ Q₀ f f₀ =
      qed 𝓛 (‵ (follows R S γ δ F) ∷ ‵ (follows_so S T δ none P P₀) ∷ []) ∵ move ! (1 ∷ 0 ∷ []) $ fpick ! (λ s. move ! (1 ∷ 0 ∷ []) $
      use2 𝓛 (‵ (fres γ (R.coded.code (F s.0.1)))) (followed 𝓛 R S F γ δ s.0.1) $
      fpack ! ((s : (T.Denot → R.Denot) × R.Denot) × ((w : T.Denot) → Q w (s.0 w)) × Q₀ s.1) (λ s. follows_by R.Denot T.Denot R.coded.code T.coded.code γ none s.0.0 s.0.1)
      (((λ w. F (s.0.0 w)), F s.0.1), (λ w. f w (s.0.0 w) (s.1 w)), f₀ s.0.1 s.2) $ done !)
  so_then (some η) P Q P₀ Q₀ f f₀ =
      qed 𝓛 (‵ (follows R S γ δ F) ∷ ‵ (follows_so S T δ (some η) P P₀) ∷ []) ∵ move ! (1 ∷ 0 ∷ []) $ fpick ! (λ s. move ! (1 ∷ 0 ∷ []) $
      use2 𝓛 (‵ (follows R T γ η (λ w. F (s.0.0 w)))) (follows_then 𝓛 R S T F s.0.0 γ δ η) $
      fpack ! ((s : (T.Denot → R.Denot) × R.Denot) × ((w : T.Denot) → Q w (s.0 w)) × Q₀ s.1) (λ s. follows_by R.Denot T.Denot R.coded.code T.coded.code γ (some η) s.0.0 s.0.1)
      (((λ w. F (s.0.0 w)), F s.0.1), (λ w. f w (s.0.0 w) (s.1 w)), f₀ s.0.1 s.2) $ done !)
