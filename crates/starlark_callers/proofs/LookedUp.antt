-- What is there once a value was put under an entry that a map has, or lacks.
use Rattle.starlark_hash.proofs.Common.{◌≡◌, Bool, None, sym, ap, subst, ◌∙◌, false≢true, IsSome, is_some}
use Rattle.std.specs.declared.cmp.PartialEq as eq
use Rattle.starlark_hash.specs.declared.hashed.Hashed.{Hashed}
use Rattle.starlark_hash.specs.Entries.{set_value_at, with_value}
use Rattle.starlark_hash.specs.HashValue.{hash_of, key_of}
use Rattle.starlark_hash.specs.Lookup.{found}
use Rattle.starlark_small.proofs.CallerLookup.{is_some-found}
use Rattle.starlark_callers.specs.Lend.{with_value_under}
use Rattle.starlark_small.specs.Insert.{IsInserted}
use Rattle.starlark_small.specs.Map.{Map}
use Rattle.starlark_small.specs.MapEntry.{IsEntryOf, IsPut}
use Rattle.starlark_small.specs.declared.entry.Entry.{Entry}
use Rattle.starlark_small.specs.declared.entry.Entry.TheVariants.{Occupied, Vacant}

module _ {K V : Type 0} where
  -- an insertion into an equal map, of an equal key and value
  pub inserted_as : (old first new : Map K V) (key under : Hashed K) (value put : V) → first ≡ old → under ≡ key → put ≡ value → IsInserted first new under put → IsInserted old new key value
  inserted_as old first new key under value put a b c h =
      subst (λ m. IsInserted m new key value) a (subst (λ k. IsInserted first new k value) b (subst (λ v. IsInserted first new under v) c h))

  module _ {g : eq.Ghosts K} (same : K → K → Bool) (m new : Map K V) (key : Hashed K) (value : V) where
    pub put_there : (e : Entry K V g) → IsEntryOf same m key e → IsPut e value new → IsSome (found (same (key_of key)) (hash_of key) m.entries) → new ≡ with_value_under same m key value
    put_there (Occupied o) is put there =
        put ∙ ap (λ (x : Map K V). record x { entries = set_value_at x.entries o.index value }) is.0
        ∙ ap (λ p. record m { entries = with_value m.entries p value }) (sym is.1)
    put_there (Vacant v) is put there = absurd (false≢true (sym (ap is_some is.1) ∙ there))

    pub put_new : (e : Entry K V g) → IsEntryOf same m key e → IsPut e value new → found (same (key_of key)) (hash_of key) m.entries ≡ None → IsInserted m new key value
    put_new (Occupied o) is put none = absurd (false≢true (sym (ap is_some none) ∙ sym (is_some-found (same (key_of key)) (hash_of key) m.entries) ∙ ap is_some is.1))
    put_new (Vacant v) is put none = inserted_as m v.map.now new key v.key value value is.0 is.2 (λ i. value) put
