-- Entries whose keys are seen as texts: an insertion of a string is the insertion of its text.
use Rattle.starlark_hash.proofs.Common.{◌≡◌, ℕ, zero, suc, Bool, List, [], ◌∷◌, string_bytes, refl, ap, map-append, arith, common_steps, bytes_eq, Global, String}
use Rattle.std.specs.Hash as fed
use Rattle.starlark_hash.specs.declared.hashed.Hashed.{Hashed}
use Rattle.starlark_hash.specs.Entries.{Entry, stands_under, set_value_at}
use Rattle.starlark_hash.specs.Insert.{insert_entry}
use Rattle.starlark_hash.specs.HashValue.{hash_of, key_of}
use Rattle.starlark_hash.proofs.PositionLemmas.{position-map}
use Rattle.starlark_small.specs.Map.{own_hashed}
use Rattle.starlark_map.specs.JsonTexts.{Text, own_text, text_entry, text_entries}

-- strings are equal if their texts are
abbrev pub string_eq : String Global → String Global → Bool
string_eq a b = bytes_eq (string_bytes a) (string_bytes b)

module _ {V : Type 0} where
  set_value_at-text_entries : (es : List (Entry (String Global) V)) (i : ℕ) (value : V) → set_value_at (text_entries es) i value ≡ text_entries (set_value_at es i value)
  set_value_at-text_entries [] i value = refl
  set_value_at-text_entries (e ∷ es) zero value = refl
  set_value_at-text_entries (e ∷ es) (suc i) value = ap (λ more. text_entry e ∷ more) (set_value_at-text_entries es i value)

  -- the entries after an insertion, seen as texts
  text_entries-insert_entry : (es : List (Entry (String Global) V)) (key : Hashed (String Global)) (value : V)
      → text_entries (insert_entry string_eq es key value) ≡ insert_entry bytes_eq (text_entries es) (text_entry (key, value)).0 value
  text_entries-insert_entry es key value =
      grind (arith, common_steps, position-map text_entry (stands_under (hash_of key) (bytes_eq (string_bytes (key_of key)))) es, map-append text_entry es ((key, value) ∷ []), set_value_at-text_entries es)

  -- the entries after an insertion of a string under its own hash, if its text is known
  pub own_inserted : (es : List (Entry (String Global) V)) (key : String Global) (text : Text) (value : V) → string_bytes key ≡ text
      → text_entries (insert_entry string_eq es (own_hashed (λ s. fed.str (string_bytes s)) key) value) ≡ insert_entry bytes_eq (text_entries es) (own_text text) value
  own_inserted es key text value is = rw (← is) (text_entries-insert_entry es (own_hashed (λ s. fed.str (string_bytes s)) key) value)
