-- Entries whose keys are seen as bytes. The definitions on entries say of these what they say of the entries with strings.
use Rattle.starlark_hash.proofs.Common.{◌≡◌, ℕ, zero, suc, ◌-◌, Bool, ℤ, List, [], ◌∷◌, ◌++◌, length, Option, Some, None, refl, sym, ap, ◌∙◌, remove, reverse, slice_get, string_bytes, option_map, option_map_or, bytes_eq, String, Global, length-map, slice_get-map, none-some}
use Rattle.std.specs.String.{string_cmp}
use Rattle.starlark_hash.specs.declared.hashed.Hashed.{Hashed}
use Rattle.starlark_hash.specs.declared.hash_value.StarlarkHashValue.{StarlarkHashValue}
use Rattle.starlark_hash.specs.Entries.{Entry, entry_value, position_of, value_at, set_value_at, match_of, with_value, without}
use Rattle.starlark_hash.specs.Insert.{insert_entry}
use Rattle.starlark_hash.specs.HashValue.{hashed, hash_of, key_of}
use Rattle.starlark_hash.specs.Lookup.{found}
use Rattle.starlark_hash.specs.Sort.{Ascends, key_lt, sorted_by_key}
use Rattle.starlark_script.specs.Line.{Key}
use Rattle.starlark_script.specs.Replies.{bytes_cmp}
use Rattle.starlark_script.specs.ShownEntries.{shown_entry, entries_of}
use Rattle.starlark_hash.proofs.PositionLemmas.{position-map}
use Rattle.starlark_small.proofs.CallerLookup.{found-value_at, position_of-found}
use Rattle.starlark_script.proofs.Images.{remove-map, reverse-map, sorted_by-map, ascends-map}

-- a search by bytes finds the same index
pub position_of-entries_of : (es : List (Entry (String Global) ℤ)) (hash : StarlarkHashValue) (passes : List ℕ → Bool)
    → position_of hash passes (entries_of es) ≡ position_of hash (λ key. passes (string_bytes key)) es
position_of-entries_of es hash passes = position-map shown_entry _ es

-- the value at an index is the value there in the entries seen as bytes
pub value_at-entries_of : (es : List (Entry (String Global) ℤ)) (index : Option ℕ) → value_at (entries_of es) index ≡ value_at es index
value_at-entries_of es None = refl
value_at-entries_of es (Some i) = ap (option_map entry_value) (slice_get-map shown_entry es i) ∙ same (slice_get es i)
  where
    same : (o : Option (Entry (String Global) ℤ)) → option_map entry_value (option_map shown_entry o) ≡ option_map entry_value o
    same None = refl
    same (Some e) = refl

-- the value under a string is the one under its bytes
pub value-entries_of : (es : List (Entry (String Global) ℤ)) (hash : StarlarkHashValue) (bytes : List ℕ)
    → found (λ key. bytes_eq bytes (string_bytes key)) hash es ≡ value_at (entries_of es) (position_of hash (bytes_eq bytes) (entries_of es))
value-entries_of es hash bytes =
    found-value_at (λ key. bytes_eq bytes (string_bytes key)) hash es
    ∙ sym (ap (value_at (entries_of es)) (position_of-entries_of es hash (bytes_eq bytes)) ∙ value_at-entries_of es (position_of hash (λ key. bytes_eq bytes (string_bytes key)) es))

set_value_at-entries_of : (es : List (Entry (String Global) ℤ)) (i : ℕ) (value : ℤ) → set_value_at (entries_of es) i value ≡ entries_of (set_value_at es i value)
set_value_at-entries_of [] i value = refl
set_value_at-entries_of (e ∷ es) zero value = refl
set_value_at-entries_of (e ∷ es) (suc i) value = ap (λ more. shown_entry e ∷ more) (set_value_at-entries_of es i value)

entries_of-push : (es : List (Entry (String Global) ℤ)) (e : Entry (String Global) ℤ) → entries_of (es ++ e ∷ []) ≡ entries_of es ++ shown_entry e ∷ []
entries_of-push [] e = refl
entries_of-push (d ∷ es) e = ap (λ more. shown_entry d ∷ more) (entries_of-push es e)

-- an insertion by bytes is an insertion of the string with these bytes
pub insert_entry-entries_of : (es : List (Entry (String Global) ℤ)) (key : Hashed (String Global)) (value : ℤ)
    → insert_entry bytes_eq (entries_of es) (hashed (hash_of key) (string_bytes (key_of key))) value ≡ entries_of (insert_entry (λ a b. bytes_eq (string_bytes a) (string_bytes b)) es key value)
insert_entry-entries_of es key value =
    ap (λ index. option_map_or (λ i. set_value_at (entries_of es) i value) index (entries_of es ++ shown_entry (key, value) ∷ [])) (position_of-entries_of es (hash_of key) (bytes_eq (string_bytes (key_of key))))
    ∙ by (match_of (λ a b. bytes_eq (string_bytes a) (string_bytes b)) es key)
  where
    by : (index : Option ℕ)
        → option_map_or (λ i. set_value_at (entries_of es) i value) index (entries_of es ++ shown_entry (key, value) ∷ [])
        ≡ entries_of (option_map_or (λ i. set_value_at es i value) index (es ++ (key, value) ∷ []))
    by None = sym (entries_of-push es (key, value))
    by (Some i) = set_value_at-entries_of es i value

-- inserting a string that is shown as this key is inserting the key
pub inserted : (es new : List (Entry (String Global) ℤ)) (key : Hashed (String Global)) (shown : Key) (value : ℤ)
    → new ≡ insert_entry (λ a b. bytes_eq (string_bytes a) (string_bytes b)) es key value → hash_of key ≡ hash_of shown → string_bytes (key_of key) ≡ key_of shown
    → entries_of new ≡ insert_entry bytes_eq (entries_of es) shown value
inserted es new key shown value e h k =
    ap entries_of e ∙ sym (insert_entry-entries_of es key value)
    ∙ ap (λ hash. insert_entry bytes_eq (entries_of es) (hashed hash (string_bytes (key_of key))) value) h
    ∙ ap (λ text. insert_entry bytes_eq (entries_of es) (hashed (hash_of shown) text) value) k

-- the value under a string that is shown as this key is the value under the key
pub value-shown : (es : List (Entry (String Global) ℤ)) (key : Hashed (String Global)) (shown : Key) → hash_of key ≡ hash_of shown → string_bytes (key_of key) ≡ key_of shown
    → found (λ b. bytes_eq (string_bytes (key_of key)) (string_bytes b)) (hash_of key) es ≡ value_at (entries_of es) (match_of bytes_eq (entries_of es) shown)
value-shown es key shown h k =
    value-entries_of es (hash_of key) (string_bytes (key_of key))
    ∙ ap (λ hash. value_at (entries_of es) (position_of hash (bytes_eq (string_bytes (key_of key))) (entries_of es))) h
    ∙ ap (λ text. value_at (entries_of es) (position_of (hash_of shown) (bytes_eq text) (entries_of es))) k

-- writing a value by bytes writes it under the string with these bytes, if there is one
pub written : (es : List (Entry (String Global) ℤ)) (hash : StarlarkHashValue) (bytes : List ℕ) (old value : ℤ)
    → Some old ≡ found (λ key. bytes_eq bytes (string_bytes key)) hash es
    → entries_of (with_value es (position_of hash (λ key. bytes_eq bytes (string_bytes key)) es) value) ≡ insert_entry bytes_eq (entries_of es) (hashed hash bytes) value
written es hash bytes old value h =
    by (position_of hash (λ key. bytes_eq bytes (string_bytes key)) es) (h ∙ found-value_at (λ key. bytes_eq bytes (string_bytes key)) hash es)
    ∙ sym (ap (λ index. option_map_or (λ i. set_value_at (entries_of es) i value) index (entries_of es ++ (hashed hash bytes, value) ∷ [])) (position_of-entries_of es hash (bytes_eq bytes)))
  where
    by : (index : Option ℕ) → Some old ≡ value_at es index
        → entries_of (with_value es index value) ≡ option_map_or (λ i. set_value_at (entries_of es) i value) index (entries_of es ++ (hashed hash bytes, value) ∷ [])
    by None e = absurd (none-some old (sym e))
    by (Some i) e = sym (set_value_at-entries_of es i value)

-- if no key is the string with these bytes, no key has these bytes
pub lacking : (es : List (Entry (String Global) ℤ)) (hash : StarlarkHashValue) (bytes : List ℕ)
    → None ≡ found (λ key. bytes_eq bytes (string_bytes key)) hash es → position_of hash (bytes_eq bytes) (entries_of es) ≡ None
lacking es hash bytes none = position_of-entries_of es hash (bytes_eq bytes) ∙ position_of-found (λ key. bytes_eq bytes (string_bytes key)) hash es (sym none)

-- a removal by bytes removes the string with these bytes
pub removed : (es new : List (Entry (String Global) ℤ)) (hash : StarlarkHashValue) (bytes : List ℕ)
    → new ≡ without es (position_of hash (λ key. bytes_eq bytes (string_bytes key)) es)
    → entries_of new ≡ without (entries_of es) (position_of hash (bytes_eq bytes) (entries_of es))
removed es new hash bytes e =
    ap entries_of e ∙ sym (ap (without (entries_of es)) (position_of-entries_of es hash (bytes_eq bytes)) ∙ by (position_of hash (λ key. bytes_eq bytes (string_bytes key)) es))
  where
    by : (index : Option ℕ) → without (entries_of es) index ≡ entries_of (without es index)
    by None = refl
    by (Some i) = remove-map shown_entry es i

-- removing the last entry removes the last one seen as bytes
pub popped : (es new : List (Entry (String Global) ℤ)) → new ≡ remove es (length es - 1) → entries_of new ≡ remove (entries_of es) (length (entries_of es) - 1)
popped es new e = ap entries_of e ∙ sym (remove-map shown_entry es (length es - 1)) ∙ ap (λ n. remove (entries_of es) (n - 1)) (sym (length-map es shown_entry))

pub reversed : (es new : List (Entry (String Global) ℤ)) → new ≡ reverse es → entries_of new ≡ reverse (entries_of es)
reversed es new e = ap entries_of e ∙ sym (reverse-map shown_entry es)

-- a sort by bytes is a sort of the strings
pub sorted : (es new : List (Entry (String Global) ℤ)) → new ≡ sorted_by_key string_cmp es → entries_of new ≡ sorted_by_key bytes_cmp (entries_of es)
sorted es new e = ap entries_of e ∙ sym (sorted_by-map shown_entry (key_lt bytes_cmp) es)

pub ascends : (es : List (Entry (String Global) ℤ)) → Ascends bytes_cmp (entries_of es) → Ascends string_cmp es
ascends es h = ascends-map shown_entry (key_lt bytes_cmp) es h
