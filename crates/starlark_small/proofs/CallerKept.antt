-- What holds of all other texts, and of all values, after an insertion: a ruleset that a caller cites.
use Rattle.starlark_hash.proofs.Common.{◌≡◌, ℕ, ◌<◌, ◌≤◌, Bool, true, false, List, All, All-weaker, map, sym, ap, arith, common_steps, refl, bytes_eq, bytes_eq-Decides}
use Rattle.std.specs.String.{string_bytes, string_eq}
use Rattle.std.specs.declared.string.String.{String}
use Rattle.starlark_hash.specs.declared.hash_value.StarlarkHashValue.{StarlarkHashValue}
use Rattle.starlark_hash.specs.declared.hashed.Hashed.{Hashed}
use Rattle.starlark_hash.specs.HashValue.{key_of}
use Rattle.starlark_hash.specs.Entries.{Entry, match_of, entry_value}
use Rattle.starlark_hash.specs.Insert.{insert_entry}
use Rattle.starlark_hash.specs.Lookup.{found}
use Rattle.starlark_small.specs.Insert.{Inserts}
use Rattle.starlark_small.specs.Map.{Map}
use Rattle.starlark_small.proofs.CallerLookup.{alike, inserted_there, under}
use Rattle.starlark_small.proofs.CallerMembers.{All-values-inserts}

-- a test that equal keys pass alike, and that the inserted key fails, finds what it found
module _ {K V : Type 0} (eq : K → K → Bool) (test : K → Bool) (one : (x y : K) → eq x y ≡ true → test y ≡ test x) where
  pub found-insert_other : (hash : StarlarkHashValue) (old new : List (Entry K V)) (key : Hashed K) (value : V) → new ≡ insert_entry eq old key value → test (key_of key) ≡ false → found test hash new ≡ found test hash old
  unfolding found
  found-insert_other hash old new key value put not = rw put (
      inserted_there (under hash test) (alike eq key) (λ k same. grind (arith, common_steps, one (key_of key) (key_of k), not, same)) old (match_of eq old key) (key, value) refl (grind (arith, common_steps, not)))

module _ {A V : Type 0} {before after : Map (String A) V} {key : Hashed (String A)} {value : V} (inserts : Inserts string_eq before after key value) where
  -- other texts keep what they had
  pub found_text-inserts : (text : List ℕ) (hash : StarlarkHashValue) → bytes_eq (string_bytes (key_of key)) text ≡ false → found (λ k. bytes_eq text (string_bytes k)) hash after.entries ≡ found (λ k. bytes_eq text (string_bytes k)) hash before.entries
  found_text-inserts text hash not = found-insert_other string_eq (λ k. bytes_eq text (string_bytes k))
      (λ x y same. ap (bytes_eq text) (sym ((bytes_eq-Decides (string_bytes x) (string_bytes y)).0 same)))
      hash before.entries after.entries key value inserts.entries
      (grind (arith, common_steps, not, bytes_eq-Decides (string_bytes (key_of key)) text, bytes_eq-Decides text (string_bytes (key_of key))))

-- if the old values are below a bound, and the new one is below a second bound that is no less, all are below the second
pub All-below-inserts : {K : Type 0} {eq : K → K → Bool} {before after : Map K ℕ} {key : Hashed K} {value : ℕ} → Inserts eq before after key value
    → (bound most : ℕ) → All (λ v. v < bound) (map entry_value before.entries) → bound ≤ most → value < most → All (λ v. v < most) (map entry_value after.entries)
All-below-inserts {before = before} inserts bound most all wider below =
    All-values-inserts inserts (λ v. v < most) (All-weaker (λ v. v < bound) (λ v. v < most) (λ v less. omega (arith, less, wider)) (map entry_value before.entries) all) below

pub ruleset kept = (found_text-inserts, All-below-inserts)
