-- Texts and their numbers. A text is given by its bytes, and its number is its index among all texts.
use Rattle.std.specs.Prelude.{◌≡◌, ℕ, ◌<◌, List, [], ◌∷◌, ◌++◌, Option, Some, All, length, map, get_or, position, slice_get, is_some, if◌then◌else◌}
use Rattle.std.specs.Hash as fed
use Rattle.std.specs.Str.{bytes_eq}
use Rattle.std.specs.String.{string_bytes}
use Rattle.std.specs.declared.alloc.Global.{Global}
use Rattle.std.specs.declared.string.String.{String}
use Rattle.starlark_hash.specs.Entries.{entry_hash, entry_key}
use Rattle.starlark_hash.specs.Hasher.{own_hash}
use Rattle.starlark_hash.specs.HashValue.{hash_number}
use Rattle.starlark_sets.specs.Set.{Elements}

-- texts in the order of their numbers, each as its bytes
abbrev pub Texts : Type 0
Texts = List (List ℕ)

-- the number of a text: its first index
abbrev pub number_of : Texts → List ℕ → Option ℕ
number_of texts text = position (bytes_eq text) texts

-- the text of a number: what stands at that index
abbrev pub text_of : Texts → ℕ → Option (List ℕ)
text_of texts number = slice_get texts number

-- the texts once this one is among them: it goes last, unless it has a number
abbrev pub interned : Texts → List ℕ → Texts
interned texts text = if is_some (number_of texts text) then texts else texts ++ text ∷ []

-- the texts that the strings of a set have
abbrev pub texts_in : Elements (String Global) → Texts
texts_in es = map (λ e. string_bytes (entry_key e)) es

-- each string stands under the hash of its text, and each text has its own index for its number
pub record HasNumbers (es : Elements (String Global)) : Type 0 where
  pub own : All (λ e. hash_number (entry_hash e) ≡ hash_number (own_hash fed.str (string_bytes (entry_key e)))) es
  pub numbers : (i : ℕ) (d : List ℕ) → i < length (texts_in es) → number_of (texts_in es) (get_or (texts_in es) i d) ≡ Some i
