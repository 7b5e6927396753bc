-- The words of a text, and a dictionary that counts them. A word is given by its bytes.
use Rattle.std.specs.Prelude.{◌≡◌, ℕ, ◌+◌, ◌<◌, List, [], ◌∷◌, ◌++◌, length, if◌then◌else◌, count_by}
use Rattle.std.specs.Char.{is_whitespace, is_not_whitespace}
use Rattle.std.specs.Option.{unwrap_or}
use Rattle.std.specs.Str.{bytes_eq, NoCharPasses, EmptyOrStartsWithPassing}
use Rattle.std.specs.declared.alloc.Global.{Global}
use Rattle.std.specs.declared.string.String.{String}
use Rattle.starlark_dict.specs.Dict.{Dict, get_by_text}

-- a number under each string
abbrev pub Tally : Type 0
Tally = Dict (String Global) ℕ

-- the text is white space, then this word, then the rest, which is empty or begins with white space
pub record BeginsWithWord (text word rest : List ℕ) : Type 0 where
  pub blank : List ℕ
  pub parts : text ≡ blank ++ (word ++ rest)
  pub some_letter : 0 < length word
  pub blank_alone : NoCharPasses is_not_whitespace blank
  pub unbroken : NoCharPasses is_whitespace word
  pub ended : (more : List ℕ) × EmptyOrStartsWithPassing is_whitespace rest more

-- these are the words of the text, in their order
abbrev pub HasWords : List ℕ → List (List ℕ) → Type 0
HasWords text [] = NoCharPasses is_not_whitespace text
HasWords text (word ∷ words) = (rest : List ℕ) × BeginsWithWord text word rest × HasWords rest words

-- how often a word is among these
abbrev pub times : List ℕ → List (List ℕ) → ℕ
times word words = count_by (bytes_eq word) words

-- the number of a word, and 0 of one that the dictionary lacks
abbrev pub count_of : Tally → List ℕ → ℕ
count_of tally word = unwrap_or (get_by_text tally word) 0

-- no word has the number 0, so that the dictionary has no word but those that it counts
abbrev pub HasNoZero : Tally → Type 0
HasNoZero tally = (word : List ℕ) → 0 < unwrap_or (get_by_text tally word) 1

-- new counts this word once more than old, and each other as often
pub record CountsOneMore (old new : Tally) (word : List ℕ) : Type 0 where
  pub no_zero : HasNoZero new
  pub counts : (other : List ℕ) → count_of new other ≡ count_of old other + (if bytes_eq other word then 1 else 0)

-- the dictionary counts each word as often as it is among these
pub record IsTallyOf (words : List (List ℕ)) (tally : Tally) : Type 0 where
  pub no_zero : HasNoZero tally
  pub counts : (word : List ℕ) → count_of tally word ≡ times word words
