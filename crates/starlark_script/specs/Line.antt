-- The lines of a script, and how each is written.
use Rattle.std.specs.Prelude.{◌≡◌, ℕ, ℤ, ◌<◌, ◌≤◌, ◌^◌, List, [], ◌∷◌, length, ◌==◌, All, codes, decimal, FitsSigned}
use Rattle.std.specs.Int.{w64}
use Rattle.std.specs.Fmt.{signed_decimal}
use Rattle.std.specs.List.{slice_split}
use Rattle.starlark_hash.specs.declared.hashed.Hashed.{Hashed}
use Rattle.starlark_hash.specs.HashValue.{hash_number, hash_of, key_of}

-- a key of a script: its bytes, under a hash
abbrev pub Key : Type 0
Key = Hashed (List ℕ)

-- a line of a script, with its texts as bytes and its hashes and numbers as numbers
pub data Line : Type 0 where
  Put : (key : Key) (value : ℤ) → Line
  Get : (key : Key) → Line
  Del : (key : Key) → Line
  At : (index : ℕ) → Line
  Pop : Line
  Rev : Line
  Sort : Line
  Clear : Line
  Reserve : (additional : ℕ) → Line
  Slim : Line
  Len : Line
  Walk : Line

-- the fields of a text: the pieces between its spaces, including empty ones
abbrev pub fields_of : List ℕ → List (List ℕ)
fields_of text = slice_split (λ b. b == 32) text

-- the number of the key's hash, as Rust prints it
abbrev pub hash_text : Key → List ℕ
hash_text key = decimal (hash_number (hash_of key))

-- the fields by which a line is written: its word; then the number of the hash, the key, and the value; or an index; or an
-- amount of room. Numbers are as Rust prints them
abbrev pub fields : Line → List (List ℕ)
fields (Put key value) = codes "put" ∷ hash_text key ∷ key_of key ∷ signed_decimal value ∷ []
fields (Get key) = codes "get" ∷ hash_text key ∷ key_of key ∷ []
fields (Del key) = codes "del" ∷ hash_text key ∷ key_of key ∷ []
fields (At index) = codes "at" ∷ decimal index ∷ []
fields Pop = codes "pop" ∷ []
fields Rev = codes "rev" ∷ []
fields Sort = codes "sort" ∷ []
fields Clear = codes "clear" ∷ []
fields (Reserve additional) = codes "reserve" ∷ decimal additional ∷ []
fields Slim = codes "slim" ∷ []
fields Len = codes "len" ∷ []
fields Walk = codes "walk" ∷ []

-- the hash is a number below 2^32, and the key is one or more bytes from 33 to 126, the visible ASCII characters
pub record IsKey (key : Key) : Type 0 where
  pub hash : hash_number (hash_of key) < 2 ^ 32
  pub some : 0 < length (key_of key)
  pub visible : All (λ b. (33 ≤ b) × (b ≤ 126)) (key_of key)

-- the line's parts may occur in a script: its key is `IsKey`; its value has 64 bits; its index, or its room, is at most
-- 1000000
abbrev pub IsLawful : Line → Type 0
IsLawful (Put key value) = IsKey key × FitsSigned w64 value
IsLawful (Get key) = IsKey key
IsLawful (Del key) = IsKey key
IsLawful (At index) = index ≤ 1000000
IsLawful Pop = Unit {0}
IsLawful Rev = Unit {0}
IsLawful Sort = Unit {0}
IsLawful Clear = Unit {0}
IsLawful (Reserve additional) = additional ≤ 1000000
IsLawful Slim = Unit {0}
IsLawful Len = Unit {0}
IsLawful Walk = Unit {0}

-- the text is the text of the line: it has at most 1000 bytes, the line's parts are lawful, and the text's fields are
-- exactly those of the line. There is no parser in this definition
pub record IsTextOf (text : List ℕ) (line : Line) : Type 0 where
  pub short : length text ≤ 1000
  pub lawful : IsLawful line
  pub written : fields_of text ≡ fields line

-- the text is the text of no line
abbrev pub IsBad : List ℕ → Type 0
IsBad text = (line : Line) → ¬ (IsTextOf text line)

-- no text is the text of two lines
abbrev pub TextsAreOfOne : Type 0
TextsAreOfOne = (text : List ℕ) (k l : Line) → IsTextOf text k → IsTextOf text l → k ≡ l
