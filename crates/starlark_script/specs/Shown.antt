-- What the values of the code represent in the definitions.
use Rattle.std.specs.Prelude.{◌≡◌, ℕ, ◌<◌, ◌≤◌, List, [], ◌∷◌, length, Option, All, MatchOption}
use Rattle.starlark_hash.specs.declared.hashed.Hashed.{Hashed}
use Rattle.starlark_hash.specs.declared.text_key.TextKey.{TextKey}
use Rattle.starlark_hash.specs.HashValue.{hashed, hash_of, key_of}
use Rattle.starlark_script.specs.Line as script
use Rattle.starlark_script.specs.declared.line.Line.{Line}
use Rattle.starlark_script.specs.declared.line.Line.TheVariants.{Put, Get, Del, At, Pop, Rev, Sort, Clear, Reserve, Slim, Len, Walk}
use Rattle.starlark_script.specs.declared.line.Fields.{Fields}
use Rattle.starlark_script.specs.declared.line.Fields.TheVariants.{One, Two, Three, Four, More}

-- the key that a hashed text represents
abbrev pub shown_key : Hashed TextKey → script.Key
shown_key key = hashed (hash_of key) (key_of key).0.now

-- the line of the definitions that a line of the program represents
abbrev pub shown : Line → script.Line
shown (Put key value) = script.Put (shown_key key) value
shown (Get key) = script.Get (shown_key key)
shown (Del key) = script.Del (shown_key key)
shown (At index) = script.At index
shown Pop = script.Pop
shown Rev = script.Rev
shown Sort = script.Sort
shown Clear = script.Clear
shown (Reserve additional) = script.Reserve additional
shown Slim = script.Slim
shown Len = script.Len
shown Walk = script.Walk

-- the fields of the program are these fields of the definitions
abbrev pub AreFields : Fields → List (List ℕ) → Type 0
AreFields (One a) fs = fs ≡ a.now ∷ []
AreFields (Two a b) fs = fs ≡ a.now ∷ b.now ∷ []
AreFields (Three a b c) fs = fs ≡ a.now ∷ b.now ∷ c.now ∷ []
AreFields (Four a b c d) fs = fs ≡ a.now ∷ b.now ∷ c.now ∷ d.now ∷ []
AreFields More fs = 4 < length fs

-- the text is one or more visible ASCII characters
abbrev pub IsVisible : List ℕ → Type 0
IsVisible text = (0 < length text) × All (λ b. (33 ≤ b) × (b ≤ 126)) text

-- the fields spell this key; if there is none, they spell no key
abbrev pub IsKeyIn : List ℕ → List ℕ → Option (Hashed TextKey) → Type 0
IsKeyIn hash text read =
    MatchOption read ((key : script.Key) → script.IsKey key → hash ≡ script.hash_text key → text ≡ key_of key → ⊥)
    (λ key. script.IsKey (shown_key key) × (hash ≡ script.hash_text (shown_key key)) × (text ≡ key_of (shown_key key)))
