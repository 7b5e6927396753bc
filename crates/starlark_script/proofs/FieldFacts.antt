-- The fields of a text.
use Rattle.starlark_hash.proofs.Common.{◌≡◌, ◌≢◌, ℕ, ◌<◌, ◌≤◌, List, [], ◌∷◌, ◌++◌, length, get_or, Bool, true, false, Option, Some, None, refl, sym, ap, subst, ◌∙◌, arith, lit<, ◌==◌, ◌&&◌, nat_lt, MatchOption, AllByRecursion, All-weaker, nat_tests}
use Rattle.std.specs.Prelude.{All, IsUtf8, codes}
use Rattle.std.specs.List.{join_with_byte}
use Rattle.std.specs.Str.{IsAscii}
use denote.Ref.{Bor}
use Rattle.std.proofs.lemmas.List.Splits.{slice_split_at, slice_split_none, length-slice_split, join_with_byte-slice_split}
use Rattle.std.proofs.lemmas.List.Elements.{All-from_get_or}
use Rattle.std.proofs.lemmas.Str.{IsUtf8-from_ascii, IsAscii-append}
use Rattle.std.proofs.lemmas.Str.Ascii.{IsAscii-nil, IsAscii-cons, IsAscii-from_all}
use Rattle.std.proofs.lemmas.Fmt.{IsAscii-decimal, IsAscii-signed}
use Rattle.starlark_hash.specs.HashValue.{hash_number, hash_of, key_of}
use Rattle.starlark_script.specs.Line.{Key, Line, Put, Get, Del, At, Pop, Rev, Sort, Clear, Reserve, Slim, Len, Walk, fields_of, fields, hash_text, IsKey, IsLawful, IsTextOf, IsBad}
use Rattle.starlark_script.proofs.Numbers.{fits-mag}

no-space : (b : ℕ) → b ≢ 32 → (b == 32) ≡ false
no-space b h = grind (arith, nat_tests)

abbrev HasNoSpace : List ℕ → Type 0
HasNoSpace xs = (i : ℕ) → i < length xs → get_or xs i 0 ≢ 32

untested : (xs : List ℕ) → HasNoSpace xs → All (λ b. (b == 32) ≡ false) xs
untested xs h = All-from_get_or (λ b. (b == 32) ≡ false) xs 0 (λ i k. no-space (get_or xs i 0) (h i k))

fields-cut : (text a rest : List ℕ) → text ≡ a ++ (32 ∷ rest) → HasNoSpace a → fields_of text ≡ a ∷ fields_of rest
fields-cut text a rest e h = ap fields_of e ∙ slice_split_at (λ b. b == 32) a 32 rest (untested a h) refl

fields-whole : (text : List ℕ) → HasNoSpace text → fields_of text ≡ text ∷ []
fields-whole text h = slice_split_none (λ b. b == 32) text (untested text h)

-- the fields of a text, from a cut at its first space
pub cut-fields : (text : List ℕ) (r : Option (Bor (List ℕ) × Bor (List ℕ)))
    → MatchOption r (HasNoSpace text) (λ x. (text ≡ x.0.now ++ (32 ∷ x.1.now)) × HasNoSpace x.0.now)
    → MatchOption r (fields_of text ≡ text ∷ []) (λ x. fields_of text ≡ x.0.now ∷ fields_of x.1.now)
cut-fields text None h = fields-whole text h
cut-fields text (Some x) h = fields-cut text x.0.now x.1.now h.0 h.1

pub some-field : (text : List ℕ) → 0 < length (fields_of text)
some-field text = omega (arith, length-slice_split (λ b. b == 32) text)

-- the text of a line is ASCII
join-ascii : (c : ℕ) (fs : List (List ℕ)) → c < 128 → AllByRecursion IsAscii fs → IsAscii (join_with_byte c fs)
join-ascii c [] h g = IsAscii-nil
join-ascii c (x ∷ []) h g = g.0
join-ascii c (x ∷ y ∷ fs) h g = IsAscii-append x (c ∷ join_with_byte c (y ∷ fs)) g.0 (IsAscii-cons c (join_with_byte c (y ∷ fs)) h (join-ascii c (y ∷ fs) h g.1))

key-ascii : (key : Key) → IsKey key → IsAscii (key_of key)
key-ascii key h = IsAscii-from_all (key_of key) (All-weaker (λ b. (33 ≤ b) × (b ≤ 126)) (λ b. b < 128) (λ b p. omega arith) (key_of key) h.visible)

hash-ascii : (key : Key) → IsKey key → IsAscii (hash_text key)
hash-ascii key h = IsAscii-decimal (hash_number (hash_of key)) (let small = h.hash in omega arith)

below : (b : ℕ) → nat_lt b 128 ≡ true → b < 128
below b e = grind (arith, nat_tests)

-- a word whose bytes the proofs can compute with
abbrev small : List ℕ → Bool
small [] = true
small (b ∷ bs) = nat_lt b 128 && small bs

word : (bs : List ℕ) → small bs ≡ true → IsAscii bs
word [] e = IsAscii-nil
word (b ∷ bs) e = by (nat_lt b 128) refl (small bs) refl e (word bs)
  where
    by : (t : Bool) → nat_lt b 128 ≡ t → (u : Bool) → small bs ≡ u → (t && u) ≡ true → (small bs ≡ true → IsAscii bs) → IsAscii (b ∷ bs)
    by true x true y e w = IsAscii-cons b bs (below b x) (w y)
    by true x false y e w = cc
    by false x u y e w = cc

fields-ascii : (c : Line) → IsLawful c → AllByRecursion IsAscii (fields c)
fields-ascii (Put key v) l = (word (codes "put") refl, (hash-ascii key l.0, (key-ascii key l.0, (IsAscii-signed v (fits-mag v l.1), tt))))
fields-ascii (Get key) l = (word (codes "get") refl, (hash-ascii key l, (key-ascii key l, tt)))
fields-ascii (Del key) l = (word (codes "del") refl, (hash-ascii key l, (key-ascii key l, tt)))
fields-ascii (At n) l = (word (codes "at") refl, (IsAscii-decimal n (omega arith), tt))
fields-ascii Pop l = (word (codes "pop") refl, tt)
fields-ascii Rev l = (word (codes "rev") refl, tt)
fields-ascii Sort l = (word (codes "sort") refl, tt)
fields-ascii Clear l = (word (codes "clear") refl, tt)
fields-ascii (Reserve n) l = (word (codes "reserve") refl, (IsAscii-decimal n (omega arith), tt))
fields-ascii Slim l = (word (codes "slim") refl, tt)
fields-ascii Len l = (word (codes "len") refl, tt)
fields-ascii Walk l = (word (codes "walk") refl, tt)

pub text-ascii : (text : List ℕ) (c : Line) → IsTextOf text c → IsAscii text
text-ascii text c h =
    let e : join_with_byte 32 (fields c) ≡ text = ap (join_with_byte 32) (sym h.written) ∙ join_with_byte-slice_split 32 text in
    subst IsAscii e (join-ascii 32 (fields c) (lit< tt) (fields-ascii c h.lawful))

pub not-text-is-bad : (text : List ℕ) → ¬ (IsUtf8 text) → IsBad text
not-text-is-bad text h = λ c w. h (IsUtf8-from_ascii text (text-ascii text c w))
