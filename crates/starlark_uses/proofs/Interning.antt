-- Numbers of texts: what a look-up in the set of strings finds, and what an insertion makes of the texts.
use Rattle.starlark_hash.proofs.Common.{◌≡◌, ℕ, zero, suc, ◌<◌, Bool, true, false, cond, eqb, List, [], ◌∷◌, ◌++◌, length, get_or, Option, Some, None, IfSome, Result, Ok, refl, sym, ap, subst, ◌∙◌, arith, eq-eqb, ◌&&◌, slice_get, option_map, bytes_eq, Global, String, get_or-append_seam, get_or_append_left, length_push, length-map, map-append, All-append, position-Some, get_or_from_slice_get, slice_get-get_or, slice_get-map, slice_get_within, bytes_eq-Decides, if◌then◌else◌, is_some, IsTrue, IfOk, OnOk, OnErr, MatchOption, MatchResult, Err}
use Rattle.std.proofs.Common.{below_more}
use Rattle.std.specs.Hash as fed
use Rattle.std.specs.String.{string_bytes}
use Rattle.std.specs.Prelude.{All}
use Rattle.starlark_hash.specs.Entries.{Entry, entry_hash, entry_key, position_of}
use Rattle.starlark_hash.specs.Hasher.{own_hash}
use Rattle.starlark_hash.specs.HashValue.{hash_number, hashed}
use Rattle.starlark_hash.proofs.PositionLemmas.{position-cons}
use Rattle.starlark_small.specs.Insert.{IsInserted, IsRefused}
use Rattle.starlark_sets.specs.Insert.{AddsAt}
use Rattle.starlark_sets.specs.Set.{Elements, Set}
use Rattle.starlark_small.proofs.CallerLookup.{found_before, pushed_first, pushed_other, and_false}
use Rattle.starlark_uses.specs.Interned.{HasNumbers, Texts, interned, number_of, text_of, texts_in}

abbrev pub Strings : Type 0
Strings = Elements (String Global)

-- where a look-up of a text finds it
abbrev pub found_in : Strings → List ℕ → Option ℕ
found_in es text = position_of (own_hash fed.str text) (λ key. bytes_eq text (string_bytes key)) es

false_unless : (b : Bool) → (b ≡ true → ⊥) → b ≡ false
false_unless true never = absurd (never refl)
false_unless false never = refl

-- the own hash tells the same as the text
same_test : (text bytes : List ℕ) (h : ℕ) (b : Bool) → bytes_eq text bytes ≡ b → h ≡ hash_number (own_hash fed.str bytes) → (eqb h (hash_number (own_hash fed.str text)) && b) ≡ b
same_test text bytes h true same own =
    let this : text ≡ bytes = (bytes_eq-Decides text bytes).0 same in
    ap (λ c. c && true) (eq-eqb h (hash_number (own_hash fed.str text)) (own ∙ sym (ap (λ t. hash_number (own_hash fed.str t)) this)))
same_test text bytes h false other own = and_false (eqb h (hash_number (own_hash fed.str text)))

abbrev IsOwn : Entry (String Global) (Unit {0}) → Type 0
IsOwn e = hash_number (entry_hash e) ≡ hash_number (own_hash fed.str (string_bytes (entry_key e)))

found-number : (es : Strings) → All IsOwn es → (text : List ℕ) → found_in es text ≡ number_of (texts_in es) text
found-number [] own text = refl
found-number (e ∷ es) own text =
    let bytes = string_bytes (entry_key e) in
    let t = λ (d : Entry (String Global) (Unit {0})). eqb (hash_number (entry_hash d)) (hash_number (own_hash fed.str text)) && bytes_eq text (string_bytes (entry_key d)) in
    position-cons t e es
    ∙ ap (λ b. cond b (Some 0) (option_map suc (found_in es text))) (same_test text bytes (hash_number (entry_hash e)) (bytes_eq text bytes) refl (own 0 e (omega arith)))
    ∙ ap (λ o. cond (bytes_eq text bytes) (Some 0) (option_map suc o)) (found-number es (λ k d below. own (suc k) d (omega (arith, below))) text)
    ∙ sym (position-cons (bytes_eq text) bytes (texts_in es))

-- a look-up finds the number of a text
pub found : (es : Strings) → HasNumbers es → (text : List ℕ) → found_in es text ≡ number_of (texts_in es) text
found es numbers text = found-number es numbers.own text

-- the text of a number that a text has is that text
pub text_of-number : (texts : Texts) (text : List ℕ) (number : ℕ) → number_of texts text ≡ Some number → text_of texts number ≡ Some text
text_of-number texts text number has =
    let there = position-Some (bytes_eq text) texts number [] has in
    slice_get-get_or texts number [] there.0 ∙ ap Some (sym ((bytes_eq-Decides text (get_or texts number [])).0 there.1))

-- so two texts of one number are one
pub one_text : (texts : Texts) (a b : List ℕ) (number : ℕ) → number_of texts a ≡ Some number → number_of texts b ≡ Some number → b ≡ a
one_text texts a b number first second =
    let there = position-Some (bytes_eq a) texts number [] first in
    let also = position-Some (bytes_eq b) texts number [] second in
    (bytes_eq-Decides b (get_or texts number [])).0 also.1 ∙ sym ((bytes_eq-Decides a (get_or texts number [])).0 there.1)

-- a new text that is put last gets the next number, and the others keep theirs
pub number_of-pushed : (texts : Texts) (text : List ℕ) → number_of texts text ≡ None → number_of (texts ++ text ∷ []) text ≡ Some (length texts)
number_of-pushed texts text new = pushed_first (bytes_eq text) texts text new ((bytes_eq-Decides text text).1 refl)

pub number_of-pushed_other : (texts : Texts) (text other : List ℕ) → (other ≡ text → ⊥) → number_of (texts ++ text ∷ []) other ≡ number_of texts other
number_of-pushed_other texts text other differ = pushed_other (bytes_eq other) texts text (false_unless (bytes_eq other text) (λ same. differ ((bytes_eq-Decides other text).0 same)))

pub number_of-kept : (texts : Texts) (text other : List ℕ) (number : ℕ) → number_of texts other ≡ Some number → number_of (texts ++ text ∷ []) other ≡ Some number
number_of-kept texts text other number has = found_before (bytes_eq other) texts (text ∷ []) number has

-- each text has its index for its number
abbrev Numbered : Texts → Type 0
Numbered texts = (i : ℕ) (d : List ℕ) → i < length texts → number_of texts (get_or texts i d) ≡ Some i

numbered-pushed : (texts : Texts) (text : List ℕ) → Numbered texts → number_of texts text ≡ None → Numbered (texts ++ text ∷ [])
numbered-pushed texts text each new i d within =
    let all = texts ++ text ∷ [] in
    let P : ℕ → Type 0 = λ k. number_of all (get_or all k d) ≡ Some k in
    below_more P (length texts)
    (λ k below. ap (number_of all) (get_or_append_left texts (text ∷ []) d k below) ∙ number_of-kept texts text (get_or texts k d) k (each k d below))
    (ap (number_of all) (get_or-append_seam texts text [] d) ∙ number_of-pushed texts text new)
    i (omega (arith, within, length_push texts text))

-- the entry of a text that a string has
abbrev entry_of : List ℕ → String Global → Entry (String Global) (Unit {0})
entry_of text key = (hashed (own_hash fed.str text) key, tt)

pub texts-pushed : (es : Strings) (text : List ℕ) (key : String Global) → string_bytes key ≡ text → texts_in (es ++ entry_of text key ∷ []) ≡ texts_in es ++ text ∷ []
texts-pushed es text key is = map-append (λ e. string_bytes (entry_key e)) es (entry_of text key ∷ []) ∙ ap (λ t. texts_in es ++ t ∷ []) is

own-last : (text : List ℕ) (key : String Global) → string_bytes key ≡ text → All IsOwn (entry_of text key ∷ [])
own-last text key is zero d within = ap (λ t. hash_number (own_hash fed.str t)) (sym is)
own-last text key is (suc k) d within = absurd (omega (arith, within))

pub numbers-pushed : (es : Strings) (text : List ℕ) (key : String Global) → HasNumbers es → number_of (texts_in es) text ≡ None → string_bytes key ≡ text → HasNumbers (es ++ entry_of text key ∷ [])
numbers-pushed es text key has new is = record {
  own = All-append IsOwn es (entry_of text key ∷ []) has.own (own-last text key is);
  numbers = subst Numbered (sym (texts-pushed es text key is)) (numbered-pushed (texts_in es) text has.numbers new);
}

option_texts : (o : Option (Entry (String Global) (Unit {0}))) → option_map (λ e. string_bytes (entry_key e)) o ≡ option_map string_bytes (option_map entry_key o)
option_texts None = refl
option_texts (Some e) = refl

-- the text at the index of a string that is shown
pub text_of-shown : (es : Strings) (number : ℕ) (shown : Option (String Global)) → shown ≡ option_map entry_key (slice_get es number) → text_of (texts_in es) number ≡ option_map string_bytes shown
text_of-shown es number shown is =
    slice_get-map (λ e. string_bytes (entry_key e)) es number ∙ option_texts (slice_get es number) ∙ ap (option_map string_bytes) (sym is)

-- and a text that is there has its index for its number
pub number_of-text : (es : Strings) → HasNumbers es → (text : List ℕ) (number : ℕ) → text_of (texts_in es) number ≡ Some text → number_of (texts_in es) text ≡ Some number
number_of-text es has text number is =
    ap (number_of (texts_in es)) (sym (get_or_from_slice_get (texts_in es) number text [] is)) ∙ has.numbers number [] (slice_get_within (texts_in es) number text is)

-- the texts and their numbers, once an insertion for a text was done or refused
pub record Interns {E : Type 0} (before after : Texts) (text : List ℕ) (r : Result ℕ E) : Type 0 where
  pub number : IfOk r (λ number. number_of after text ≡ Some number)
  pub texts : OnOk r (after ≡ interned before text)
  pub stable : (other : List ℕ) (number : ℕ) → number_of before other ≡ Some number → number_of after other ≡ Some number
  pub others : (other : List ℕ) → (other ≡ text → ⊥) → number_of after other ≡ number_of before other
  pub absent : OnErr r (number_of before text ≡ None)

-- an insertion that leaves the texts as they are, done or refused
same-interned : {E : Type 0} (before after : Texts) (text : List ℕ) (r : Result ℕ E) → after ≡ before → IfOk r (λ number. number_of before text ≡ Some number) → OnErr r (number_of before text ≡ None)
    → OnOk r (before ≡ interned before text) → Interns before after text r
same-interned before after text r same number absent texts = rw same (record { number = number; texts = texts; stable = λ other n has. has; others = λ other differ. refl; absent = absent })

interns_at : {E : Type 0} (old new : Set (String Global)) (text : List ℕ) → HasNumbers old.entries → (index : Option ℕ) → number_of (texts_in old.entries) text ≡ index → (r : Result ℕ E)
    → MatchOption index
    (MatchResult r (λ i. (i ≡ length old.entries) × ((key : String Global) × IsTrue (bytes_eq text (string_bytes key)) × IsInserted old new (hashed (own_hash fed.str text) key) tt)) (λ _. IsRefused old new))
    (λ j. MatchResult r (λ i. (i ≡ j) × (new ≡ old)) (λ _. ⊥))
    → HasNumbers new.entries × Interns (texts_in old.entries) (texts_in new.entries) text r
interns_at old new text has None none (Ok i) h =
    let before = texts_in old.entries in let key = h.1.0 in let is : string_bytes key ≡ text = sym ((bytes_eq-Decides text (string_bytes key)).0 h.1.1) in
    let last : texts_in new.entries ≡ before ++ text ∷ [] = ap texts_in h.1.2.entries ∙ texts-pushed old.entries text key is in
    let next : length before ≡ i = length-map old.entries (λ e. string_bytes (entry_key e)) ∙ sym h.0 in (
      subst HasNumbers (sym h.1.2.entries) (numbers-pushed old.entries text key has none is),
      record {
        number = ap (λ t. number_of t text) last ∙ number_of-pushed before text none ∙ ap Some next;
        texts = last ∙ ap (λ o. if is_some o then before else before ++ text ∷ []) (sym none);
        stable = λ other n there. ap (λ t. number_of t other) last ∙ number_of-kept before text other n there;
        others = λ other differ. ap (λ t. number_of t other) last ∙ number_of-pushed_other before text other differ;
        absent = tt;
      },
    )
interns_at old new text has None none (Err e) h = (subst HasNumbers (sym h.entries) has, same-interned (texts_in old.entries) (texts_in new.entries) text (Err e) (ap texts_in h.entries) tt none tt)
interns_at old new text has (Some j) at (Ok i) h =
    let before = texts_in old.entries in let same = ap (λ (s : Set (String Global)). s.entries) h.1 in (
      subst HasNumbers (sym same) has,
      same-interned before (texts_in new.entries) text (Ok i) (ap texts_in same) (at ∙ ap Some (sym h.0)) tt (ap (λ o. if is_some o then before else before ++ text ∷ []) (sym at)),
    )
interns_at old new text has (Some j) at (Err e) h = absurd h

pub interns : {E : Type 0} (old new : Set (String Global)) (text : List ℕ) (r : Result ℕ E) → HasNumbers old.entries
    → AddsAt (λ t key. bytes_eq t (string_bytes key)) (own_hash fed.str text) old new text r → HasNumbers new.entries × Interns (texts_in old.entries) (texts_in new.entries) text r
interns old new text r has adds = interns_at old new text has (found_in old.entries text) (sym (found old.entries has text)) r adds

pub numbered_so : (texts : Texts) (text : List ℕ) (o : Option ℕ) → o ≡ number_of texts text → IfSome o (λ number. text_of texts number ≡ Some text)
numbered_so texts text None is = tt
numbered_so texts text (Some number) is = text_of-number texts text number (sym is)
