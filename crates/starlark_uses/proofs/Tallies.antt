-- What one more word makes of a tally, and what a loop over a text's words has seen.
use Rattle.starlark_hash.proofs.Common.{◌≡◌, ℕ, ◌+◌, ◌<◌, ◌≤◌, Bool, true, false, cond, List, [], ◌∷◌, ◌++◌, length, lookup, Some, sym, refl, ap, ◌∙◌, subst, append_assoc, append-nil, arith, length-append, bytes_eq, string_eq, Global, String, length_push}
use Rattle.std.proofs.Common.{unwrap_or}
use Rattle.std.specs.Char.{is_whitespace, is_not_whitespace}
use Rattle.std.specs.Cmp.Lexicographic.{bytes_decides, nat_list_eq_equiv}
use Rattle.std.specs.Str.{NoCharPasses, EmptyOrStartsWithPassing}
use Rattle.std.specs.String.{string_bytes}
use Rattle.std.proofs.lemmas.List.Sums.{sum_by_push}
use Rattle.std.proofs.lemmas.Map.Text.{hash_map_updates_text}
use Rattle.starlark_dict.specs.Dict.{IsEmpty, Updates, get_by_text}
use Rattle.starlark_uses.specs.Words.{BeginsWithWord, CountsOneMore, HasNoZero, HasWords, IsTallyOf, Tally, count_of}

-- an insertion, at each text: the new value at the key's own, the old one at any other
pub text_at : (old new : Tally) (key : String Global) (n : ℕ) → Updates string_eq old new key (Some n) → (word : List ℕ) → get_by_text new word ≡ cond (bytes_eq (string_bytes key) word) (Some n) (get_by_text old word)
text_at old new key n = hash_map_updates_text (string_bytes key) old new (Some n)

module _ {old new : Tally} {word : List ℕ} where
  -- the number of the word set to one more, in both of what `bump` promises by cases on whether a word is this one
  pub counts_one_more : HasNoZero old → ((other : List ℕ) → get_by_text new other ≡ cond (bytes_eq word other) (Some (count_of old word + 1)) (get_by_text old other)) → CountsOneMore old new word
  counts_one_more no_zero sets = record {
    no_zero = λ other. subst (λ o. 0 < unwrap_or o 1) (sym (sets other)) (above other (bytes_eq word other));
    counts = λ other. ap (λ o. unwrap_or o 0) (sets other) ∙ counted other (bytes_eq word other) refl;
  }
    where
      above : (other : List ℕ) (b : Bool) → 0 < unwrap_or (cond b (Some (count_of old word + 1)) (get_by_text old other)) 1
      above other true = omega arith
      above other false = no_zero other

      counted : (other : List ℕ) (b : Bool) → bytes_eq word other ≡ b → unwrap_or (cond (bytes_eq word other) (Some (count_of old word + 1)) (get_by_text old other)) 0 ≡ count_of old other + cond (bytes_eq other word) 1 0
      counted other true same = rw (nat_list_eq_equiv.symm other word, same) (ap (λ w. count_of old w + 1) ((bytes_decides word other).0 same))
      counted other false apart = rw (nat_list_eq_equiv.symm other word, apart) (omega arith)

-- a dictionary without entries counts no words
pub tally_of_none : {d : Tally} → IsEmpty d → IsTallyOf [] d
tally_of_none {d} none = record {
  no_zero = λ word. subst (λ es. 0 < unwrap_or (lookup (λ key. bytes_eq word (string_bytes key)) es) 1) (sym none) (omega arith);
  counts = λ word. ap (λ es. unwrap_or (lookup (λ key. bytes_eq word (string_bytes key)) es) 0) none;
}

-- what an item of `split_whitespace` is
pub begins_with : (text word rest : List ℕ)
    → (blank : List ℕ) × (text ≡ blank ++ (word ++ rest)) × (0 < length word) × NoCharPasses is_not_whitespace blank × NoCharPasses is_whitespace word × ((more : List ℕ) × EmptyOrStartsWithPassing is_whitespace rest more)
    → BeginsWithWord text word rest
begins_with text word rest item = record { blank = item.0; parts = item.1; some_letter = item.2; blank_alone = item.3; unbroken = item.4; ended = item.5 }

-- the words that were seen before the rest of the text, which the dictionary counts
pub record CountsBefore (text rest : List ℕ) (m : Tally) : Type 0 where
  pub seen : List (List ℕ)
  pub counted : IsTallyOf seen m
  pub and_rest : (words : List (List ℕ)) → HasWords rest words → HasWords text (seen ++ words)
  pub within : length seen + length rest ≤ length text

module _ {text rest : List ℕ} {m : Tally} (before : CountsBefore text rest m) where
  shorter : {word next : List ℕ} → BeginsWithWord rest word next → length next < length rest
  shorter {word} {next} begins = omega (arith, begins.some_letter, ap length begins.parts ∙ length-append begins.blank (word ++ next), length-append word next)

  -- one more word was seen
  pub counts_before_next : {word next : List ℕ} {new : Tally} → BeginsWithWord rest word next → CountsOneMore m new word → CountsBefore text next new
  counts_before_next {word} {next} begins bumped = record {
    seen = before.seen ++ word ∷ [];
    counted = record {
      no_zero = bumped.no_zero;
      counts = λ other. omega (arith, bumped.counts other, before.counted.counts other, sum_by_push (λ w. cond (bytes_eq other w) 1 0) before.seen word);
    };
    and_rest = λ words are. subst (HasWords text) (sym (append_assoc before.seen (word ∷ []) words)) (before.and_rest (word ∷ words) (next, begins, are));
    within = omega (arith, before.within, shorter begins, length_push before.seen word);
  }

  -- where no word is left, those seen are all
  pub all_seen : HasWords rest [] → HasWords text before.seen
  all_seen none = subst (HasWords text) (append-nil before.seen) (before.and_rest [] none)
