-- How far a script is played.
use Rattle.starlark_hash.proofs.Common.{◌≡◌, ℕ, ◌+◌, ◌<◌, List, [], ◌∷◌, ◌++◌, length, take, drop, Option, Some, None, refl, sym, ap, ◌∙◌, arith, append_assoc, inl, inr, ⊤, IfSome, Keeps, Appends, prepend_known, append-nil, take_all, drop_all, length_push}
use Rattle.std.proofs.KnownBytes.{Appends-nil, Appends-trans, Appends-kept}
use Rattle.std.proofs.lemmas.List.{nil_from_length}
use Rattle.starlark_script.specs.Lines.{lines_of}
use Rattle.starlark_script.specs.Line.{Line, IsTextOf, IsBad}
use Rattle.starlark_script.specs.Replies.{Entries, reply, after, MayNeedMemory, entries_after, replies}
use Rattle.starlark_script.specs.Script.{AreTextsOf, Answers, IsPlayed, StopsAtBadLine, StopsForMemory}
use Rattle.starlark_script.specs.Found.{Shows}
use Rattle.starlark_script.specs.declared.window.Found.TheVariants.{End, Line as Whole, TooLong}
use Rattle.starlark_script.proofs.LineFacts.{lines-last, first-ended, first-long}

entries_after-push : (es : Entries) (cs : List Line) (c : Line) → entries_after es (cs ++ c ∷ []) ≡ after (entries_after es cs) c
entries_after-push es [] c = refl
entries_after-push es (d ∷ cs) c = entries_after-push (after es d) cs c

replies-push : (es : Entries) (cs : List Line) (c : Line) → replies es (cs ++ c ∷ []) ≡ replies es cs ++ reply (entries_after es cs) c
replies-push es [] c = append-nil (reply es c)
replies-push es (d ∷ cs) c = ap (λ zs. reply es d ++ zs) (replies-push (after es d) cs c) ∙ sym (append_assoc (reply es d) (replies (after es d) cs) (reply (entries_after (after es d) cs) c))

AreTextsOf-push : (ls : List (List ℕ)) (cs : List Line) (l : List ℕ) (c : Line) → AreTextsOf ls cs → IsTextOf l c → AreTextsOf (ls ++ l ∷ []) (cs ++ c ∷ [])
AreTextsOf-push [] [] l c h g = (g, tt)
AreTextsOf-push [] (d ∷ cs) l c h g = absurd h
AreTextsOf-push (k ∷ ls) [] l c h g = absurd h
AreTextsOf-push (k ∷ ls) (d ∷ cs) l c h g = (h.0, AreTextsOf-push ls cs l c h.1 g)

-- the texts of these lines were taken from the script, and `left` remains
pub record Taken (script : List ℕ) (cs : List Line) (left : List ℕ) : Type 0 where
  pub before : List (List ℕ)
  pub cut : lines_of script ≡ before ++ lines_of left
  pub good : AreTextsOf before cs

-- the texts of these lines were taken, if the bytes are known
abbrev pub TakenOf : Option (List ℕ) → List Line → Option (List ℕ) → Type 0
TakenOf None cs left = ⊤
TakenOf (Some script) cs None = ⊥
TakenOf (Some script) cs (Some left) = Taken script cs left

-- `count` lines are done: what is left of the script, what was written, and the entries of the map
pub record Going (known left old new : Option (List ℕ)) (es : Entries) (count : ℕ) : Type 0 where
  pub lines : List Line
  pub taken : TakenOf known lines left
  pub entries : es ≡ entries_after [] lines
  pub count_is : length lines ≡ count
  pub written : Answers old new lines

taken-start : (known : Option (List ℕ)) → TakenOf known [] (prepend_known [] known)
taken-start None = tt
taken-start (Some s) = record { before = []; cut = refl; good = tt }

pub going-start : (known old : Option (List ℕ)) → Going known (prepend_known [] known) old old [] 0
going-start known old = record { lines = []; taken = taken-start known; entries = refl; count_is = refl; written = Appends-nil old }

taken-kept : (known left next : Option (List ℕ)) (cs : List Line) → TakenOf known cs left → Keeps left next → TakenOf known cs next
taken-kept None left next cs t k = tt
taken-kept (Some s) None next cs t k = absurd t
taken-kept (Some s) (Some a) None cs t k = absurd k
taken-kept (Some s) (Some a) (Some b) cs t k = record { before = t.before; cut = t.cut ∙ ap (λ r. t.before ++ lines_of r) (sym k); good = t.good }

pub going-kept : (known left next old new : Option (List ℕ)) (es : Entries) (i : ℕ) → Going known left old new es i → Keeps left next → Going known next old new es i
going-kept known left next old new es i g k =
    record { lines = g.lines; taken = taken-kept known left next g.lines g.taken k; entries = g.entries; count_is = g.count_is; written = g.written }

-- the bytes left begin with this line, and are followed by these
abbrev pub Leads : Option (List ℕ) → List ℕ → Option (List ℕ) → Type 0
Leads None text next = ⊤
Leads (Some bytes) text None = ⊥
Leads (Some bytes) text (Some rest) = lines_of bytes ≡ text ∷ lines_of rest

pub leads-line : (held : List ℕ) (n : ℕ) (rem : Option (List ℕ)) → Shows (Whole n) held rem → Leads (prepend_known held rem) (take n held) (prepend_known (drop (n + 1) held) rem)
leads-line held n None h = tt
leads-line held n (Some rest) (inl h) = first-ended held rest n h.2 h.3
leads-line held n (Some rest) (inr h) =
    let whole : take n held ≡ held = take_all n held (omega arith) in
    let none : drop (n + 1) held ≡ [] = drop_all (n + 1) held (omega arith) in
    let e1 : held ++ rest ≡ held = rw (h.1) (append-nil held) in
    let e2 : drop (n + 1) held ++ rest ≡ [] = rw (h.1, none) refl in
    ap lines_of e1 ∙ lines-last held h.0.3 (omega arith) ∙ rw (whole, e2) refl

taken-next : (known left next : Option (List ℕ)) (text : List ℕ) (cs : List Line) (c : Line) → TakenOf known cs left → Leads left text next → IsTextOf text c → TakenOf known (cs ++ c ∷ []) next
taken-next None left next text cs c t l w = tt
taken-next (Some s) None next text cs c t l w = absurd t
taken-next (Some s) (Some a) None text cs c t l w = absurd l
taken-next (Some s) (Some a) (Some b) text cs c t l w =
    record {
      before = t.before ++ text ∷ [];
      cut = t.cut ∙ ap (λ r. t.before ++ r) l ∙ sym (append_assoc t.before (text ∷ []) (lines_of b));
      good = AreTextsOf-push t.before cs text c t.good w;
    }

-- one more line is done
pub going-step : (known left next old new newer : Option (List ℕ)) (es fs : Entries) (i : ℕ) (text : List ℕ) (c : Line)
    → Going known left old new es i → Leads left text next → IsTextOf text c → fs ≡ after es c → Appends new newer (reply es c)
    → Going known next old newer fs (i + 1)
going-step known left next old new newer es fs i text c g l w e a =
    record {
      lines = g.lines ++ c ∷ [];
      taken = taken-next known left next text g.lines c g.taken l w;
      entries = e ∙ ap (λ x. after x c) g.entries ∙ sym (entries_after-push [] g.lines c);
      count_is = length_push g.lines c ∙ ap (λ n. n + 1) g.count_is;
      written = rw (replies-push [] g.lines c) (Appends-trans old new newer (replies [] g.lines) (reply (entries_after [] g.lines) c) g.written (rw g.entries at a));
    }

-- the script is done
pub going-end : (known rem old new newer : Option (List ℕ)) (held : List ℕ) (es : Entries) (i : ℕ)
    → Going known (prepend_known held rem) old new es i → Shows End held rem → Keeps new newer → IfSome known (IsPlayed old newer)
going-end None rem old new newer held es i g h k = tt
going-end (Some s) None old new newer held es i g h k = absurd g.taken
going-end (Some s) (Some r) old new newer held es i g (inl h) k = absurd h
going-end (Some s) (Some r) old new newer held es i g (inr h) k =
    let none : held ++ r ≡ [] = rw (nil_from_length held h.0, h.1) refl in
    let all : lines_of s ≡ g.taken.before = g.taken.cut ∙ ap (λ x. g.taken.before ++ lines_of x) none ∙ append-nil g.taken.before in
    record { lines = g.lines; good = rw all g.taken.good; written = Appends-kept old new newer (replies [] g.lines) g.written k }

-- the next line is bad
pub going-bad : (known left next old new : Option (List ℕ)) (es : Entries) (i : ℕ) (text : List ℕ)
    → Going known left old new es i → Leads left text next → IsBad text → IfSome known (StopsAtBadLine old new (i + 1))
going-bad None left next old new es i text g l b = tt
going-bad (Some s) None next old new es i text g l b = absurd g.taken
going-bad (Some s) (Some a) None old new es i text g l b = absurd l
going-bad (Some s) (Some a) (Some r) old new es i text g l b =
    record {
      lines = g.lines;
      text = text;
      reaches = record { before = g.taken.before; more = lines_of r; cut = g.taken.cut ∙ ap (λ x. g.taken.before ++ x) l; good = g.taken.good };
      bad = b;
      number_is = ap (λ n. n + 1) (sym g.count_is);
      written = g.written;
    }

-- the next line is good, and was not done
pub going-stop : (known left next old new newer : Option (List ℕ)) (es : Entries) (i : ℕ) (text : List ℕ) (c : Line)
    → Going known left old new es i → Leads left text next → IsTextOf text c → MayNeedMemory es c → Keeps new newer → IfSome known (StopsForMemory old newer)
going-stop None left next old new newer es i text c g l w m k = tt
going-stop (Some s) None next old new newer es i text c g l w m k = absurd g.taken
going-stop (Some s) (Some a) None old new newer es i text c g l w m k = absurd l
going-stop (Some s) (Some a) (Some r) old new newer es i text c g l w m k =
    record {
      lines = g.lines;
      text = text;
      line = c;
      reaches = record { before = g.taken.before; more = lines_of r; cut = g.taken.cut ∙ ap (λ x. g.taken.before ++ x) l; good = g.taken.good };
      good = w;
      needs = rw g.entries at m;
      written = Appends-kept old new newer (replies [] g.lines) g.written k;
    }

long-is-bad : (text : List ℕ) → 1000 < length text → IsBad text
long-is-bad text h c w = let short = w.short in omega arith

-- the next line has more than 1,000 bytes
pub going-long : (known rem old new : Option (List ℕ)) (held : List ℕ) (es : Entries) (i : ℕ)
    → Going known (prepend_known held rem) old new es i → Shows TooLong held rem → IfSome known (StopsAtBadLine old new (i + 1))
going-long None rem old new held es i g h = tt
going-long (Some s) None old new held es i g h = absurd g.taken
going-long (Some s) (Some r) old new held es i g (inr h) = absurd h.0
going-long (Some s) (Some r) old new held es i g (inl h) =
    let f = first-long held r h.0 h.1 in
    record {
      lines = g.lines;
      text = f.0;
      reaches = record { before = g.taken.before; more = f.1; cut = g.taken.cut ∙ ap (λ x. g.taken.before ++ x) f.2; good = g.taken.good };
      bad = long-is-bad f.0 f.3;
      number_is = ap (λ n. n + 1) (sym g.count_is);
      written = g.written;
    }
