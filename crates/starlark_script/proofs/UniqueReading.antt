-- A text is the text of at most one line.
use Rattle.starlark_hash.proofs.Common.{◌≡◌, ℕ, true, List, [], get_or, refl, sym, ap, ◌∙◌, arith, bytes_eq, false≢true}
use Rattle.std.specs.Prelude.{decimal}
use Rattle.std.specs.Cmp.Lexicographic.{nat_list_eq_equiv}
use Rattle.std.specs.Fmt.{signed_decimal}
use Rattle.std.proofs.lemmas.Fmt.{decimal_injective, signed_decimal_injective}
use Rattle.starlark_hash.specs.HashValue.{hash_number, hash_of, key_of}
use Rattle.starlark_script.specs.Line.{Key, Line, Put, Get, Del, At, Pop, Rev, Sort, Clear, Reserve, Slim, Len, Walk, fields, hash_text, IsKey, IsLawful, TextsAreOfOne}
use Rattle.starlark_script.proofs.Numbers.{fits-mag}

one-key : (j k : Key) → IsKey j → IsKey k → hash_text j ≡ hash_text k → key_of j ≡ key_of k → j ≡ k
one-key j k p q a b =
    let m : hash_number (hash_of j) ≡ hash_number (hash_of k) = decimal_injective (hash_number (hash_of j)) (hash_number (hash_of k)) (let s = p.hash in omega arith) (let s = q.hash in omega arith) a in
    let of : ℕ → List ℕ → Key = λ n text. record { hash = record { 0 = n }; key = text } in
    ap (λ n. of n (key_of j)) m ∙ ap (λ text. of (hash_number (hash_of k)) text) b

-- two lines with one text begin with the same word
same-word : (c d : Line) → fields c ≡ fields d → bytes_eq (get_or (fields c) 0 []) (get_or (fields d) 0 []) ≡ true
same-word c d e = ap (λ (fs : List (List ℕ)). bytes_eq (get_or (fields c) 0 []) (get_or fs 0 [])) (sym e) ∙ nat_list_eq_equiv.refl (get_or (fields c) 0 [])

one : (c d : Line) → IsLawful c → IsLawful d → fields c ≡ fields d → c ≡ d
one (Put j v) (Put k w) p q e =
    let a : hash_text j ≡ hash_text k = cc in
    let b : key_of j ≡ key_of k = cc in
    let x : signed_decimal v ≡ signed_decimal w = cc in
    let m = one-key j k p.0 q.0 a b in
    let n = signed_decimal_injective v w (fits-mag v p.1) (fits-mag w q.1) x in
    rw (m, n) refl
one (Get j) (Get k) p q e =
    let a : hash_text j ≡ hash_text k = cc in
    let b : key_of j ≡ key_of k = cc in
    ap Get (one-key j k p q a b)
one (Del j) (Del k) p q e =
    let a : hash_text j ≡ hash_text k = cc in
    let b : key_of j ≡ key_of k = cc in
    ap Del (one-key j k p q a b)
one (At m) (At n) p q e =
    let a : decimal m ≡ decimal n = cc in
    ap At (decimal_injective m n (omega arith) (omega arith) a)
one Pop Pop p q e = refl
one Rev Rev p q e = refl
one Sort Sort p q e = refl
one Clear Clear p q e = refl
one (Reserve m) (Reserve n) p q e =
    let a : decimal m ≡ decimal n = cc in
    ap Reserve (decimal_injective m n (omega arith) (omega arith) a)
one Slim Slim p q e = refl
one Len Len p q e = refl
one Walk Walk p q e = refl
one c d p q e = absurd (false≢true (same-word c d e))

pub one-reading : TextsAreOfOne
one-reading text c d g h = one c d g.lawful h.lawful (sym g.written ∙ h.written)
