use Rattle.starlark_hash.proofs.Common.{◌≡◌, ◌+◌, ◌++◌, ◌∷◌, ◌∙◌, [], ap, append-nil, arith, drop, drop-cons, drop_all, get_or, keys_of, suc, map, pointwise, nat_eq, string_bytes, sym}
use Rattle.std.specs.String.{string_eq, string_eq_equiv}
use Rattle.starlark_uses.specs.Spelling.{spelled}
use Rattle.starlark_uses.proofs.Copied.{copied_dict, copied_list, marked, name_of, names-copied, pushed}
use Rattle.starlark_dict.proofs.Rebuilt.{lookup-next}
use Rattle.starlark_uses.proofs.value.Value.+copy.Goals as goal

pub loop-item-init : goal.loop-item-init
loop-item-init t c = ap (λ l. map spelled l ++ map spelled c.deref-item-items.result.now) c.new-all.ensures.items

pub loop-item-preserved : goal.loop-item-preserved
loop-item-preserved t c =
    let xs = c.deref-item-items.result.now in
    let i = c.loop-item.item-index in
    let done = c.loop-item.all.items in
    let x = c.item-item.result in
    let item : get_or xs i x ≡ x = sym c.item-item.is in
    let next : suc i ≡ i + 1 = omega arith in
    let at : drop i xs ≡ x ∷ drop (i + 1) xs = drop-cons xs i x c.loop-item-test.true ∙ (λ j. item j ∷ drop (next j) xs) in
    ap (λ l. map spelled l ++ map spelled (drop (i + 1) xs)) c.in_ok-push-in-List.ensures.items
    ∙ pushed spelled done c.in_ok-copy-in-List.field-0 x (drop (i + 1) xs) (map spelled xs) c.in_ok-copy-in-List.ensures (ap (λ l. map spelled done ++ map spelled l) (sym at) ∙ c.loop-item.invariant)

pub loop-name-init : goal.loop-name-init
loop-name-init t c = ap (λ l. map marked l ++ map marked c.into_iter-name-iterator.result) c.new-all-in-Dict.ensures.empty

pub append-requires : goal.append-requires
append-requires t c =
    let done = c.loop-name.all.entries in
    let all = c.in-Dict.names.entries in
    let gives = c.into_iter-name-iterator.ensures.into_iter_gives in
    let name = c.in-Some.name.now in
    let item = c.in-Some.item.now in
    let rest = c.next.new.self in
    let whole = ap (λ l. map marked done ++ map marked l) (sym c.in-Some.ensures.steps) ∙ c.loop-name.invariant ∙ ap (map marked) gives.0 in
    lookup-next string_eq string_eq_equiv string_bytes (λ a b c d p q i. pointwise nat_eq (p i) (q i)) c.in_ok-clone-in-Dict.field-0 name c.in_ok-clone-in-Dict.ensures.cases (map name_of rest) done (keys_of all)
    (names-copied done ((name, item) ∷ rest) all whole) gives.5

pub loop-name-preserved : goal.loop-name-preserved
loop-name-preserved t c =
    let done = c.loop-name.all.entries in
    let name = c.in-Some.name.now in
    let item = c.in-Some.item.now in
    let rest = c.next.new.self in
    let key = c.in_ok-clone-in-Dict.field-0 in
    let copy = c.in_ok-copy-in-Dict.field-0 in
    let whole = ap (λ l. map marked done ++ map marked l) (sym c.in-Some.ensures.steps) ∙ c.loop-name.invariant in
    ap (λ l. map marked l ++ map marked rest) c.in_ok-append-in-Dict.ensures
    ∙ pushed marked done (key, copy) (name, item) rest (map marked c.into_iter-name-iterator.result) (λ i. (c.in_ok-clone-in-Dict.ensures.cases i, c.in_ok-copy-in-Dict.ensures i)) whole

pub returns-after-loop-item : goal.returns-after-loop-item
returns-after-loop-item t c =
    let xs = c.deref-item-items.result.now in
    let done = c.loop-item.all.items in
    let none : drop c.loop-item.item-index xs ≡ [] = drop_all c.loop-item.item-index xs c.loop-item-test.false in
    copied_list c.loop-item.all c.in-List.items (sym (append-nil (map spelled done)) ∙ ap (λ l. map spelled done ++ map spelled l) (sym none) ∙ c.loop-item.invariant ∙ ap (map spelled) c.deref-item-items.ensures.value)
    ∙ sym (ap spelled c.in-List.is)

pub returns-in-None-2 : goal.returns-in-None-2
returns-in-None-2 t c =
    let done = c.loop-name.all.entries in
    copied_dict c.loop-name.all c.in-Dict.names
    (sym (append-nil (map marked done)) ∙ ap (λ l. map marked done ++ map marked l) (sym c.in-None-2.ensures.steps.0) ∙ c.loop-name.invariant ∙ ap (map marked) c.into_iter-name-iterator.ensures.into_iter_gives.0)
    ∙ sym (ap spelled c.in-Dict.is)
