use Rattle.starlark_hash.proofs.Common.{◌≡◌, ◌+◌, string_bytes}
use Rattle.std.proofs.lemmas.Result.{IfOk-at_ok}
use Rattle.starlark_uses.proofs.Tallies.{counts_one_more, text_at}
use Rattle.starlark_uses.proofs.words.bump.Goals as goal

-- the key has the word's bytes
pub returns : goal.returns
returns c =
    let key_is_word = IfOk-at_ok (λ s. string_bytes s ≡ c.args.word.now) c.in_ok-key.was c.from_str.ensures.ok in
    let sets = text_at c.args.tally.now c.insert.new.self c.in_ok-key.key (c.count_of-next.result + 1) c.in_ok-insert.ensures.updates in
    counts_one_more c.requires.no_zero (rw (key_is_word, c.count_of-next.ensures) at sets)
