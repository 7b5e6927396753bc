use Rattle.starlark_hash.proofs.Common.{[], ap, ◌∙◌, arith}
use Rattle.std.proofs.lemmas.Result.{IfOk-at_ok}
use Rattle.std.specs.Str.Iter.{split_whitespace_rest}
use Rattle.starlark_uses.proofs.Tallies.{all_seen, begins_with, counts_before_next, tally_of_none}
use Rattle.starlark_uses.proofs.words.tally_of.Goals as goal

-- no word is seen yet, and the whole text is left
pub loop-word-init : goal.loop-word-init
loop-word-init c =
    let whole = ap split_whitespace_rest c.into_iter-word-iterator.ensures.into_iter_gives ∙ c.split_whitespace-word-items.ensures.rest in
    record {
      seen = [];
      counted = tally_of_none c.new-tally.ensures.empty;
      and_rest = rw whole (λ words are. are);
      within = rw whole (omega arith);
    }

-- the iterator gave a word, which was counted
pub loop-word-preserved : goal.loop-word-preserved
loop-word-preserved c =
    let begins = begins_with _ c.in-Some.word.now _ c.in-Some.ensures.steps in
    let bumped = IfOk-at_ok _ c.in_ok-bump.was (rw c.in-Some.word-is at c.bump.ensures) in
    counts_before_next c.loop-word.invariant begins bumped

-- no word is left
pub returns : goal.returns
returns c =
    let before = c.loop-word.invariant in
    (before.seen, all_seen before c.in-None.ensures.steps.1, before.counted)
