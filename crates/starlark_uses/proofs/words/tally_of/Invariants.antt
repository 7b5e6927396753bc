use Rattle.std.specs.Str.Iter.{split_whitespace_rest}
use Rattle.starlark_uses.proofs.Tallies.{CountsBefore}
use Rattle.starlark_uses.proofs.words.tally_of.Given as goal

abbrev pub invariant-loop-word : goal.invariant-loop-word
invariant-loop-word l = CountsBefore l.text (split_whitespace_rest l.word-iterator) l.tally
