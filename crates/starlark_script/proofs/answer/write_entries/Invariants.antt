-- The replies to the entries so far were written.
use Rattle.starlark_hash.proofs.Common.{◌≡◌, ◌++◌, map, Appends}
use Rattle.std.specs.List.{flat_map}
use Rattle.starlark_small.specs.Iter.{deref_entry}
use Rattle.starlark_script.specs.Replies.{entry_text}
use Rattle.starlark_script.specs.ShownEntries.{entries_of}
use Rattle.starlark_script.proofs.answer.write_entries.Given as goal

abbrev pub invariant-loop-key : goal.invariant-loop-key
invariant-loop-key g l =
    record {
      taken : l.fn.entries ≡ map deref_entry l.yielded ++ l.key-iterator;
      written : Appends (g.W.Write.contents l.fn.writer) (g.W.Write.contents l.writer) (flat_map entry_text (entries_of (map deref_entry l.yielded)));
    }
