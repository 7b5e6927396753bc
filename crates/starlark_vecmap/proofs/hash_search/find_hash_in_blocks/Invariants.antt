-- `rest` is the array behind the hashes that were searched, and none of these is the hash.
use Rattle.starlark_hash.proofs.Common.{◌≡◌, ◌==◌, ◌+◌, length, position_or_len}
use Rattle.starlark_vecmap.proofs.hash_search.find_hash_in_blocks.Given as goal

abbrev pub invariant-loop-rest : goal.invariant-loop-rest
invariant-loop-rest l =
    record {
      parted : l.passed + length l.rest ≡ length l.array;
      index : l.passed + position_or_len (λ h. h == l.fn.hash) l.rest ≡ position_or_len (λ h. h == l.fn.hash) l.array;
    }

abbrev pub decreases-loop-rest : goal.decreases-loop-rest
decreases-loop-rest l = length l.rest
