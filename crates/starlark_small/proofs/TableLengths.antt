-- The number of hashes of a hash index.
use Rattle.starlark_small.proofs.Kept.{length-hashes_in}

pub ruleset lengths = (length-hashes_in)
