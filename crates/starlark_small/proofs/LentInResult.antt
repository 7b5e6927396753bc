-- Passes on the table's lemmas on a lent pair in a `Result` to the crates above, which do not use the table.
pub use Rattle.starlark_columns.proofs.LoneValue.{lone_value}
pub use Rattle.starlark_table.proofs.LentInResult.{in_err, as_tuple, Entry, entry_val, which}
