-- Re-exports the definitions of the specs and the names of `starlark_columns` that proofs by hand here cite. Declares
-- nothing.
pub use Rattle.starlark_columns.proofs.Addresses.{At, address_made, address_told, spot_made, spot_told, word, word_good, words, words_good}
pub use Rattle.starlark_columns.proofs.ItemsAtFront.{all_written, front_filled, front_taken, written_cells}
pub use Rattle.starlark_columns.specs.Block.{IsBehind}
pub use Rattle.starlark_columns.specs.Front.{IsFront, with_items}
pub use Rattle.starlark_columns.specs.Lend.{with_cells}
pub use Rattle.starlark_columns.specs.declared.row.Row.{Row}
pub use Rattle.starlark_vec2.specs.Columns.{column}
pub use Rattle.starlark_vec2.specs.Lend.{lends_both_if, with_pair, with_values}
pub use Rattle.starlark_vec2.specs.Loan.{IsEnd, KeptRun, Pair, TakesEnd, frozen, lent_run, with_seconds}
pub use Rattle.starlark_vec2.specs.PairList.{PairList, firsts_of, pair_list, with_pairs}
pub use Rattle.std.specs.declared.option.Option.{Option}
pub use Rattle.std.specs.declared.option.Option.TheVariants.{None, Some}
