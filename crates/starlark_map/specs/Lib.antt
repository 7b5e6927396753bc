pub use Rattle.starlark_hash.specs.HashValue
pub use Rattle.starlark_hash.specs.Hasher
pub use Rattle.starlark_hash.specs.Compare as EntriesCompare
pub use Rattle.starlark_hash.specs.Entries
pub use Rattle.starlark_hash.specs.Insert as EntriesInsert
pub use Rattle.starlark_hash.specs.Lookup as EntriesLookup
pub use Rattle.starlark_hash.specs.Search
pub use Rattle.starlark_hash.specs.Sort as EntriesSort
pub use Rattle.starlark_hash.specs.Lend as HashedLend
pub use Rattle.starlark_vec2.specs.PairList
pub use Rattle.starlark_vec2.specs.Growth as PairListGrowth
pub use Rattle.starlark_vec2.specs.Columns
pub use Rattle.starlark_vec2.specs.Sort as PairListSort
pub use Rattle.starlark_vec2.specs.Loan as PairListLoan
pub use Rattle.starlark_vec2.specs.Retain as PairListRetain
pub use Rattle.starlark_hash.specs.Clone as EntriesClone
pub use Rattle.starlark_vec2.specs.Collect as PairListCollect
pub use Rattle.starlark_vec2.specs.Lend as PairListLend
pub use Rattle.starlark_vec2.specs.Iter as PairListIter
pub use Rattle.starlark_vecmap.specs.EntryList
pub use Rattle.starlark_hash.specs.Retain as EntriesRetain
pub use Rattle.starlark_vecmap.specs.Lend as EntryListLend
pub use Rattle.starlark_table.specs.Table
pub use Rattle.starlark_table.specs.Growth as TableGrowth
pub use Rattle.starlark_table.specs.Layout as TableLayout
pub use Rattle.starlark_table.specs.Walk as TableWalk
pub use Rattle.starlark_table.specs.Lend as TableLend
pub use Rattle.starlark_table.specs.Follow as TableFollow
pub use Rattle.starlark_small.specs.Map
pub use Rattle.starlark_small.specs.Memory as MapMemory
pub use Rattle.starlark_small.specs.Insert as MapInsert
pub use Rattle.starlark_small.specs.Lookup as MapLookup
pub use Rattle.starlark_small.specs.Remove as MapRemove
pub use Rattle.starlark_small.specs.Iter as MapIter
pub use Rattle.starlark_small.specs.Lend as MapLend
pub use Rattle.starlark_small.specs.Index
pub use Rattle.starlark_small.specs.Compare as MapCompare
pub use Rattle.starlark_small.specs.CompareLaws as MapCompareLaws
pub use Rattle.starlark_small.specs.Collect as MapCollect
pub use Rattle.starlark_small.specs.MapEntry
pub use Rattle.starlark_small.specs.Sort as MapSort
pub use Rattle.starlark_small.specs.New as MapNew
pub use Rattle.starlark_small.specs.Clone as MapClone
pub use Rattle.starlark_sets.specs.Set
pub use Rattle.starlark_sets.specs.Insert as SetInsert
pub use Rattle.starlark_hash.specs.Unit
pub use Rattle.starlark_sets.specs.Difference
pub use Rattle.starlark_sets.specs.Union
pub use Rattle.starlark_sets.specs.Lend as SetLend
pub use Rattle.starlark_sets.specs.Collect as SetCollect
pub use Rattle.starlark_sets.specs.Retain as SetRetain
pub use Rattle.starlark_sets.specs.Compare as OrderedCompare
pub use Rattle.starlark_sets.specs.CompareLaws as OrderedCompareLaws
pub use Rattle.starlark_sets.specs.TryInsert
pub mod Sorted
pub mod SortedCollect
pub mod SortedLend
pub mod SortedUnion
pub mod JsonFaults
pub mod JsonTexts
pub mod JsonObjects
pub mod JsonArrays
pub use Rattle.starlark_unordered.specs.Lookup as PairsLookup
pub use Rattle.starlark_unordered.specs.Insert as PairsInsert
pub use Rattle.starlark_unordered.specs.Remove as PairsRemove
pub use Rattle.starlark_unordered.specs.Pairs
pub use Rattle.starlark_unordered.specs.Bag
pub use Rattle.starlark_unordered.specs.BagLaws
pub use Rattle.starlark_unordered.specs.Sound
pub use Rattle.starlark_unordered.specs.Iter as PairsIter
pub use Rattle.starlark_unordered.specs.Retain as PairsRetain
pub use Rattle.starlark_unordered.specs.MapValues as PairsMapValues
pub use Rattle.starlark_unordered.specs.Slots as PairsSlots
pub use Rattle.starlark_unordered.specs.Lend as PairsLend
pub use Rattle.starlark_unordered.specs.MapEntry as PairsEntry
pub use Rattle.starlark_unordered.specs.RawEntry
pub use Rattle.starlark_unordered.specs.Collect as PairsCollect
pub use Rattle.starlark_unordered.specs.Set as UnorderedSet
pub use Rattle.starlark_unordered.specs.SetRawEntry
pub use Rattle.starlark_unordered.specs.SetLend as UnorderedSetLend
pub use Rattle.starlark_runs.specs.Run
pub use Rattle.starlark_runs.specs.Memory
pub use Rattle.starlark_runs.specs.Room
pub use Rattle.starlark_runs.specs.OneList
pub use Rattle.starlark_runs.specs.Matches
