pub mod AscendingLists
pub mod UnionLookup
pub mod AscendingInsertions
pub mod AscendingUnion
pub mod SortedMapFields
pub mod AscendingKeys
mod Images
mod AscendingMembers
mod JsonWrites
