pub mod Promotion
pub mod HasherLemmas
pub mod SameText
pub mod PositionLemmas
pub mod EntryLemmas
pub mod SearchLemmas
pub mod SortingLemmas
pub mod Common
