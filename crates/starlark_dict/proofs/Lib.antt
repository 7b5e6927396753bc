pub mod OwnPairs
pub mod Changes
pub mod Inserted
pub mod Collected
pub mod Walked
mod DictOpen
pub mod Rebuilt
pub mod Moves
pub mod Kept
pub mod Compared
pub mod Elements
pub mod KeptElements
pub mod Gathered
pub mod EntryLemmas
