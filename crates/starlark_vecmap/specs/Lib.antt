pub mod Sort
pub mod EntryList
pub mod Lend
pub mod formers
