pub mod Counts
pub mod Spelling
pub mod Pairs
pub mod Bindings
pub mod Cache
pub mod Interned
pub mod Graph
pub mod Words
