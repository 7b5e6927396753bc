pub mod Counted
pub mod Copied
pub mod Found
pub mod CacheLemmas
pub mod Interning
pub mod Ordered
pub mod Tallies
