pub mod Run
pub mod Memory
pub mod Room
pub mod OneList
pub mod Matches
