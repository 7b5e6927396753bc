pub mod Compare
pub mod Dict
pub mod DictSet
pub mod Entry
pub mod Lend
pub mod formers
pub mod Retain
pub mod Sort
