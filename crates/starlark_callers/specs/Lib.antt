pub mod Lend
pub mod Pages
pub mod Words
