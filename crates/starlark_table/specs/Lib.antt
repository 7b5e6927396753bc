pub mod Table
pub mod Follow
pub mod Walk
pub mod Growth
pub mod Layout
pub mod Lend
pub mod Loan
