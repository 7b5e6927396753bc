pub mod block
pub mod column
pub mod row
