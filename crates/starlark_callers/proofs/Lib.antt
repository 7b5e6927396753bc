pub mod Walks
pub mod Steps
mod LookedUp
mod OrderedLent
