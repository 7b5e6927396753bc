pub mod dict
