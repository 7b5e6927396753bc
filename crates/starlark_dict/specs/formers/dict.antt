pub mod Dict
