pub mod Bench
pub mod Views
