pub mod Repacked
pub mod Reading
pub mod Writing
