pub mod Outputs
pub mod Answer
pub mod Challenge
