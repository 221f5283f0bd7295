pub mod Words
pub mod Block
