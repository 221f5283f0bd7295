pub mod Columns
pub mod Rounds
pub mod Range
