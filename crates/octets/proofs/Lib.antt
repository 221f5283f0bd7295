pub mod Absurd
pub mod XorLaws
pub mod Or
pub mod Numbers
pub mod Strings
pub mod Tables
pub mod Ranges
pub mod Parts
pub mod Walks
mod Comparing
pub mod Copies
pub mod Refusals
pub mod PartByPart
pub mod Bytes
