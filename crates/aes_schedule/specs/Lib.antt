pub mod KeyExpansion
pub mod NextWords
