pub mod Texts
pub mod DecimalLaws
