pub mod Texts
pub mod Served
