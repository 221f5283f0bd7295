pub mod Head
pub mod Images
