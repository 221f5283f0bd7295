pub mod Rules
pub mod Range
