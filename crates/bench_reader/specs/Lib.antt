pub mod Commands
pub mod Views
