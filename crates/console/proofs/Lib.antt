pub mod BufferLaws
pub mod LineLaws
pub mod TurnLaws
pub mod Runs
pub mod Loops
