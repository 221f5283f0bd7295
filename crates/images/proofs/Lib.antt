pub mod Heads
pub mod Answers
pub mod RoundTrips
