pub mod RoundTrips
pub mod Rows
