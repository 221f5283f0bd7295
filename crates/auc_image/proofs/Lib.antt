pub mod Bits
pub mod RoundTrips
