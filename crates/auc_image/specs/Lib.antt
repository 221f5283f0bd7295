pub mod Image
pub mod RoundTrips
pub mod Views
