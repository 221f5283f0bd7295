mod Contracts
pub mod Calls
