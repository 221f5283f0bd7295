mod Contracts
pub mod Running
mod Witness
