pub mod Running
mod Witness
mod Needed
