pub mod Octets
pub mod Ascii
