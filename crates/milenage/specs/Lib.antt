pub mod Milenage
pub mod Opc
