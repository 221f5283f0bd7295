pub mod Sbox
pub mod RoundTable
