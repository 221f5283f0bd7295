pub mod Cipher
