pub mod Prepared
pub mod Family
pub mod Protocol
pub mod Witnesses
pub mod Shapes
