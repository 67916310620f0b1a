pub mod Bits
pub mod Room
