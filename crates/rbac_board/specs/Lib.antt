pub mod Address
pub mod Known
pub mod Refused
pub mod Seen
