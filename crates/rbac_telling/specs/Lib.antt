pub mod Applying
pub mod Leading
pub mod Tracing
