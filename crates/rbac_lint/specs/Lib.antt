pub mod Clean
pub mod Findings
pub mod Passing
