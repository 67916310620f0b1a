pub mod Kept
pub mod Calls
pub mod Status
pub mod Subjects
pub mod Explaining
pub mod Holding
