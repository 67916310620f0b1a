pub mod Status
pub mod Step
pub mod Texts
pub mod Place
pub mod Observing
pub mod Holding
pub mod Calls
