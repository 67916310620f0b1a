pub mod Changes
pub mod Counts
pub mod Numbered
pub mod SetTable
