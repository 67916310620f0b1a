pub mod Leading
pub mod Next
pub mod Early
pub mod Sets
pub mod Sessions
pub mod Steps
pub mod DumpLemmas
pub mod Sizes
