pub mod Changes
pub mod Sets
