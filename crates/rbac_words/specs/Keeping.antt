pub mod Links
pub mod Member
pub mod Members
pub mod Own
