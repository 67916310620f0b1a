pub mod Cells
pub mod Inside
pub mod Node
pub mod Pass
pub mod Refused
pub mod Told
