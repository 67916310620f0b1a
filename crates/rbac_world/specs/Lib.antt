pub mod Inside
pub mod Moves
