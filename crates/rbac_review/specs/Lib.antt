pub mod Among
pub mod Parts
