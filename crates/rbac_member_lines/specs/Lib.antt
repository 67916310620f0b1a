pub mod Asked
pub mod Text
pub mod Output
pub mod Carried
