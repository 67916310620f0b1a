pub mod Calls
pub mod Inside
pub mod Lists
pub mod Serials
