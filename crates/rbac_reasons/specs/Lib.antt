pub mod After
pub mod Explanation
pub mod Lists
pub mod Path
pub mod Reason
pub mod Walk
