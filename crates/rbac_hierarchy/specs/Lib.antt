pub mod Numbers
pub mod Order
pub mod Renewal
pub mod Rows
pub mod Walk
pub mod Changes
