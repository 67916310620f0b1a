pub mod Submit
pub mod Ticket
