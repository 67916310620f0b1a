pub mod Inside
pub mod Outbox
pub mod Refusals
