pub mod Holdback
pub mod Queues
