pub mod Conversation
pub mod Event
pub mod Text
pub mod Output
