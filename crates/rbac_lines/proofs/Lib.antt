pub mod ConversationLemmas
pub mod EventLemmas
pub mod RunLemmas
