pub mod DeliveryLemmas
pub mod RunLemmas
pub mod CarriedLemmas
pub mod CarriedBack
