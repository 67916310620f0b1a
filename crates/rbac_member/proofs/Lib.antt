pub mod CommandLemmas
pub mod DeliveryLemmas
pub mod HoldLemmas
pub mod SerialLemmas
pub mod OwnHoldLemmas
