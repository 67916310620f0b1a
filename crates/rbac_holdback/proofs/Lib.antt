pub mod LeastLemmas
pub mod MoveLemmas
pub mod PassedLemmas
pub mod PlaceLemmas
pub mod QueueLemmas
pub mod RoomLemmas
