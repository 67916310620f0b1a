pub mod LongLemmas
pub mod FoundingLemmas
mod StreamLemmas
