pub mod CallLemmas
pub mod ObserverLemmas
pub mod SentLemmas
pub mod ShortLemmas
pub mod SubmitLemmas
