pub mod SubmitLemmas
