pub mod HashedLemmas
pub mod ReviewLemmas
pub mod SubjectLemmas
