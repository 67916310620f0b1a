pub mod EntryLemmas
pub mod MadeLemmas
