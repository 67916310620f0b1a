pub mod FoundingFile
pub mod FoundingEntries
pub mod Sample
