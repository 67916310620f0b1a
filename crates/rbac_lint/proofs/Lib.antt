pub mod CleanLemmas
pub mod CountLemmas
