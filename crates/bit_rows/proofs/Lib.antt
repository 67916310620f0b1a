pub mod BitLemmas
pub mod RowLemmas
