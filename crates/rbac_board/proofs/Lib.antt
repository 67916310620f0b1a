mod AddressLemmas
pub mod AgreementLemmas
mod ImageLemmas
mod RowLemmas
