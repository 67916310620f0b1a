pub mod StampLemmas
pub mod CommandsBack
pub mod MessageBack
pub mod RecordLemmas
pub mod ReadFits
