pub mod PlaceLemmas
pub mod PlayLemmas
pub mod StepLemmas
pub mod WorldLemmas
