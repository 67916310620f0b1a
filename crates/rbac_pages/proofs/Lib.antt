pub mod DifferenceLemmas
pub mod HeldLemmas
pub mod MatchLemmas
pub mod TextLemmas
pub mod WhyLemmas
