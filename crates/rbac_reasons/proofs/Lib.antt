pub mod AuthorizedLemmas
pub mod ExplanationLemmas
pub mod ListLemmas
pub mod MemberLemmas
pub mod ReasonLemmas
pub mod ToldLemmas
pub mod WalkLemmas
