mod FollowsLemmas
mod LeadingLemmas
mod OutputLemmas
mod QuestionLemmas
