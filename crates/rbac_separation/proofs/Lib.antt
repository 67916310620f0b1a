pub mod ChangeLemmas
pub mod CountLemmas
pub mod NumberLemmas
pub mod PlanLemmas
