mod UsersWalk
pub mod GrantLemmas
