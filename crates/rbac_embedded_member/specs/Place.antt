-- What a place has.
use Rattle.std.specs.Prelude.{Bool}
use Rattle.rbac_words.specs.Keeping.Member.{Member}

-- a member, which acts, or only observes
pub record KeptMember : Type 0 where
  pub member : Member
  pub observes : Bool
