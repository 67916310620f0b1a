-- What holds of the parts of a policy.
use Rattle.rbac_decide.specs.Words.{IsSound, Vocabulary, Counts}
use Rattle.rbac_decide.specs.declared.tables.Tables.{Tables}
use Rattle.rbac_decide.specs.Tables.{state_of, HasSameRoles}
use Rattle.rbac_decide.specs.Counting.{AreCountsBy}

pub record IsPolicy (t : Tables) (counts : Counts) (v : Vocabulary) : Type 0 where
  pub sound : IsSound (state_of t v)
  pub same_roles : HasSameRoles t
  pub counted : AreCountsBy t counts
