use Rattle.rbac_telling.specs.Applying.{applying}
use Rattle.rbac_telling.proofs.FollowsLemmas.{applies}
use Rattle.rbac_telling.proofs.reading.apply_lines.Goals as goal

pub returns-clause-applied : goal.returns-clause-applied
returns-clause-applied g c = c.take_all.ensures.state applying applies

pub returns-clause-counted : goal.returns-clause-counted
returns-clause-counted g c = c.take_all.ensures.counted applying applies
