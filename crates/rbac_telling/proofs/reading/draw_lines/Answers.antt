use Rattle.rbac_telling.specs.Tracing.{moving}
use Rattle.rbac_telling.proofs.FollowsLemmas.{moves}
use Rattle.rbac_telling.proofs.reading.draw_lines.Goals as goal

pub returns-clause-played : goal.returns-clause-played
returns-clause-played g c = c.take_all.ensures.state moving moves

pub returns-clause-counted : goal.returns-clause-counted
returns-clause-counted g c = c.take_all.ensures.counted moving moves
