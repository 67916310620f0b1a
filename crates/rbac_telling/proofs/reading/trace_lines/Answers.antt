use Rattle.rbac_telling.specs.Tracing.{tracing}
use Rattle.rbac_telling.proofs.FollowsLemmas.{traces}
use Rattle.rbac_telling.proofs.reading.trace_lines.Goals as goal

pub returns-clause-played : goal.returns-clause-played
returns-clause-played g c = c.take_all.ensures.state tracing traces

pub returns-clause-counted : goal.returns-clause-counted
returns-clause-counted g c = c.take_all.ensures.counted tracing traces
