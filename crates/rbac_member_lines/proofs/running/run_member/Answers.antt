use Rattle.rbac_member_lines.proofs.RunLemmas.{follows, whole_run}
use Rattle.rbac_lines.proofs.RunLemmas.{where_ended}
use Rattle.rbac_member_lines.proofs.running.run_member.Goals as goal

pub returns-clause-outcome : goal.returns-clause-outcome
returns-clause-outcome g c =
    let o = c.run_lines-ended.ensures.outcome in (o.0, o.1, c.output_of_run.ensures _ follows _ _ _ _ _ c.run_lines-ended.result o.2)

pub returns-clause-read_to_end : goal.returns-clause-read_to_end
returns-clause-read_to_end g c = where_ended c.run_lines-ended.result _ _ c.run_lines-ended.ensures.ended c.run_lines-ended.ensures.at_end

pub returns-clause-written : goal.returns-clause-written
returns-clause-written g c =
    let o = returns-clause-outcome g c in
    whole_run _ _ _ _ _ _ _ c.run_lines-ended.result o.0 _ o.1 c.run_lines-ended.ensures.at_end c.run_lines-ended.ensures.ended o.2 (λ summary all o. o.0.written)

pub returns-clause-taken : goal.returns-clause-taken
returns-clause-taken g c =
    let o = returns-clause-outcome g c in
    whole_run _ _ _ _ _ _ _ c.run_lines-ended.result o.0 _ o.1 c.run_lines-ended.ensures.at_end c.run_lines-ended.ensures.ended o.2 (λ summary all o. o.0.state)

pub returns-clause-counted : goal.returns-clause-counted
returns-clause-counted g c =
    let o = returns-clause-outcome g c in
    whole_run _ _ _ _ _ _ _ c.run_lines-ended.result o.0 _ o.1 c.run_lines-ended.ensures.at_end c.run_lines-ended.ensures.ended o.2 (λ summary all o. (o.1, o.2))
