use Rattle.rbac_lines.proofs.RunLemmas.{whole_taking, where_ended}
use Rattle.rbac_lines.proofs.conversing.converse.Goals as goal

pub returns-clause-read_to_end : goal.returns-clause-read_to_end
returns-clause-read_to_end g c = where_ended c.run_lines.result _ _ c.run_lines.ensures.ended c.run_lines.ensures.at_end

pub returns-clause-answered : goal.returns-clause-answered
returns-clause-answered g c =
    let o = c.run_lines.ensures.outcome in
    whole_taking _ _ _ _ _ _ _ _ c.run_lines.result o.0 _ o.1 c.run_lines.ensures.at_end c.run_lines.ensures.ended o.2 (λ summary all took. (took.text, took.written, took.all))

pub returns-clause-counted : goal.returns-clause-counted
returns-clause-counted g c =
    let o = c.run_lines.ensures.outcome in
    whole_taking _ _ _ _ _ _ _ _ c.run_lines.result o.0 _ o.1 c.run_lines.ensures.at_end c.run_lines.ensures.ended o.2 (λ summary all took. took.counted)
