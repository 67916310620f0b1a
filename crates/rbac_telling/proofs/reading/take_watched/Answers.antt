use Rattle.std.proofs.Common.{◌≡◌}
use Rattle.line_engine.specs.Lines.{lines}
use Rattle.line_engine.specs.Output.{refused_count, state_after}
use Rattle.rbac_telling.proofs.OutputLemmas.{whole_output}
use Rattle.rbac_telling.proofs.reading.take_watched.Goals as goal

pub returns-clause-state : goal.returns-clause-state
returns-clause-state g c = λ taker follows.
    let o = c.run_lines.ensures.outcome in
    let told = c.output_of_run.ensures taker follows _ _ _ _ _ c.run_lines.result o.2 in
    whole_output taker (λ summary all. g.K.Taking.state c.run_lines.new.over ≡ state_after taker 1 (g.K.Taking.state c.args.over.now) (lines all)) _ _ _ _ _ _ c.run_lines.result o.0 _ o.1 c.run_lines.ensures.at_end c.run_lines.ensures.ended told (λ summary all o. o.0.state)

pub returns-clause-counted : goal.returns-clause-counted
returns-clause-counted g c = λ taker follows.
    let o = c.run_lines.ensures.outcome in
    let told = c.output_of_run.ensures taker follows _ _ _ _ _ c.run_lines.result o.2 in
    whole_output taker (λ summary all. summary.refused ≡ refused_count taker 1 (g.K.Taking.state c.args.over.now) (lines all)) _ _ _ _ _ _ c.run_lines.result o.0 _ o.1 c.run_lines.ensures.at_end c.run_lines.ensures.ended told (λ summary all o. o.2)
