use Rattle.std.proofs.Common.{◌≡◌, subst, IfOk, IfSome, OnOk}
use Rattle.line_engine.specs.Lines.{lines}
use Rattle.line_engine.specs.Output.{refused_count, state_after}
use Rattle.rbac_telling.proofs.reading.take_all.Goals as goal

pub returns-clause-state : goal.returns-clause-state
returns-clause-state g c = λ taker follows.
    subst (λ r. OnOk c.take_watched.result (IfSome (g.R.Read.remaining r) (λ input. g.K.Taking.state c.take_watched.new.over ≡ state_after taker 1 (g.K.Taking.state c.args.over.now) (lines input))))
    c.watch.ensures.inner (c.take_watched.ensures.state taker follows)

pub returns-clause-counted : goal.returns-clause-counted
returns-clause-counted g c = λ taker follows.
    subst (λ r. IfOk c.take_watched.result (λ summary. IfSome (g.R.Read.remaining r) (λ input. summary.refused ≡ refused_count taker 1 (g.K.Taking.state c.args.over.now) (lines input))))
    c.watch.ensures.inner (c.take_watched.ensures.counted taker follows)
