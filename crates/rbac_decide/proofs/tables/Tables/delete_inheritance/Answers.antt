use Rattle.std.proofs.Common.{sym, ◌∙◌}
use Rattle.rbac_decide.proofs.Common.{State, state_of}
use Rattle.rbac_decide.proofs.EndingLemmas.{ends_below}
use Rattle.rbac_decide.proofs.tables.Tables.delete_inheritance.Goals as goal

pub returns-clause-state : goal.returns-clause-state
returns-clause-state c = λ v.
    let s : State = state_of c.args.self.now v in
    (λ i. let t : State = record s { sessions = c.delete_where.ensures i } in t)
    ∙ sym (ends_below c.requires.0 c.args.descendant.now s (c.requires.1 v))
