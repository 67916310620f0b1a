use Rattle.std.proofs.Common.{◌||◌, not, ap, sym, ◌∙◌}
use Rattle.rbac_decide.proofs.Common.{has, is_entitled, end_sessions, name_cmp, without_role, State, Sets, state_of, state_of_roles}
use Rattle.rbac_decide.proofs.EndingLemmas.{ends_active}
use Rattle.rbac_decide.proofs.tables.Tables.delete_role.Goals as goal

pub returns-clause-state : goal.returns-clause-state
returns-clause-state c = λ v.
    let t = c.args.self.now in
    let role = c.args.role.now in
    let s : State = state_of t v in
    let with_sets = λ (sets : Sets). let s : State = state_of (record t { sets = record { content = sets; room = c.remove_role.new.self.room } }) v in s in
    let without_sessions = λ (sets : Sets). end_sessions (λ x. has name_cmp role x.active || not (is_entitled (state_of_roles sets t.hierarchy.content) x)) (with_sets sets) in
    (λ i. let s : State = record (with_sets c.remove_role.new.self.content) { sessions = c.delete_where.ensures i } in s)
    ∙ ap without_sessions c.remove_role.ensures
    ∙ sym (ends_active role (record s { assigned = without_role role s.assigned; granted = without_role role s.granted }))
