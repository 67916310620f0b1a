use Rattle.std.proofs.Common.{◌||◌, ◌&&◌, not, ap, sym, ◌∙◌}
use Rattle.rbac_decide.proofs.Common.{eq_by_cmp, has, is_entitled, end_sessions, name_cmp, State, Sets, state_of, state_of_roles}
use Rattle.rbac_decide.proofs.EndingLemmas.{ends_own}
use Rattle.rbac_decide.proofs.tables.Tables.deassign_user.Goals as goal

pub returns-clause-state : goal.returns-clause-state
returns-clause-state c = λ v.
    let t = c.args.self.now in
    let user = c.args.user.now in
    let role = c.args.role.now in
    let with_sets = λ (sets : Sets). let s : State = state_of (record t { sets = record { content = sets; room = c.deassign.new.self.room } }) v in s in
    let without_sessions = λ (sets : Sets). end_sessions (λ x. eq_by_cmp name_cmp user x.owner && (has name_cmp role x.active || not (is_entitled (state_of_roles sets t.hierarchy.content) x))) (with_sets sets) in
    (λ i. let s : State = record (with_sets c.deassign.new.self.content) { sessions = c.delete_where.ensures i } in s)
    ∙ ap without_sessions c.deassign.ensures
    ∙ sym (ends_own user role (state_of t v) (c.requires v))
