use Rattle.std.proofs.Common.{◌≡◌, ◌∙◌, sym, true, false}
use Rattle.sorted_keys.specs.Keys.{has}
use Rattle.rbac_terms.specs.Name.{Permission, pair_cmp}
use Rattle.rbac_review.specs.Parts.{state_of}
use Rattle.rbac_hierarchy.proofs.LoopLemmas.{if_each}
use Rattle.rbac_review.proofs.SubjectLemmas.{no_users, no_sessions, users_listed, sessions_listed}
use Rattle.rbac_review.proofs.parts.Parts.subjects.Goals as goal

pub returns-then-not-has_permission-clause-users : goal.returns-then-not-has_permission-clause-users
returns-then-not-has_permission-clause-users c =
    c.new.ensures ∙ no_users (state_of c.args.self.now) (c.args.operation.now, c.args.object.now) (sym c.has_permission.ensures ∙ c.if-not-has_permission.true)

pub returns-then-not-has_permission-clause-sessions : goal.returns-then-not-has_permission-clause-sessions
returns-then-not-has_permission-clause-sessions c =
    c.new-then-not-has_permission.ensures
    ∙ no_sessions (state_of c.args.self.now) (c.args.operation.now, c.args.object.now) (sym c.has_permission.ensures ∙ c.if-not-has_permission.true)

pub returns-clause-users : goal.returns-clause-users
returns-clause-users c =
    let permission : Permission = (c.args.operation.now, c.args.object.now) in
    let s = state_of c.args.self.now in
    let known : has pair_cmp permission s.vocabulary.permissions ≡ true = sym c.has_permission.ensures ∙ c.if-not-has_permission.false in
    if_each c.subjects_of.result _ _ (λ subjects told. told ∙ users_listed s permission c.in_ok-roles.roles.names.keys c.in_ok-roles.ensures known) c.subjects_of.ensures.users

pub returns-clause-sessions : goal.returns-clause-sessions
returns-clause-sessions c =
    let permission : Permission = (c.args.operation.now, c.args.object.now) in
    let s = state_of c.args.self.now in
    let known : has pair_cmp permission s.vocabulary.permissions ≡ true = sym c.has_permission.ensures ∙ c.if-not-has_permission.false in
    if_each c.subjects_of.result _ _ (λ subjects told. told ∙ sessions_listed s permission c.in_ok-roles.roles.names.keys c.in_ok-roles.ensures known) c.subjects_of.ensures.sessions
