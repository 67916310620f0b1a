use Rattle.std.proofs.Common.{◌≡◌, ◌∙◌, true, false, not, subst, ap, sym}
use Rattle.rbac_decide.proofs.Common.{State, numbers_of, with_numbers, changes_of, authorized_count, affects, gives_roles, IsPlannedBy, state_of, and_from}
use Rattle.rbac_decide.proofs.AffectedLemmas.{recountable, tells_of}
use Rattle.rbac_decide.proofs.counting.commit_counts.Goals as goal

pub returns-then-gives_roles : goal.returns-then-gives_roles
returns-then-gives_roles c = λ set user.
    let p = c.requires.prepared in
    let command = c.args.command.now in
    let gathered = c.args.gathered.now in
    let gives : gives_roles command ≡ true = sym c.gives_roles.ensures ∙ c.if-gives_roles.true in
    let planned = subst (λ b. IsPlannedBy b command gathered p.before c.args.plan) gives p.planned in
    (λ i. c.commit.ensures i set user)
    ∙ (λ i. with_numbers (changes_of (planned.0 i) (planned.1 i) (c.deref.ensures.value i)) (λ a b. p.counted a b i) set user)
    ∙ tells_of command (state_of p.before p.step.vocabulary) gathered gives p.grounded set user
    ∙ sym (ap (λ (x : State). authorized_count x set user) p.step.made)

pub renumber-requires-clause-numbered : goal.renumber-requires-clause-numbered
renumber-requires-clause-numbered c = λ set user in_sets in_users.
    let p = c.requires.prepared in
    let command = c.args.command.now in
    let takes : gives_roles command ≡ false = sym c.gives_roles.ensures ∙ c.if-gives_roles.false in
    let planned = subst (λ b. IsPlannedBy b command c.args.gathered.now p.before c.args.plan) takes p.planned in
    ap not ((recountable p.before c.args.tables.now c.args.counts.now p.counted (affects c.args.plan) command p.step takes planned).unbroken set user (and_from _ _ in_sets in_users))

pub returns : goal.returns
returns c = λ set user.
    let p = c.requires.prepared in
    let command = c.args.command.now in
    let takes : gives_roles command ≡ false = sym c.gives_roles.ensures ∙ c.if-gives_roles.false in
    let planned = subst (λ b. IsPlannedBy b command c.args.gathered.now p.before c.args.plan) takes p.planned in
    (λ i. c.forget.ensures i set user)
    ∙ (recountable p.before c.args.tables.now c.args.counts.now p.counted (affects c.args.plan) command p.step takes planned).right (numbers_of c.renumber.new.self) c.renumber.ensures set user
