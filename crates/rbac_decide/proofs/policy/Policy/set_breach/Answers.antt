use Rattle.std.proofs.Common.{rules, ◌≡◌, Some, None}
use Rattle.rbac_decide.proofs.Common.{Name, RoleSet, first_holder}
use Rattle.rbac_decide.proofs.BreachLemmas.{put_named, put_unbroken}
use Rattle.rbac_decide.proofs.policy.Policy.set_breach.Goals as goal

pub returns-in-Some : goal.returns-in-Some
returns-in-Some c =
    let s = c.args.self.now in
    let new : RoleSet = record { roles = c.args.roles.now; cardinality = c.args.n } in
    let holder : Name = c.in-Some.holder.now in
    let some : first_holder c.args.kind s new ≡ Some holder = search rules in
    put_named c.args.kind c.args.set.now new s c.invariants.ensures holder some

pub returns-in-None : goal.returns-in-None
returns-in-None c =
    let s = c.args.self.now in
    let new : RoleSet = record { roles = c.args.roles.now; cardinality = c.args.n } in
    let none : first_holder c.args.kind s new ≡ None = search rules in
    put_unbroken c.args.kind c.args.set.now new s c.invariants.ensures none
