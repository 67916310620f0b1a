use Rattle.std.proofs.Common.{◌+◌, sym, ◌∙◌}
use Rattle.std.proofs.lemmas.List.{take_rest}
use Rattle.rbac_rolesets.proofs.UsersWalk.{one_before, at_later, at_itself}
use Rattle.rbac_rolesets.proofs.role_sets.users_with.seek.Goals as goal

pub returns-in-Less-clause-is_there : goal.returns-in-Less-clause-is_there
returns-in-Less-clause-is_there c =
    sym (at_later c.args.user.now c.args.users.now c.loop-at.at c.index-users-at.result c.loop-at-test.true c.index-users-at.is c.loop-at.invariant (sym c.cmp.ensures ∙ c.in-Less.is)).0

pub returns-in-Less-clause-later : goal.returns-in-Less-clause-later
returns-in-Less-clause-later c =
    take_rest c.args.users.now c.loop-at.at
    ∙ sym (at_later c.args.user.now c.args.users.now c.loop-at.at c.index-users-at.result c.loop-at-test.true c.index-users-at.is c.loop-at.invariant (sym c.cmp.ensures ∙ c.in-Less.is)).1

pub returns-in-Equal-clause-later : goal.returns-in-Equal-clause-later
returns-in-Equal-clause-later c =
    take_rest c.args.users.now (c.loop-at.at + 1)
    ∙ sym (at_itself c.args.user.now c.args.users.now c.loop-at.at c.index-users-at.result c.loop-at-test.true c.index-users-at.is c.loop-at.invariant (sym c.cmp.ensures ∙ c.in-Equal.is)).1

pub loop-at-preserved : goal.loop-at-preserved
loop-at-preserved c =
    one_before c.args.user.now c.args.users.now c.loop-at.at c.index-users-at.result c.loop-at-test.true c.index-users-at.is c.loop-at.invariant (sym c.cmp.ensures ∙ c.in-Greater.is)
