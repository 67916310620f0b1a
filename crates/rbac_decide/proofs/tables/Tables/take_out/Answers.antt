use Rattle.std.proofs.Common.{◌∙◌, sym, ap, subst}
use Rattle.rbac_decide.proofs.Common.{Command, taken_out, TakesFromSound, state_of}
use Rattle.rbac_decide.proofs.tables.Tables.take_out.Goals as goal

pub returns-in-DeleteUser-clause-state : goal.returns-in-DeleteUser-clause-state
returns-in-DeleteUser-clause-state c = λ v. c.delete_user.ensures.state v ∙ ap (λ (command : Command). taken_out command (state_of c.args.self.now v)) (sym c.in-DeleteUser.is)

pub delete_inheritance-requires : goal.delete_inheritance-requires
delete_inheritance-requires c = subst (λ (command : Command). TakesFromSound command c.args.self.now) c.in-DeleteInheritance.is c.requires

pub deassign_user-requires : goal.deassign_user-requires
deassign_user-requires c = subst (λ (command : Command). TakesFromSound command c.args.self.now) c.in-DeassignUser.is c.requires
