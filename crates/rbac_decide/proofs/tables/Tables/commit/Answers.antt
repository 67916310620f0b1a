use Rattle.std.proofs.Common.{◌∙◌}
use Rattle.rbac_decide.proofs.PlanningLemmas.{made_by_plan, same_roles_by_plan, takes_from_sound}
use Rattle.rbac_decide.proofs.tables.Tables.commit.Goals as goal

pub returns-clause-state : goal.returns-clause-state
returns-clause-state c = λ v. c.take_out.ensures.state v ∙ made_by_plan c.args.command.now c.args.self.now c.grow.new.self c.grow.ensures c.requires.undenied v

pub returns-clause-same_roles : goal.returns-clause-same_roles
returns-clause-same_roles c = same_roles_by_plan c.args.command.now c.args.self.now c.grow.new.self c.take_out.new.self c.grow.ensures c.take_out.ensures.roles c.take_out.ensures.hierarchy

pub take_out-requires : goal.take_out-requires
take_out-requires c = takes_from_sound c.args.command.now c.args.self.now c.grow.new.self c.grow.ensures c.requires.undenied
