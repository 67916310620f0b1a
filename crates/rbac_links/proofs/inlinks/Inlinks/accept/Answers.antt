use Rattle.rbac_links.proofs.LinkLemmas.{taken_is}
use Rattle.rbac_links.proofs.inlinks.Inlinks.accept.Goals as goal

pub returns-clause-taken : goal.returns-clause-taken
returns-clause-taken c = taken_is c.self.inside c.args.self.now c.args.from c.args.number c.args.stamp c.self.view_is c.in_ok-check.ensures.taken
