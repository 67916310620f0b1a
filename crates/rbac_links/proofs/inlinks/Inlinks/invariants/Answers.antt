use Rattle.rbac_links.proofs.LinkLemmas.{same_length}
use Rattle.rbac_links.proofs.inlinks.Inlinks.invariants.Goals as goal

pub returns-clause-same_length : goal.returns-clause-same_length
returns-clause-same_length c =
    let a = c.self.inside in
    rw (← c.self.view_is) (same_length a.members a.read a.latest c.self.invariant.same_length)
