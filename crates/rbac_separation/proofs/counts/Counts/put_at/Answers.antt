use Rattle.rbac_separation.proofs.CountLemmas.{set_numbers, set_kept}
use Rattle.rbac_separation.proofs.counts.Counts.put_at.Goals as goal

pub invariant_of-self : goal.invariant_of-self
invariant_of-self c = set_kept _ _ c.self.view_is _ _ c.args.number _ _ c.requires c.index_mut.ensures.value c.put.ensures c.self.invariant

pub returns-clause-numbers : goal.returns-clause-numbers
returns-clause-numbers c = set_numbers _ _ c.self.view_is _ _ c.args.number _ _ c.requires c.index_mut.ensures.value c.put.ensures c.invariants.ensures c.invariants-2.ensures
