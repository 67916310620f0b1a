use Rattle.std.proofs.Common.{ap, ◌∙◌}
use Rattle.rbac_separation.specs.Counts.{Counts, numbers_of}
use Rattle.rbac_separation.proofs.NumberLemmas.{more_self}
use Rattle.rbac_separation.proofs.CountLemmas.{more_kept, more_numbers}
use Rattle.rbac_separation.proofs.counts.Counts.number_names.Goals as goal

pub invariant_of-self : goal.invariant_of-self
invariant_of-self c = more_kept _ _ _ _ _ c.numbered.ensures.more (more_self _) c.self.invariant

pub invariant_of-self-2 : goal.invariant_of-self-2
invariant_of-self-2 c = more_kept _ _ _ _ _ c.numbered.ensures.more c.numbered-2.ensures.more c.self.invariant

pub returns-in_err-sets-clause-numbers : goal.returns-in_err-sets-clause-numbers
returns-in_err-sets-clause-numbers c = more_numbers _ _ _ _ _ c.numbered.ensures.more (more_self _) c.self.invariant ∙ ap (λ (seen : Counts). numbers_of seen) c.self.view_is

pub returns-clause-numbers : goal.returns-clause-numbers
returns-clause-numbers c = more_numbers _ _ _ _ _ c.numbered.ensures.more c.numbered-2.ensures.more c.self.invariant ∙ ap (λ (seen : Counts). numbers_of seen) c.self.view_is

pub returns-in_err-users-clause-numbers : goal.returns-in_err-users-clause-numbers
returns-in_err-users-clause-numbers c = more_numbers _ _ _ _ _ c.numbered.ensures.more c.numbered-2.ensures.more c.self.invariant ∙ ap (λ (seen : Counts). numbers_of seen) c.self.view_is

pub invariant_of-self-in_err-users : goal.invariant_of-self-in_err-users
invariant_of-self-in_err-users c = more_kept _ _ _ _ _ c.numbered.ensures.more c.numbered-2.ensures.more c.self.invariant
