use Rattle.std.proofs.Common.{◌≡◌, None, sym, subst, ◌∙◌}
use Rattle.std.specs.FinMap.Entries.{find}
use Rattle.rbac_terms.specs.Name.{name_cmp}
use Rattle.rbac_separation.specs.Counts.{Counts}
use Rattle.rbac_separation.proofs.CountLemmas.{no_set, set_gone, set_gone_kept}
use Rattle.rbac_separation.proofs.counts.Counts.forget_set.Goals as goal

pub returns-in_default : goal.returns-in_default
returns-in_default c = no_set c.args.self.now c.args.set.now (subst (λ (m : Counts). find name_cmp c.args.set.now m.sets ≡ None) c.self.view_is (sym c.number.ensures ∙ c.in_default.is))

pub invariant_of-self : goal.invariant_of-self
invariant_of-self c = set_gone_kept _ _ c.self.view_is _ _ _ _ c.forget_place.ensures (sym c.number.ensures ∙ c.in-Some.is) c.remove.ensures c.self.invariant

pub returns : goal.returns
returns c = set_gone _ _ c.self.view_is _ _ _ _ c.forget_place.ensures (sym c.number.ensures ∙ c.in-Some.is) c.remove.ensures c.invariants.ensures
