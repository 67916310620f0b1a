use Rattle.std.proofs.Common.{◌≡◌, None, sym, subst, ◌∙◌}
use Rattle.std.specs.FinMap.Entries.{find}
use Rattle.rbac_terms.specs.Name.{name_cmp}
use Rattle.rbac_separation.specs.Counts.{Counts}
use Rattle.rbac_separation.proofs.CountLemmas.{no_user, user_gone, user_gone_kept}
use Rattle.rbac_separation.proofs.counts.Counts.forget_user.Goals as goal

pub returns-in_default : goal.returns-in_default
returns-in_default c = no_user c.args.self.now c.args.user.now (subst (λ (m : Counts). find name_cmp c.args.user.now m.users ≡ None) c.self.view_is (sym c.number.ensures ∙ c.in_default.is))

pub invariant_of-self : goal.invariant_of-self
invariant_of-self c = user_gone_kept _ _ c.self.view_is _ _ _ _ c.forget_row.ensures (sym c.number.ensures ∙ c.in-Some.is) c.remove.ensures c.self.invariant

pub returns : goal.returns
returns c = user_gone _ _ c.self.view_is _ _ _ _ c.forget_row.ensures (sym c.number.ensures ∙ c.in-Some.is) c.remove.ensures c.invariants.ensures
