use Rattle.std.proofs.Common.{cond, None, sym, ap, ◌∙◌}
use Rattle.std.specs.FinMap.Entries.{find}
use Rattle.std.specs.Ordering.{eq_by_cmp}
use Rattle.rbac_terms.specs.Name.{name_cmp}
use Rattle.rbac_separation.proofs.NumberLemmas.{named_same, gone_found, gone_numbered}
use Rattle.rbac_separation.proofs.numbered.Numbered.remove.Goals as goal

pub invariant_of-self : goal.invariant_of-self
invariant_of-self c =
    let is = ap (λ m. find name_cmp c.args.name.now m.content) c.self.view_is ∙ sym c.number.ensures ∙ c.in-Some.is in
    gone_numbered _ _ _ _ c.args.name.now c.self.invariant c.remove.ensures.content _ is c.remove-in-Some.ensures.updates.others

pub returns-in-Some : goal.returns-in-Some
returns-in-Some c = λ other.
    gone_found _ _ _ c.remove-in-Some.new.self c.args.name.now c.self.invariant c.remove.ensures.content other
    ∙ ap (λ m. cond (eq_by_cmp name_cmp other c.args.name.now) None (find name_cmp other m.content)) c.self.view_is

pub returns-in_default : goal.returns-in_default
returns-in_default c = named_same (λ x. find name_cmp x c.args.self.now.content) c.args.name.now None (sym c.number.ensures ∙ c.in_default.is)
