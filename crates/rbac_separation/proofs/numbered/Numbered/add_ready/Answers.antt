use Rattle.std.proofs.Common.{is_some, ap, subst, ◌∙◌}
use Rattle.std.specs.FinMap.Entries.{find}
use Rattle.rbac_terms.specs.Name.{name_cmp}
use Rattle.rbac_separation.specs.Numbered.{IsMore}
use Rattle.rbac_separation.proofs.NumberLemmas.{fresh_more, fresh_found, fresh_numbered}
use Rattle.rbac_separation.proofs.numbered.Numbered.add_ready.Goals as goal

pub invariant_of-self : goal.invariant_of-self
invariant_of-self c =
    let made = c.insert_reserved-number.ensures in
    let none = ap (λ m. find name_cmp c.args.name m.content) c.self.view_is ∙ c.requires.absent in
    fresh_numbered _ _ _ _ c.args.name _ c.self.invariant none made.was_vacant c.put.ensures.content (ap is_some made.updates.changed) made.updates.others

pub returns-clause-more : goal.returns-clause-more
returns-clause-more c =
    let none = ap (λ m. find name_cmp c.args.name m.content) c.self.view_is ∙ c.requires.absent in
    subst (λ m. IsMore m.content c.put.new.self.content) c.self.view_is (fresh_more _ _ _ c.insert_reserved-number.new.self c.args.name _ c.self.invariant none c.insert_reserved-number.ensures.was_vacant c.put.ensures.content)

pub returns-clause-found : goal.returns-clause-found
returns-clause-found c =
    let none = ap (λ m. find name_cmp c.args.name m.content) c.self.view_is ∙ c.requires.absent in
    fresh_found _ _ _ c.insert_reserved-number.new.self c.args.name _ c.self.invariant none c.insert_reserved-number.ensures.was_vacant c.put.ensures.content
