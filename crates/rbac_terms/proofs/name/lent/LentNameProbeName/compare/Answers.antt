use Rattle.std.proofs.Common.{sym, ◌∙◌}
use Rattle.rbac_terms.proofs.PrefixLemmas.{prefix_decides, prefix_is_all}
use Rattle.rbac_terms.proofs.name.lent.LentNameProbeName.compare.Goals as goal

pub returns-in_default : goal.returns-in_default
returns-in_default c =
    rw (sym c.key.view_is) (rw (sym c.self.view_is) (prefix_decides 8 c.key.inside.bytes.value.items c.self.inside.bytes.now c.key.invariant.0 c.self.invariant.0 _ _ c.key.invariant.1 c.self.invariant.1 c.cmp.result c.cmp.ensures c.in_default.not-Equal))

pub returns-in-Equal : goal.returns-in-Equal
returns-in-Equal c =
    rw (sym c.key.view_is) (rw (sym c.self.view_is) (prefix_is_all 7 c.key.inside.bytes.value.items c.self.inside.bytes.now c.key.invariant.0 c.self.invariant.0 _ _ c.key.invariant.1 c.self.invariant.1 (sym c.in-Equal.is ∙ c.cmp.ensures) c.if-key-eq0.true))
