use Rattle.std.proofs.Common.{sym, ◌∙◌}
use Rattle.rbac_terms.proofs.PrefixLemmas.{prefix_decides, prefix_is_all}
use Rattle.rbac_terms.proofs.name.NameOrd.cmp.Goals as goal

pub returns-in_default : goal.returns-in_default
returns-in_default c =
    rw (sym c.self.view_is) (rw (sym c.other.view_is) (prefix_decides 8 c.self.inside.bytes.value.items c.other.inside.bytes.value.items c.self.invariant.0 c.other.invariant.0 _ _ c.self.invariant.1 c.other.invariant.1 c.cmp.result c.cmp.ensures c.in_default.not-Equal))

pub returns-in-Equal : goal.returns-in-Equal
returns-in-Equal c =
    rw (sym c.self.view_is) (rw (sym c.other.view_is) (prefix_is_all 7 c.self.inside.bytes.value.items c.other.inside.bytes.value.items c.self.invariant.0 c.other.invariant.0 _ _ c.self.invariant.1 c.other.invariant.1 (sym c.in-Equal.is ∙ c.cmp.ensures) c.if-self-eq0.true))
