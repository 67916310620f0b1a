use Rattle.std.proofs.Common.{refl, []}
use Rattle.rbac_rules.proofs.InheritanceLemmas.{joined}
use Rattle.rbac_rules.proofs.SoundRoles.{inherits_antisymmetric}
use Rattle.rbac_rules.proofs.inheritance.inheritance_is_a_partial_order.Goals as goal

pub returns : goal.returns
returns c = record {
  reflexive = λ s r is. ([], (is, refl));
  transitive = λ s r q p there on. joined s.roles s.declared r q p there on;
  antisymmetric = inherits_antisymmetric;
}
