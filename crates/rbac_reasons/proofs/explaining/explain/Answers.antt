use Rattle.std.proofs.Common.{ap}
use Rattle.rbac_decide.specs.Hindrance.{names_of}
use Rattle.rbac_reasons.proofs.explaining.explain.Goals as goal

pub returns-in_ok-roles-in-Breach : goal.returns-in_ok-roles-in-Breach
returns-in_ok-roles-in-Breach c = (c.in-Breach.kind, c.in-Breach.holder.now, c.in-Breach.set.now, ap names_of c.in-Breach.is, c.in_ok-roles-in-Breach.ensures)
