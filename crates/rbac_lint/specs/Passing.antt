-- Roles by which a session passes by a dynamic set.
use Rattle.std.specs.Prelude.{ℕ, Bool, count_by, sum_by}
use Rattle.rbac_terms.specs.Name.{Name}
use Rattle.rbac_terms.specs.State.{State}
use Rattle.rbac_terms.specs.Inheritance.{juniors}
use Rattle.rbac_terms.specs.Separation.{RoleSet, is_broken}

-- a role inherits as many roles of a set as no session may have active
abbrev pub passes_by : State → Name → Name × RoleSet → Bool
passes_by s role entry = is_broken (juniors s.roles s.declared role) entry.1

-- how many times a role passes by a dynamic set
abbrev pub passing_count : State → ℕ
passing_count s = sum_by (λ role. count_by (passes_by s role) s.dynamic_sets) s.roles
