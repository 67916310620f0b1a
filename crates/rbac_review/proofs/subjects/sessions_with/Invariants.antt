use Rattle.std.proofs.Common.{◌≡◌, ◌&&◌, take}
use Rattle.std.specs.List.{list_any}
use Rattle.std.specs.Ordering.{eq_by_cmp}
use Rattle.sorted_keys.specs.Keys.{has}
use Rattle.rbac_terms.specs.Name.{Name, name_cmp}
use Rattle.rbac_terms.specs.State.{Session}
use Rattle.rbac_review.specs.Among.{is_at_work}
use Rattle.rbac_review.proofs.subjects.sessions_with.Given as goal

abbrev pub invariant-loop-place : goal.invariant-loop-place
invariant-loop-place l = (q : Name) → has name_cmp q l.listed ≡ list_any (λ (e : Name × Session). eq_by_cmp name_cmp q e.0 && is_at_work l.roles.names.keys e.1) (take l.place l.sessions.content)
