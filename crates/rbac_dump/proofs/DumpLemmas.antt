-- The commands of a dump are each done, and make the state again.
use Rattle.std.proofs.Common.{ℕ, Bool, [], refl, ap}
use Rattle.std.proofs.lemmas.List.{append-nil}
use Rattle.rbac_terms.specs.Separation.{RoleSet}
use Rattle.rbac_terms.specs.Name.{Name}
use Rattle.rbac_terms.specs.State.{State, founding_state}
use Rattle.rbac_terms.specs.Constraints.{with_sets}
use Rattle.rbac_terms.specs.Sound.{IsSound}
use Rattle.rbac_terms.specs.declared.separation.Separation.{Separation}
use Rattle.rbac_terms.specs.declared.separation.Separation.TheVariants.{Static, Dynamic}
use Rattle.rbac_dump.specs.Dump.{user_command, role_command, assignment_command, declaration_command, grant_command, set_command, session_command, is_long, early_set, late_set, session_commands, dump_of}
use Rattle.rbac_dump.proofs.Leading.{Leads, leads_to, and_then, and_each}
use Rattle.rbac_dump.proofs.Early.{quiet_static, quiet_dynamic}
use Rattle.rbac_dump.proofs.Sets.{tells_early, tells_late}
use Rattle.rbac_dump.proofs.Sessions.{tells_sessions}
use Rattle.rbac_dump.proofs.Steps.{with_users, with_roles, with_early_static, with_early_dynamic, with_assigned, with_declared, with_granted, with_static, with_sessions, with_dynamic, tells_users, tells_roles, tells_assignments, tells_declarations, tells_grants}

pub dump_leads : (room : ℕ) (s : State) → IsSound s → Leads (founding_state s.vocabulary) (dump_of room s) s
dump_leads room s h =
    let users = and_then founded [] user_command (with_users long s) s.users (refl, tt, tt) (tells_users long s h) in
    let roles = and_then founded _ role_command (with_roles long s) s.roles users (tells_roles long s h) in
    let early_static = and_each founded _ (early_set room Static) (with_early_static long s) s.static_sets roles
    (tells_early (long Static) Static (with_roles long s s.roles) s.static_sets h.separation.static_sets (quiet_static (with_roles long s s.roles))) in
    let early_dynamic = and_each founded _ (early_set room Dynamic) (with_early_dynamic long s) s.dynamic_sets early_static
    (tells_early (long Dynamic) Dynamic (with_early_static long s s.static_sets []) s.dynamic_sets h.separation.dynamic_sets (quiet_dynamic (with_early_static long s s.static_sets []))) in
    let assigned = and_then founded _ assignment_command (with_assigned long s) s.assigned early_dynamic (tells_assignments long s h) in
    let declared = and_then founded _ declaration_command (with_declared long s) s.declared assigned (tells_declarations long s h) in
    let granted = and_then founded _ grant_command (with_granted long s) s.granted declared (tells_grants long s h) in
    let static_sets = and_each founded _ (late_set room Static) (with_static long s) s.static_sets granted
    (tells_late (long Static) Static (with_granted long s s.granted) s.static_sets h.separation.static_sets h.separation.static) in
    let whole_static = leads_to founded _ _ _ (ap (λ sets. with_sets Static sets (with_granted long s s.granted)) (append-nil s.static_sets)) static_sets in
    let sessions = and_each founded _ (session_commands room) (λ done rest. with_sessions long s done) s.sessions whole_static (tells_sessions (long Dynamic) s h (λ e. is_long room (session_command e))) in
    let dynamic_sets = and_each founded _ (late_set room Dynamic) (with_dynamic long s) s.dynamic_sets sessions
    (tells_late (long Dynamic) Dynamic (with_sessions long s s.sessions) s.dynamic_sets h.separation.dynamic_sets h.separation.dynamic) in
    leads_to founded _ _ _ (ap (λ sets. with_sets Dynamic sets (with_sessions long s s.sessions)) (append-nil s.dynamic_sets)) dynamic_sets
  where
    founded : State
    founded = founding_state s.vocabulary

    long : Separation → Name × RoleSet → Bool
    long kind e = is_long room (set_command kind e)
