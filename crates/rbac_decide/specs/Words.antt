-- The words that most files here cite, passed on from one place. Declares nothing.
pub use Rattle.std.specs.FinMap.Entries.{find, put}
pub use Rattle.std.specs.List.{AllByRecursion as Each, filter_map, find as first_where, list_all, list_any}
pub use Rattle.std.specs.Option.{option_copied, option_map, unwrap_or}
pub use Rattle.std.specs.Ordering.{eq_by_cmp}
pub use Rattle.sorted_keys.specs.Keys.{has, updated, with_key, without}
pub use Rattle.rbac_terms.specs.Authorization.{inherits_in, is_authorized, is_entitled, purge}
pub use Rattle.rbac_terms.specs.Change.{change, end_sessions, with_active, with_cardinality, with_member, without_member}
pub use Rattle.rbac_terms.specs.Constraints.{breaks_dynamic, breaks_static, is_badly_sized, is_violated, sets_of, violation, with_sets}
pub use Rattle.rbac_terms.specs.Effect.{effect, reply, session_holds}
pub use Rattle.rbac_terms.specs.Inheritance.{inherits, juniors}
pub use Rattle.rbac_terms.specs.Name.{Name, grant_cmp, name_cmp, pair_cmp}
pub use Rattle.rbac_terms.specs.Reviews.{active_roles, review_answer, session_permissions}
pub use Rattle.rbac_terms.specs.Rows.{first_denial, found_and, is_limited_at, is_member, is_session, is_set}
pub use Rattle.rbac_terms.specs.Separation.{RoleSet, is_broken, is_broken_by, is_constrained, is_well_sized}
pub use Rattle.rbac_terms.specs.Sound.{IsSessionSound, IsSound}
pub use Rattle.rbac_terms.specs.State.{Session, State, founding_state}
pub use Rattle.rbac_terms.specs.Vocabulary.{Vocabulary, no_vocabulary}
pub use Rattle.rbac_terms.specs.declared.command.Command.{Command}
pub use Rattle.rbac_terms.specs.declared.command.Command.TheVariants.{AddActiveRole, AddAscendant, AddDescendant, AddInheritance, AddRole, AddRoleMember}
pub use Rattle.rbac_terms.specs.declared.command.Command.TheVariants.{AddUser, AssignUser, CheckAccess, CreateSession, CreateSet, DeassignUser}
pub use Rattle.rbac_terms.specs.declared.command.Command.TheVariants.{DeleteInheritance, DeleteRole, DeleteRoleMember, DeleteSession, DeleteSet, DeleteUser}
pub use Rattle.rbac_terms.specs.declared.command.Command.TheVariants.{DropActiveRole, GrantPermission, Review as ReviewCommand, RevokePermission}
pub use Rattle.rbac_terms.specs.declared.command.Command.TheVariants.{SetCardinality}
pub use Rattle.rbac_terms.specs.declared.separation.Separation.{Separation}
pub use Rattle.rbac_terms.specs.declared.separation.Separation.TheVariants.{Dynamic, Static}
pub use Rattle.rbac_rolesets.specs.Changes.{changed}
pub use Rattle.rbac_rolesets.specs.Sets.{Sets}
pub use Rattle.rbac_hierarchy.specs.Changes.{after, after_one, made, with_pair}
pub use Rattle.rbac_hierarchy.specs.Order.{Order}
pub use Rattle.rbac_separation.specs.Counts.{ArePlaced, CountChange, Counts, at_place, changes_of, numbers_of, with_numbers, without_set, without_user}
pub use Rattle.rbac_separation.specs.Numbered.{names_of}
pub use Rattle.rbac_separation.specs.declared.count_plan.CountPlan.{CountPlan}
