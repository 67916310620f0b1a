-- The words and the lemmas of other crates that most proofs here cite, passed on from one place. Declares nothing.
pub use Rattle.std.specs.Cmp.{IsTotalOrder}
pub use Rattle.std.specs.FinMap.Entries.{find-put}
pub use Rattle.std.specs.List.Sorted.{IsStrictlySortedBy}
pub use Rattle.std.specs.Option.{option_map_or}
pub use Rattle.std.specs.Ordering.{is_eq}
pub use Rattle.std.specs.declared.cmp.Ordering.{Ordering}
pub use Rattle.sorted_keys.specs.Keys.{by_key, without_key}
pub use Rattle.rbac_terms.specs.Authorization.{IsAuthorized, has_permission}
pub use Rattle.rbac_terms.specs.Effect.{effect_unless, reply_unless}
pub use Rattle.rbac_terms.specs.Inheritance.{Inherits, IsChain}
pub use Rattle.rbac_terms.specs.Name.{Grant, Permission}
pub use Rattle.rbac_terms.specs.Relations.{begins_with, ends_with, without_pairs_of, without_role}
pub use Rattle.rbac_terms.specs.Reviews.{active_in}
pub use Rattle.rbac_terms.specs.Rows.{preconditions}
pub use Rattle.rbac_terms.specs.Separation.{first_broken}
pub use Rattle.rbac_terms.specs.Sound.{BringsASet, IsRoleSet}
pub use Rattle.rbac_terms.specs.Subjects.{permitted_sessions, permitted_users, session_names}
pub use Rattle.rbac_terms.specs.Vocabulary.{is_listed}
pub use Rattle.rbac_terms.specs.declared.answer.Denial.{Denial}
pub use Rattle.rbac_terms.specs.declared.answer.Denial.TheVariants.{NoRole, NotAuthorized}
pub use Rattle.rbac_separation.specs.Counts.{row_changes, with_number}
pub use Rattle.rbac_decide.specs.Breaking.{breaks_below, breaks_set, breaks_with, first_holder, is_constrained_junior}
pub use Rattle.rbac_decide.specs.Counting.{AreCountsBy, IsCommandStep, IsPlanOf, TellsAfter, affects, authorized_by, authorized_count, authorized_users_by}
pub use Rattle.rbac_decide.specs.Counting.{breaks_some, count_by_tables, count_in, cut_to, gives_roles, is_touched, juniors_by, may_change, of_set, of_touched}
pub use Rattle.rbac_decide.specs.Counting.{remaining, touched_sets, touches, without_static}
pub use Rattle.rbac_decide.specs.Gains.{AreGains, breaks_touched, changes_gathered, count_with, counts_with, entry_of, number_with, reaches, receives}
pub use Rattle.rbac_decide.specs.Ground.{IsGround, IsPlannedBy}
pub use Rattle.rbac_decide.specs.Hindrance.{Denies, Hindrance, Named, Tells, breach_of, constraint_of, dynamic_breach, first_entry, first_hindrance}
pub use Rattle.rbac_decide.specs.Hindrance.{first_set_in, first_set_of, hindrance_of, name_found, name_of, named, static_breach, told_by}
pub use Rattle.rbac_decide.specs.Hindrance.Named.{a_breach, a_role, a_set}
pub use Rattle.rbac_decide.specs.Planning.{IsGrown, TakesFromSound, order_after, role_sets_after, roles_left, sessions_after, sets_after, taken_out}
pub use Rattle.rbac_decide.specs.Tables.{HasSameRoles, HaveSameSets, IsUndenied, state_of, state_of_roles}
pub use Rattle.rbac_decide.specs.declared.gains.CountedSet.{CountedSet}
pub use Rattle.rbac_decide.specs.declared.named.Named.{Named as NamedByReferences}
pub use Rattle.rbac_decide.specs.declared.tables.Tables.{Tables}
pub use Rattle.std.proofs.lemmas.Bool.{and_from, and_parts, false≢true, le-leb, leb-true, not-false, or_cases, or_left, or_right}
pub use Rattle.std.proofs.lemmas.List.{drop_all, map-append, nil_from_length, take_all}
pub use Rattle.std.proofs.lemmas.List.Sums.{sum_by-cons}
pub use Rattle.std.proofs.lemmas.Option.{cond_some, slice_get-map}
pub use Rattle.sorted_keys.proofs.Kept.{each_found, is_kept, still, was_kept}
pub use Rattle.sorted_keys.proofs.Lists.{Each-weaker, all-same, any-same, filter-same}
pub use Rattle.sorted_keys.proofs.Members.{has-filter, has-with_key, has-without, same_keys}
pub use Rattle.sorted_keys.proofs.Order.{IsBelowAll, greater}
pub use Rattle.sorted_keys.proofs.Ties.{all_member, any_member, member_all, member_any, one_key, same_bits, ties-pair, ties_flip, ties_itself}
pub use Rattle.rbac_terms.proofs.NameLemmas.{grants_exact, grants_total, names_exact, names_total, pairs_exact, pairs_total}
pub use Rattle.rbac_rules.proofs.AuthorizationLemmas.{is_authorized_iff}
pub use Rattle.rbac_rules.proofs.InheritanceLemmas.{chain_end, chain_role, inherits_iff, inherits_over, inherits_still, joined}
pub use Rattle.rbac_rules.proofs.ReviewLemmas.{holds_what_is_listed}
pub use Rattle.rbac_rules.proofs.SoundLemmas.{sound_effect, sound_founding}
pub use Rattle.rbac_rules.proofs.SoundParts.{none_fails}
pub use Rattle.rbac_rules.proofs.SoundRoles.{authorized_before_ascendant, authorized_before_descendant, authorized_before_role, authorized_still}
pub use Rattle.rbac_rules.proofs.SoundRoles.{inherits_nothing, is_there, not_inherited}
pub use Rattle.rbac_rules.proofs.SoundSeparation.{is_false, none_passes}
pub use Rattle.rbac_hierarchy.proofs.JuniorLemmas.{has_juniors}
pub use Rattle.rbac_hierarchy.proofs.Kept.{any-append, one_more}
pub use Rattle.rbac_hierarchy.proofs.LoopLemmas.{any_one_more, if_each}
pub use Rattle.rbac_review.proofs.ReviewLemmas.{authorized_by_own, authorized_for_a_role}
pub use Rattle.rbac_decide.specs.Words.{find, put, Each, filter_map, first_where, list_all, list_any, option_copied, option_map, unwrap_or, eq_by_cmp, has}
pub use Rattle.rbac_decide.specs.Words.{updated, with_key, without, inherits_in, is_authorized, is_entitled, purge, change, end_sessions, with_active}
pub use Rattle.rbac_decide.specs.Words.{with_cardinality, with_member, without_member, breaks_dynamic, breaks_static, is_badly_sized, is_violated, sets_of}
pub use Rattle.rbac_decide.specs.Words.{violation, with_sets, effect, reply, session_holds, inherits, juniors, Name, grant_cmp, name_cmp, pair_cmp}
pub use Rattle.rbac_decide.specs.Words.{active_roles, session_permissions, first_denial, found_and, RoleSet, is_broken, is_broken_by, is_constrained}
pub use Rattle.rbac_decide.specs.Words.{is_well_sized, IsSessionSound, IsSound, Session, State, Vocabulary, Command, AddActiveRole, AddAscendant, AddDescendant}
pub use Rattle.rbac_decide.specs.Words.{AddInheritance, AddRole, AddRoleMember, AssignUser, CreateSession, CreateSet, DeassignUser, DeleteInheritance}
pub use Rattle.rbac_decide.specs.Words.{DeleteRole, DeleteRoleMember, DeleteSet, DeleteUser, ReviewCommand, SetCardinality, Separation, Dynamic, Static, Sets}
pub use Rattle.rbac_decide.specs.Words.{Order, ArePlaced, CountChange, Counts, at_place, changes_of, numbers_of, with_numbers, without_user, names_of}
