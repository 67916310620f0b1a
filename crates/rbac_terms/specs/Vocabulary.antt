-- The vocabulary of a policy, fixed before its first command.
use Rattle.std.specs.Prelude.{Bool, true, false, ◌≤◌, ◌&&◌, List, [], length, IsTrue}
use Rattle.std.specs.List.{list_all}
use Rattle.std.specs.List.Sorted.{IsStrictlySortedBy}
use Rattle.sorted_keys.specs.Keys.{has}
use Rattle.rbac_terms.specs.Name.{Name, Permission, name_cmp, pair_cmp}
use Rattle.rbac_terms.specs.Limits.{most_operations, most_objects, most_permissions}
use Rattle.rbac_terms.specs.declared.hierarchy_kind.HierarchyKind.{HierarchyKind}
use Rattle.rbac_terms.specs.declared.hierarchy_kind.HierarchyKind.TheVariants.{General, Limited}

-- the operations, the objects and the permissions (ANSI INCITS 359-2004, 5.1: OPS, OBS, PRMS), and the kind of the role
-- hierarchy (5.2: general or limited)
pub record Vocabulary : Type 0 where
  pub operations : List Name
  pub objects : List Name
  pub permissions : List Permission
  pub hierarchy : HierarchyKind

-- whether operation and object of a permission are listed
abbrev pub is_listed : List Name → List Name → Permission → Bool
is_listed operations objects permission = has name_cmp permission.0 operations && has name_cmp permission.1 objects

-- a vocabulary within the limits, whose permissions speak of its own operations and objects
pub record IsVocabulary (v : Vocabulary) : Type 0 where
  pub operations_in_order : IsStrictlySortedBy name_cmp v.operations
  pub objects_in_order : IsStrictlySortedBy name_cmp v.objects
  pub permissions_in_order : IsStrictlySortedBy pair_cmp v.permissions
  pub few_operations : length v.operations ≤ most_operations
  pub few_objects : length v.objects ≤ most_objects
  pub few_permissions : length v.permissions ≤ most_permissions
  pub listed : IsTrue (list_all (is_listed v.operations v.objects) v.permissions)

abbrev pub no_vocabulary : Vocabulary
no_vocabulary = record { operations = []; objects = []; permissions = []; hierarchy = General }

abbrev pub is_limited : HierarchyKind → Bool
is_limited General = false
is_limited Limited = true
