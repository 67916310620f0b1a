-- What the checks of three lists say of the vocabulary that their sets make.
use Rattle.std.proofs.Common.{Bool, ◌≡◌, ◌≤◌, ◌&&◌, true, false, not, cond, List, length, Some, None, refl, sym, ap, ◌∙◌, arith}
use Rattle.std.specs.List.{list_all}
use Rattle.std.proofs.lemmas.Bool.{le-ltb}
use Rattle.sorted_keys.specs.Keys.{set_of, repeats}
use Rattle.sorted_keys.proofs.Gathered.{has-set_of, sorted_set_of, length-set_of, list_all-set_of}
use Rattle.rbac_terms.specs.declared.vocabulary.VocabularyRefusal.TheVariants.{UnknownName}
use Rattle.rbac_terms.specs.declared.hierarchy_kind.HierarchyKind.{HierarchyKind}
use Rattle.rbac_terms.specs.Build.{vocabulary_refusal}
use Rattle.rbac_terms.specs.Vocabulary.{IsVocabulary, is_listed}
use Rattle.rbac_terms.specs.Limits.{most_operations, most_objects, most_permissions}
use Rattle.rbac_terms.specs.Name.{Name, Permission, name_cmp, pair_cmp}
use Rattle.rbac_terms.proofs.NameLemmas.{names_total, pairs_total, pairs_exact}

-- a few operations, objects and permissions, none of them twice
pub record IsCounted (operations objects : List Name) (permissions : List Permission) : Type 0 where
  pub few_operations : length operations ≤ most_operations
  pub few_objects : length objects ≤ most_objects
  pub few_permissions : length permissions ≤ most_permissions
  pub operations_once : repeats name_cmp operations ≡ false
  pub objects_once : repeats name_cmp objects ≡ false
  pub permissions_once : repeats pair_cmp permissions ≡ false

module _ (operations objects : List Name) (permissions : List Permission) where
  -- the sets are listed as the lists are
  listed_alike : list_all (is_listed (set_of name_cmp operations) (set_of name_cmp objects)) (set_of pair_cmp permissions) ≡ list_all (is_listed operations objects) permissions
  listed_alike =
      list_all-set_of pairs_exact (is_listed (set_of name_cmp operations) (set_of name_cmp objects)) permissions
      ∙ (λ i. list_all (λ p. has-set_of names_total operations p.0 i && has-set_of names_total objects p.1 i) permissions)

  module _ (counted : IsCounted operations objects permissions) where
    -- the last check decides
    pub refusal_of_listed : vocabulary_refusal operations objects permissions ≡ cond (not (list_all (is_listed operations objects) permissions)) (Some UnknownName) None
    refusal_of_listed =
        rw (le-ltb most_operations (length operations) counted.few_operations, le-ltb most_objects (length objects) counted.few_objects, le-ltb most_permissions (length permissions) counted.few_permissions, counted.operations_once, counted.objects_once, counted.permissions_once) refl

    pub refusal_where_listed : (b : Bool) → list_all (is_listed (set_of name_cmp operations) (set_of name_cmp objects)) (set_of pair_cmp permissions) ≡ b → vocabulary_refusal operations objects permissions ≡ cond (not b) (Some UnknownName) None
    refusal_where_listed b e = refusal_of_listed ∙ ap (λ a. cond (not a) (Some UnknownName) None) (sym listed_alike ∙ e)

    -- the sets make a vocabulary
    pub vocabulary_of_sets : list_all (is_listed (set_of name_cmp operations) (set_of name_cmp objects)) (set_of pair_cmp permissions) ≡ true → (kind : HierarchyKind) → IsVocabulary (record { operations = set_of name_cmp operations; objects = set_of name_cmp objects; permissions = set_of pair_cmp permissions; hierarchy = kind })
    vocabulary_of_sets listed kind = record {
      operations_in_order = sorted_set_of names_total operations;
      objects_in_order = sorted_set_of names_total objects;
      permissions_in_order = sorted_set_of pairs_total permissions;
      few_operations = omega (arith, length-set_of names_total operations counted.operations_once, counted.few_operations);
      few_objects = omega (arith, length-set_of names_total objects counted.objects_once, counted.few_objects);
      few_permissions = omega (arith, length-set_of pairs_total permissions counted.permissions_once, counted.few_permissions);
      listed = listed;
    }
