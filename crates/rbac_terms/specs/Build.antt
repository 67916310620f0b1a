-- When lists make a vocabulary: the first check that fails.
use Rattle.std.specs.Prelude.{List, length, not, ◌||◌, nat_lt, if◌then◌else◌, Option, Some, None}
use Rattle.std.specs.List.{list_all}
use Rattle.sorted_keys.specs.Keys.{repeats}
use Rattle.rbac_terms.specs.Limits.{most_operations, most_objects, most_permissions}
use Rattle.rbac_terms.specs.Name.{Name, Permission, name_cmp, pair_cmp}
use Rattle.rbac_terms.specs.Vocabulary.{is_listed}
use Rattle.rbac_terms.specs.declared.vocabulary.VocabularyRefusal.{VocabularyRefusal}
use Rattle.rbac_terms.specs.declared.vocabulary.VocabularyRefusal.TheVariants.{TooMany, Repeated, UnknownName}

-- why these lists make no vocabulary
abbrev pub vocabulary_refusal : List Name → List Name → List Permission → Option VocabularyRefusal
vocabulary_refusal operations objects permissions =
    if nat_lt most_operations (length operations) || nat_lt most_objects (length objects) || nat_lt most_permissions (length permissions) then Some TooMany
    else (if repeats name_cmp operations || repeats name_cmp objects || repeats pair_cmp permissions then Some Repeated
    else (if not (list_all (is_listed operations objects) permissions) then Some UnknownName
    else None))
