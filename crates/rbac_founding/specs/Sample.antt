-- The sample founding: one member, and a small vocabulary of bookkeeping, with a general hierarchy.
use Rattle.std.specs.Prelude.{[], ◌∷◌, codes}
use Rattle.rbac_terms.specs.Vocabulary.{Vocabulary}
use Rattle.rbac_terms.specs.declared.hierarchy_kind.HierarchyKind.TheVariants.{General}
use Rattle.rbac_words.specs.Group.{Group}

abbrev pub sample_group : Group
sample_group = record { members = 1; clock = 0; sent_limit = 65536 }

abbrev pub sample_vocabulary : Vocabulary
sample_vocabulary = record {
  operations = codes "approve" ∷ codes "pay" ∷ codes "read" ∷ [];
  objects = codes "invoice" ∷ codes "ledger" ∷ [];
  permissions = (codes "approve", codes "invoice") ∷ (codes "pay", codes "invoice") ∷ (codes "read", codes "ledger") ∷ [];
  hierarchy = General;
}
