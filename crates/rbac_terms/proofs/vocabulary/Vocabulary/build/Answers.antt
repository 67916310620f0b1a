use Rattle.std.proofs.Common.{◌∙◌, true, false, sym, arith}
use Rattle.rbac_terms.specs.declared.hierarchy_kind.HierarchyKind.TheVariants.{General}
use Rattle.rbac_terms.proofs.VocabularyLemmas.{IsCounted, refusal_where_listed, vocabulary_of_sets}
use Rattle.rbac_terms.proofs.vocabulary.Vocabulary.build.Goals as goal

pub returns-then-not-are_listed-clause-first_refusal :
    goal.returns-then-not-are_listed-clause-first_refusal
returns-then-not-are_listed-clause-first_refusal c =
    let counted : IsCounted c.args.operations.items c.args.objects.items c.args.permissions.items = record {
      few_operations = omega (arith, c.args.operations.ok.0, c.len.ensures, c.if-len-gt-MOST_OPERATIONS.false);
      few_objects = omega (arith, c.args.objects.ok.0, c.len-else-len-gt-MOST_OPERATIONS.ensures, c.if-len-gt-MOST_OBJECTS.false);
      few_permissions = omega (arith, c.args.permissions.ok.0, c.len-else-len-gt-MOST_OBJECTS.ensures, c.if-len-gt-MOST_PERMISSIONS.false);
      operations_once = c.in_ok-operations.ensures.distinct;
      objects_once = c.in_ok-objects.ensures.distinct;
      permissions_once = c.in_ok-permissions.ensures.distinct;
    } in
    refusal_where_listed _ _ _ counted false (rw (← c.in_ok-operations.ensures.content, ← c.in_ok-objects.ensures.content, ← c.in_ok-permissions.ensures.content) (sym c.are_listed.ensures ∙ c.if-not-are_listed.true))

counted : (c : goal.Else-not-are_listed) → IsCounted c.args.operations.items c.args.objects.items c.args.permissions.items
counted c = record {
  few_operations = omega (arith, c.args.operations.ok.0, c.len.ensures, c.if-len-gt-MOST_OPERATIONS.false);
  few_objects = omega (arith, c.args.objects.ok.0, c.len-else-len-gt-MOST_OPERATIONS.ensures, c.if-len-gt-MOST_OBJECTS.false);
  few_permissions = omega (arith, c.args.permissions.ok.0, c.len-else-len-gt-MOST_OBJECTS.ensures, c.if-len-gt-MOST_PERMISSIONS.false);
  operations_once = c.in_ok-operations.ensures.distinct;
  objects_once = c.in_ok-objects.ensures.distinct;
  permissions_once = c.in_ok-permissions.ensures.distinct;
}

pub invariant_of-result : goal.invariant_of-result
invariant_of-result c =
    rw (c.in_ok-operations.ensures.content, c.in_ok-objects.ensures.content, c.in_ok-permissions.ensures.content)
    (vocabulary_of_sets _ _ _ (counted c) (rw (← c.in_ok-operations.ensures.content, ← c.in_ok-objects.ensures.content, ← c.in_ok-permissions.ensures.content) (sym c.are_listed.ensures ∙ c.if-not-are_listed.false)) General)

pub returns-clause-fits : goal.returns-clause-fits
returns-clause-fits c = refusal_where_listed _ _ _ (counted c) true (rw (← c.in_ok-operations.ensures.content, ← c.in_ok-objects.ensures.content, ← c.in_ok-permissions.ensures.content) (sym c.are_listed.ensures ∙ c.if-not-are_listed.false))
