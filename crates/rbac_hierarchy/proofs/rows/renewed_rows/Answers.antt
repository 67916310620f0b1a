use Rattle.std.proofs.Common.{◌∙◌}
use Rattle.std.specs.List.Sorted.{IsStrictlySortedBy}
use Rattle.sorted_keys.specs.Keys.{by_key}
use Rattle.rbac_terms.specs.Name.{name_cmp}
use Rattle.rbac_hierarchy.specs.Rows.{roles_in}
use Rattle.rbac_hierarchy.proofs.EntryLemmas.{sorted_keys}
use Rattle.rbac_hierarchy.proofs.RowLemmas.{key_among, rows_more}
use Rattle.rbac_hierarchy.proofs.rows.renewed_rows.Goals as goal

pub loop-entry-preserved : goal.loop-entry-preserved
loop-entry-preserved c =
    let all = roles_in c.args.rows.now.content in
    let entries = c.entries-entry-items.result.now in
    let sorted : IsStrictlySortedBy (by_key name_cmp) entries = rw c.entries-entry-items.ensures.entries c.entries-entry-items.ensures.in_order in
    let is_role = rw c.entries-entry-items.ensures.entries at (key_among entries c.loop-entry.entry-index c.entry-item.result c.loop-entry-test.true c.entry-item.is) in
    let names = c.in_ok-names.ensures all (sorted_keys name_cmp _ c.entries-entry-items.ensures.in_order) is_role c.requires in
    c.in_ok-insert.ensures.put
    ∙ rw c.in_ok-role.ensures (rows_more all c.args.declared.now.content entries c.loop-entry.entry-index c.entry-item.result _ _ sorted c.loop-entry-test.true c.entry-item.is names c.loop-entry.invariant)
