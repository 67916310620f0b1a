-- What a change makes is a value at the set's name.
use Rattle.std.proofs.Common.{◌≡◌, List, refl, sym}
use Rattle.std.specs.FinMap.Entries.{find}
use Rattle.staged.specs.Entries.{with_entry}
use Rattle.staged.proofs.EntryLemmas.{updated_is}
use Rattle.rbac_terms.specs.Name.{Name, name_cmp}
use Rattle.rbac_terms.specs.Separation.{RoleSet}
use Rattle.rbac_separation.specs.Changes.{becomes, changed, set_of_change}
use Rattle.rbac_terms.specs.Change.{with_member}
use Rattle.rbac_separation.specs.declared.set_plan.SetChange.{SetChange}
use Rattle.rbac_separation.specs.declared.set_plan.SetChange.TheVariants.{Create, AddMember}

pub changed_is : (change : SetChange) (es : List (Name × RoleSet)) → with_entry name_cmp (set_of_change change) (becomes change (find name_cmp (set_of_change change) es)) es ≡ changed change es
changed_is (Create set roles cardinality) es = refl
changed_is (AddMember set role) es = sym (updated_is name_cmp set.now (with_member role.now) es)
