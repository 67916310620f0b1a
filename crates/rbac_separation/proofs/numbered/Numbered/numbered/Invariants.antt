use Rattle.std.proofs.Common.{◌≡◌, Some, All, take}
use Rattle.std.specs.FinMap.Entries.{find}
use Rattle.rbac_terms.specs.Name.{name_cmp}
use Rattle.rbac_separation.specs.Numbered.{names_of, IsMore}
use Rattle.rbac_separation.proofs.numbered.Numbered.numbered.Given as goal

abbrev pub invariant-loop-name : goal.invariant-loop-name
invariant-loop-name l = record {
  more : IsMore l.fn.self.content l.self.content;
  names : names_of l.numbered.items ≡ take l.name-index l.names;
  found : All (λ e. find name_cmp e.0 l.self.content ≡ Some e.1) l.numbered.items;
}
