use Rattle.std.proofs.Common.{◌≡◌, All, take, map}
use Rattle.rbac_decide.proofs.Common.{find, Name, name_cmp, RoleSet, cut_to, entry_of}
use Rattle.rbac_decide.proofs.gains.counted_sets.Given as goal

abbrev pub invariant-loop-entry : goal.invariant-loop-entry
invariant-loop-entry l = record {
  sets : map (entry_of l.below.roles) l.counted.items ≡ map (λ (e : Name × RoleSet). (e.0, cut_to l.below.roles e.1)) (take l.entry-index l.below.sets.items);
  places : All (λ set. set.place ≡ find name_cmp set.set l.counts.sets) l.counted.items;
}
