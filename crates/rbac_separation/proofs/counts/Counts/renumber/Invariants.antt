use Rattle.std.proofs.Common.{◌≡◌, ◌&&◌, cond, drop}
use Rattle.sorted_keys.specs.Keys.{has}
use Rattle.rbac_terms.specs.Name.{Name, name_cmp}
use Rattle.rbac_separation.specs.Numbered.{names_of}
use Rattle.rbac_separation.specs.Counts.{numbers_of, HaveSamePlaces}
use Rattle.rbac_separation.proofs.counts.Counts.renumber.Given as goal

abbrev pub invariant-loop-k : goal.invariant-loop-k
invariant-loop-k g l =
    let number = g.N.Numbering.number l.numbering in
    record {
      places : HaveSamePlaces l.fn.self l.self;
      numbers : (set user : Name) → cond (has name_cmp set (names_of l.plan.sets.items) && has name_cmp user (names_of (drop l.k l.plan.users.items))) (number set user) (numbers_of l.self set user)
          ≡ cond (has name_cmp set (names_of l.plan.sets.items) && has name_cmp user (names_of l.plan.users.items)) (number set user) (numbers_of l.fn.self set user);
    }
