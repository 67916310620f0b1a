use Rattle.std.proofs.Common.{◌≡◌, ◌&&◌, cond, drop}
use Rattle.std.specs.Ordering.{eq_by_cmp}
use Rattle.sorted_keys.specs.Keys.{has}
use Rattle.rbac_terms.specs.Name.{Name, name_cmp}
use Rattle.rbac_separation.specs.Numbered.{names_of}
use Rattle.rbac_separation.specs.Counts.{numbers_of, HaveSamePlaces}
use Rattle.rbac_separation.proofs.counts.Counts.renumber_user.Given as goal

abbrev pub invariant-loop-set : goal.invariant-loop-set
invariant-loop-set g l =
    let number = g.N.Numbering.number l.numbering in
    record {
      places : HaveSamePlaces l.fn.self l.self;
      numbers : (set other : Name) → cond (has name_cmp set (names_of (drop l.set-index l.sets)) && eq_by_cmp name_cmp other l.user.0) (number set other) (numbers_of l.self set other)
          ≡ cond (has name_cmp set (names_of l.sets) && eq_by_cmp name_cmp other l.user.0) (number set other) (numbers_of l.fn.self set other);
    }
