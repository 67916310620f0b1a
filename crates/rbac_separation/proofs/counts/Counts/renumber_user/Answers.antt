use Rattle.std.proofs.Common.{rules, ap, ◌∙◌}
use Rattle.rbac_separation.specs.Numbered.{names_of}
use Rattle.rbac_separation.specs.Counts.{numbers_of}
use Rattle.rbac_separation.proofs.PlanLemmas.{next_of, has_next, one_renumbered}
use Rattle.rbac_separation.proofs.counts.Counts.renumber_user.Goals as goal

pub number-number-requires : goal.number-number-requires
number-number-requires g c = c.requires.numbered c.set-item.result.0 (has_next c.args.sets.now c.loop-set.set-index c.set-item.result c.loop-set-test.true c.set-item.is)

pub loop-set-preserved : goal.loop-set-preserved
loop-set-preserved g c =
    let left = next_of c.args.sets.now c.loop-set.set-index c.set-item.result c.loop-set-test.true c.set-item.is in
    record {
      places = search rules;
      numbers = λ s u.
          one_renumbered (g.N.Numbering.number c.args.numbering.now) (numbers_of c.loop-set.self) (numbers_of c.put_at.new.self) _ _ _ _ _ c.put_at.ensures.numbers c.number-number.ensures (ap names_of left) s u
          ∙ c.loop-set.invariant.numbers s u;
    }
