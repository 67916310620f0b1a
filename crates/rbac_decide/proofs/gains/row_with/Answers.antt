use Rattle.std.proofs.Common.{◌∙◌, ◌++◌, ◌∷◌, ◌||◌, ◌+◌, [], map, take, drop, sym, ap}
use Rattle.rbac_decide.proofs.Common.{list_any, number_with, reaches, map-append, take_all, drop_all, one_more}
use Rattle.rbac_decide.proofs.CountingLemmas.{dropped}
use Rattle.rbac_decide.proofs.gains.row_with.Goals as goal

pub loop-set-preserved : goal.loop-set-preserved
loop-set-preserved c =
    let row = c.args.row.now in
    let fresh = c.args.fresh.now in
    let sets = c.args.sets.now in
    let i = c.loop-set.set-index in
    let set = c.set-item.result in
    let lt = c.loop-set-test.true in
    let is = c.set-item.is in
    record {
      numbers =
          c.in_ok-push-in-Some.ensures
          ∙ (λ t. c.loop-set.invariant.numbers t ++ c.in-Some.ensures.1 t ∷ [])
          ∙ sym (map-append (number_with row fresh) (take i sets) (set ∷ []))
          ∙ sym (ap (map (number_with row fresh)) (one_more sets i set lt is));
      breaks =
          c.loop-set.invariant.breaks
          ∙ ap (list_any (reaches row fresh)) (dropped sets i set lt is)
          ∙ ap (λ b. b || list_any (reaches row fresh) (drop (i + 1) sets)) c.in-Some.ensures.0;
    }

pub returns-in-None-clause-none : goal.returns-in-None-clause-none
returns-in-None-clause-none c =
    let row = c.args.row.now in
    let fresh = c.args.fresh.now in
    let sets = c.args.sets.now in
    let i = c.loop-set.set-index in
    c.loop-set.invariant.breaks
    ∙ ap (list_any (reaches row fresh)) (dropped sets i c.set-item.result c.loop-set-test.true c.set-item.is)
    ∙ ap (λ b. b || list_any (reaches row fresh) (drop (i + 1) sets)) c.in-None.ensures

pub returns-clause-some : goal.returns-clause-some
returns-clause-some c =
    let row = c.args.row.now in
    let fresh = c.args.fresh.now in
    let sets = c.args.sets.now in
    let i = c.loop-set.set-index in (
      c.loop-set.invariant.numbers ∙ ap (map (number_with row fresh)) (take_all i sets c.loop-set-test.false),
      c.loop-set.invariant.breaks ∙ ap (list_any (reaches row fresh)) (drop_all i sets c.loop-set-test.false),
    )
