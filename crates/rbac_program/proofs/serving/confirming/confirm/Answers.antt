use Rattle.std.proofs.Common.{◌≡◌, ◌∙◌, slice_index_or, slice_set, refl, subst, rules}
use Rattle.rbac_program.specs.Serving.{IsConfirmed}
use Rattle.rbac_program.proofs.ConfirmLemmas.{one_more, put_back}
use Rattle.rbac_program.proofs.serving.confirming.confirm.Goals as goal

pub loop-place-preserved : goal.loop-place-preserved
loop-place-preserved g c =
    let pass = c.index-passes-place.result in
    let here : pass ≡ slice_index_or c.args.passes.now c.loop-place.place pass = search rules in
    let lent : slice_index_or c.loop-place.passes c.loop-place.place pass ≡ pass = search rules in
    record {
      same = c.is_confirmed.ensures.nodes ∙ c.loop-place.invariant.same;
      passes = subst (λ l. slice_set l c.loop-place.place c.is_confirmed.new.pass ≡ c.args.passes.now) (search rules)
          (put_back c.args.nodes.now c.args.passes.now c.loop-place.place pass here c.is_confirmed.new.pass (c.is_confirmed.ensures.pass ∙ lent));
      end = refl;
      confirmed = one_more c.args.nodes.now c.args.passes.now c.loop-place.place pass here c.loop-place.invariant.confirmed
          (subst (λ nodes. IsConfirmed nodes pass) c.loop-place.invariant.same
          (subst (IsConfirmed c.loop-place.nodes) lent (c.is_confirmed.ensures.confirmed (search rules))));
    }
