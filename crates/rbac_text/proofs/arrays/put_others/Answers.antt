use Rattle.std.proofs.Common.{◌++◌, codes}
use Rattle.rbac_text.proofs.LineLemmas.{line_more}
use Rattle.rbac_text.proofs.arrays.put_others.Goals as goal

pub loop-element-preserved : goal.loop-element-preserved
loop-element-preserved g c =
    line_more (λ element. codes "," ++ g.E.Element.shown element) g.E.Element.Fits
    c.args.text.now.items c.loop-element.text.items c.put_next.new.text.items c.args.others.now c.loop-element.element-index c.element-item.result
    c.loop-element-test.true c.element-item.is c.loop-element.invariant.0 c.loop-element.invariant.1 c.in_ok-put_next.ensures.text c.in_ok-put_next.ensures.fits
