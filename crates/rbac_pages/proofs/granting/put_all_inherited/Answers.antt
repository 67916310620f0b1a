use Rattle.rbac_pages.specs.WhyText.{inherits_text}
use Rattle.rbac_pages.proofs.TextLemmas.{one_more}
use Rattle.rbac_pages.proofs.granting.put_all_inherited.Goals as goal

pub loop-role-preserved : goal.loop-role-preserved
loop-role-preserved c =
    one_more inherits_text c.args.text.now.items c.loop-role.text.items c.put_inherited.new.text.items c.args.roles.now c.loop-role.role-index c.role-item.result
    c.loop-role-test.true c.role-item.is c.loop-role.invariant c.in_ok-put_inherited.ensures
