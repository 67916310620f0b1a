use Rattle.std.specs.Prelude.{codes}
use Rattle.rbac_pages.specs.GranteeText.{may_text}
use Rattle.rbac_pages.proofs.TextLemmas.{ok_all_of}
use Rattle.rbac_pages.proofs.grantees.put_users.Goals as goal

pub returns : goal.returns
returns c = ok_all_of c.put_all.result (may_text c.args.policy.now c.args.roles.now) c.args.policy.now.users c.users.result.now c.args.text.now.items (codes "users that are authorized for a role with the permission\n") c.extend_from_slice.new.self.items c.put_all.new.list.items
    c.in_ok-extend_from_slice.ensures.items c.users.ensures c.put_all.ensures
