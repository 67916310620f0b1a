use Rattle.std.proofs.Common.{◌∙◌}
use Rattle.std.specs.Prelude.{codes}
use Rattle.rbac_pages.specs.GranteeText.{session_may_text}
use Rattle.rbac_pages.proofs.TextLemmas.{ok_all_of}
use Rattle.rbac_pages.proofs.grantees.put_sessions.Goals as goal

pub returns : goal.returns
returns c = ok_all_of c.put_all.result (session_may_text c.args.roles.now) c.args.policy.now.sessions c.deref.result.now c.args.text.now.items (codes "sessions in which such a role is active\n") c.extend_from_slice.new.self.items c.put_all.new.list.items
    c.in_ok-extend_from_slice.ensures.items (c.deref.ensures.value ∙ c.in_ok-sessions.ensures) c.put_all.ensures
