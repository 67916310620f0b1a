use Rattle.std.proofs.Common.{sym, ap, ◌∙◌, Some, option_map}
use Rattle.rbac_words.specs.Message.{stamp_of}
use Rattle.rbac_words.specs.Stamp.{last_stamp}
use Rattle.rbac_words.specs.declared.stamp.Stamp.{Stamp}
use Rattle.rbac_links.specs.Outbox.{Outbox}
use Rattle.rbac_links.proofs.LinkLemmas.{last_is}
use Rattle.rbac_links.proofs.outbox.Outbox.last.Goals as goal

pub returns-in-Some : goal.returns-in-Some
returns-in-Some c =
    ap (λ (s : Stamp). Some s) c.stamp.ensures ∙ ap (option_map stamp_of) c.in-Some.ensures.value ∙ sym (last_is c.deref.result.now)
    ∙ ap (last_stamp stamp_of) c.deref.ensures.value ∙ ap (λ (o : Outbox). last_stamp stamp_of o.sent) c.self.view_is
