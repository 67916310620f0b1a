use Rattle.std.proofs.Common.{ap, ◌∙◌, Option}
use Rattle.rbac_words.specs.Stamp.{has_passed}
use Rattle.rbac_words.specs.Message.{stamp_of, has_later}
use Rattle.rbac_words.specs.Keeping.Member.{Member}
use Rattle.rbac_words.specs.declared.stamp.Stamp.{Stamp}
use Rattle.rbac_order.proofs.StampLemmas.{passed_by_one}
use Rattle.rbac_member.proofs.member.Member.has_later.Goals as goal

pub returns : goal.returns
returns c =
    c.has_passed.ensures ∙ ap (λ (o : Option Stamp). has_passed o c.args.stamp) c.last.ensures
    ∙ passed_by_one stamp_of c.args.stamp c.self.inside.outbox.sent c.self.invariant.kept.lawful.rising
    ∙ ap (λ (m : Member). has_later m.sent c.args.stamp) c.self.view_is
