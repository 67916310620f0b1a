use Rattle.std.proofs.Common.{ap, ◌∙◌}
use Rattle.rbac_words.specs.Stamp.{has_passed, last_stamp}
use Rattle.rbac_words.specs.Message.{stamp_of}
use Rattle.rbac_words.specs.World.{heard_of}
use Rattle.rbac_words.specs.Keeping.Member.{node_of}
use Rattle.rbac_order.proofs.StampLemmas.{passed_by_one}
use Rattle.rbac_pages.proofs.HeldLemmas.{heard_rising}
use Rattle.rbac_pages.proofs.held.has_heard_later.Goals as goal

pub returns : goal.returns
returns c =
    let v = node_of c.args.member.now in
    let other = node_of c.args.sender.now in
    c.is_passed.ensures
    ∙ ap (λ last. has_passed last c.args.stamp) (c.last_sent.ensures ∙ ap (last_stamp stamp_of) c.taken.ensures)
    ∙ passed_by_one stamp_of c.args.stamp (heard_of v other) (heard_rising v other c.invariants.ensures.lawful.rising)
