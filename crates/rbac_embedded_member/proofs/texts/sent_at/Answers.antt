use Rattle.std.proofs.Common.{rules, ◌≡◌, option_map}
use Rattle.rbac_words.specs.Message.{stamp_of}
use Rattle.rbac_embedded_member.specs.Texts.{item_at}
use Rattle.rbac_embedded_member.proofs.SentLemmas.{lent_at}
use Rattle.rbac_embedded_member.proofs.texts.sent_at.Goals as goal

pub returns-clause-first : goal.returns-clause-first
returns-clause-first c =
    let found : option_map (λ b. b.now) c.item_at.result ≡ item_at c.args.member.now.sent c.args.number = search rules in
    lent_at (λ m. (stamp_of m).place ≡ 0) c.args.member.now.sent c.args.number (λ b. b.now) c.item_at.result c.invariants.ensures.lawful.first found
