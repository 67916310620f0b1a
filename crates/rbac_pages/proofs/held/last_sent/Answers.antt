use Rattle.std.proofs.Common.{rules, sym, ◌∙◌, ap, ◌-◌, ◌≡◌, length, Some, None}
use Rattle.std.specs.List.{slice_get}
use Rattle.rbac_words.specs.Message.{stamp_of}
use Rattle.rbac_pages.proofs.HeldLemmas.{last_is, none_last}
use Rattle.rbac_pages.proofs.held.last_sent.Goals as goal

pub returns-in-Some : goal.returns-in-Some
returns-in-Some c =
    let messages = c.args.messages.now in
    let there : slice_get messages (length messages - 1) ≡ Some c.in-Some.message.now = search rules in
    ap Some c.stamp.ensures ∙ sym (last_is stamp_of messages c.in-Some.message.now there)

pub returns-in-None : goal.returns-in-None
returns-in-None c =
    let messages = c.args.messages.now in
    let there : slice_get messages (length messages - 1) ≡ None = search rules in
    sym (none_last stamp_of messages there)
