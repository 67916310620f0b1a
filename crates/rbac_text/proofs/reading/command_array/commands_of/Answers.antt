use Rattle.std.proofs.Common.{◌+◌, ◌∙◌, ap, sym, drop, Ok}
use Rattle.lent_json.specs.Data.{items}
use Rattle.rbac_text.specs.CommandArray.{commands_of}
use Rattle.rbac_text.proofs.CommandArrayLemmas.{commands_after, none_before, commands_next}
use Rattle.rbac_text.proofs.reading.command_array.commands_of.Goals as goal

pub loop-value-init : goal.loop-value-init
loop-value-init c = none_before (commands_of (items c.args.array.now)) ∙ ap (λ done. commands_after done (commands_of (items c.args.array.now))) (sym c.new-commands.ensures.items)

pub loop-value-preserved : goal.loop-value-preserved
loop-value-preserved c =
    c.loop-value.invariant
    ∙ commands_next c.loop-value.commands.items c.args.array.now c.loop-value.value-index c.value-item.result (Ok c.in_ok-command.command) c.loop-value-test.true c.value-item.is c.in_ok-command.ensures
    ∙ ap (λ done. commands_after done (commands_of (items (drop (c.loop-value.value-index + 1) c.args.array.now)))) (sym c.in_ok-add.ensures.added)
