use Rattle.std.proofs.Common.{rules, ◌≡◌, ◌≤◌, length, ◌∙◌, ap, sym, subst}
use Rattle.std.specs.List.{AllByRecursion as Each}
use Rattle.rbac_terms.specs.Replay.{state_after, replies}
use Rattle.rbac_terms.specs.Sound.{BringsASet}
use Rattle.rbac_terms.specs.State.{founding_state}
use Rattle.rbac_terms.specs.declared.answer.Answer.TheVariants.{Done}
use Rattle.rbac_text.specs.Command.{command_fields}
use Rattle.rbac_text.specs.CommandText.{AreFields, command_text}
use Rattle.rbac_dump.specs.Dump.{dump_of}
use Rattle.rbac_dump.proofs.DumpLemmas.{dump_leads}
use Rattle.rbac_dump.proofs.Sizes.{dump_fits}
use Rattle.rbac_dump.proofs.dump.commands_of.Goals as goal

pub returns-clause-made : goal.returns-clause-made
returns-clause-made c =
    let policy = c.args.policy.now in
    let room = c.args.room in
    let listed : c.fill.new.commands.items ≡ dump_of room policy = search rules in
    ap (state_after (founding_state policy.vocabulary)) listed ∙ (dump_leads room policy c.invariants.ensures).0

pub returns-clause-done : goal.returns-clause-done
returns-clause-done c =
    let policy = c.args.policy.now in
    let room = c.args.room in
    let listed : c.fill.new.commands.items ≡ dump_of room policy = search rules in
    subst (λ commands. Each (λ answer. answer ≡ Done) (replies (founding_state policy.vocabulary) commands)) (sym listed) (dump_leads room policy c.invariants.ensures).1

pub returns-clause-sets : goal.returns-clause-sets
returns-clause-sets c =
    let policy = c.args.policy.now in
    let room = c.args.room in
    let listed : c.fill.new.commands.items ≡ dump_of room policy = search rules in
    subst (Each BringsASet) (sym listed) (dump_leads room policy c.invariants.ensures).2

pub returns-clause-fits : goal.returns-clause-fits
returns-clause-fits c = λ least.
    let policy = c.args.policy.now in
    let room = c.args.room in
    let listed : c.fill.new.commands.items ≡ dump_of room policy = search rules in
    subst (Each (λ command. AreFields (command_fields command) → length (command_text command) ≤ room)) (sym listed) (dump_fits room policy least)
