use Rattle.std.proofs.Common.{◌≡◌, ◌≤◌, ◌∙◌, map, length, subst, arith, IfOk, Ok, sym}
use Rattle.std.specs.List.{AllByRecursion as Each}
use Rattle.line_engine.specs.Lines.{lines}
use Rattle.rbac_dump.specs.Dump.{dump_of}
use Rattle.rbac_text.specs.Client.{client}
use Rattle.rbac_text.specs.Lines.{room}
use Rattle.rbac_text.specs.Command.{command_fields}
use Rattle.rbac_text.specs.CommandText.{command_text, AreFields}
use Rattle.rbac_dump.proofs.dump_text.dump_lines.Goals as goal

pub returns-clause-asks : goal.returns-clause-asks
returns-clause-asks c =
    let told = dump_of room c.args.policy.now in
    let is : c.deref.result.now ≡ told = c.deref.ensures.value ∙ c.in_ok-commands.ensures.listed in
    let fits = subst (Each (λ command. AreFields (command_fields command) → length (command_text command) ≤ room)) (sym c.deref.ensures.value) (c.in_ok-commands.ensures.fits (omega arith)) in
    subst (λ commands. IfOk c.client_lines.result (λ text. map client (lines text.items) ≡ map (λ command. Ok (1, command)) commands)) is (c.client_lines.ensures.asks fits)
