-- Reading the text of a command gives that command.
use Rattle.std.proofs.Common.{◌≡◌, ◌≤◌, length, Ok, ok_or, ap, ◌∙◌}
use Rattle.serde_json.specs.Data.{object}
use Rattle.serde_json.specs.Find.{as_object}
use Rattle.line_engine.specs.Lines.{longest_line}
use Rattle.rbac_terms.specs.declared.command.Command.{Command}
use Rattle.rbac_text.specs.declared.refusal.LineRefusal.TheVariants.{NotObject}
use Rattle.rbac_text.specs.Steps.{◌>>=◌}
use Rattle.rbac_text.specs.Command.{command_of}
use Rattle.rbac_text.specs.ReadCommand.{command}
use Rattle.rbac_text.specs.Command.{command_fields}
use Rattle.rbac_text.specs.CommandText.{command_text, AreFields}
use Rattle.rbac_text.specs.CommandObject.{command_object}
use Rattle.rbac_text.proofs.ValueLemmas.{value_of_json}
use Rattle.rbac_text.proofs.ObjectLemmas.{command_reads}
use Rattle.rbac_text.proofs.OneLine.{one_line-command}
use Rattle.rbac_text.proofs.CommandBack.{command_back}

pub read_back : (c : Command) → AreFields (command_fields c) → length (command_text c) ≤ longest_line → command (command_text c) ≡ Ok c
unfolding command
read_back c h short =
    ap (λ v. v >>= (λ value. ok_or (as_object value) NotObject >>= (λ fields. command_of fields))) (value_of_json longest_line (command_text c) (object (command_object c)) short (one_line-command c h).0 (command_reads c h))
    ∙ command_back c h
