use Rattle.rbac_text.proofs.AskedCommands.{command_is_asked}
use Rattle.rbac_text.proofs.AskedLines.{client_is_asked}
use Rattle.rbac_text.proofs.law.what_is_read_is_asked.Goals as goal

pub returns-clause-alone : goal.returns-clause-alone
returns-clause-alone c = command_is_asked

pub returns-clause-in_line : goal.returns-clause-in_line
returns-clause-in_line c = client_is_asked
