use Rattle.rbac_text.proofs.ReadBack.{read_back}
use Rattle.rbac_text.proofs.law.written_command_is_read.Goals as goal

pub returns : goal.returns
returns c = read_back
