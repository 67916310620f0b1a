use Rattle.rbac_text.proofs.ObjectLemmas.{command_reads_if}
use Rattle.rbac_text.proofs.writing.command.put_command.Goals as goal

pub returns-clause-reads_back : goal.returns-clause-reads_back
returns-clause-reads_back c = command_reads_if c.extend_from_slice.result c.args.command.now c.in_ok-put_fields.ensures.fit
