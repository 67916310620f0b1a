use Rattle.rbac_founding.proofs.FoundingLemmas.{document_of_toml, document_of_other}
use Rattle.rbac_founding.proofs.document.document_of.Goals as goal

pub returns-in-Ok-clause-document_read : goal.returns-in-Ok-clause-document_read
returns-in-Ok-clause-document_read c = document_of_toml c.args.file.now _ c.if-file-gt-LONGEST_FILE.false c.in-Ok.ensures.ok.0 c.in-Ok.ensures.ok.1

pub returns-in-Err-2-clause-first_refusal : goal.returns-in-Err-2-clause-first_refusal
returns-in-Err-2-clause-first_refusal c = λ _.
    document_of_other c.args.file.now c.if-file-gt-LONGEST_FILE.false (c.in-Err.ensures.refused (λ memory. let answered = c.is_memory.ensures.1 memory in cc))
