-- The line that tells why the program ended with status 1.
use Rattle.std.specs.Prelude.{ℕ, List, ◌++◌, codes, decimal}
use Rattle.line_engine.specs.Runs.{run_fault_word}
use Rattle.rbac_founding.specs.FoundingFile.{founding_refusal_word}
use Rattle.rbac_text.specs.Refusals.{line_refusal_word}
use Rattle.rbac_program.specs.declared.fault.Fault.{Fault}
use Rattle.rbac_node.specs.declared.report.AuditRefusal.{AuditRefusal}
use Rattle.rbac_node.specs.declared.report.AuditRefusal.TheVariants.{NotAGroup, NoMemory as AuditNoMemory}
use Rattle.rbac_program.specs.declared.fault.Fault.TheVariants.{File, Founding, Run, NoThread, Audit, NotConfirmed, Lines, BadName, Command, NotMade, NoMember}

-- the word of an audit's refusal
abbrev pub audit_word : AuditRefusal → List ℕ
audit_word NotAGroup = codes "NotAGroup"
audit_word AuditNoMemory = codes "NoMemory"

-- the path of a file that cannot be read or written, or the word of what is refused or fails: the founding, the run, the audit; how many
-- lines were refused; the text that is no name; the word of what a command is refused by; the number of which the group has no member
abbrev pub fault_text : Fault → List ℕ
fault_text (File path) = codes "rbac_monitor: file: " ++ path.now
fault_text (Founding refusal) = codes "rbac_monitor: founding: " ++ founding_refusal_word refusal
fault_text (Run fault) = codes "rbac_monitor: run: " ++ run_fault_word fault
fault_text NoThread = codes "rbac_monitor: run: NoThread"
fault_text (Audit refusal) = codes "rbac_monitor: audit: " ++ audit_word refusal
fault_text NotConfirmed = codes "rbac_monitor: audit: NotConfirmed"
fault_text (Lines summary) = codes "rbac_monitor: lines: " ++ decimal summary.refused ++ codes " of " ++ decimal summary.lines ++ codes " were refused"
fault_text (BadName text) = codes "rbac_monitor: name: " ++ text.now
fault_text (Command refusal) = codes "rbac_monitor: command: " ++ line_refusal_word refusal
fault_text NotMade = codes "rbac_monitor: diff: NotMade"
fault_text (NoMember number) = codes "rbac_monitor: member: " ++ number.now
