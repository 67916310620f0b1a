-- The numbers that calls are answered with, for callers in any language. Each number means one thing in all calls.
use Rattle.std.specs.Prelude.{ℕ}
use Rattle.rbac_terms.specs.Denials.{denial_number}
use Rattle.rbac_founding.specs.declared.refusal.FoundingRefusal.{FoundingRefusal}
use Rattle.rbac_founding.specs.declared.refusal.FoundingRefusal.TheVariants.{TooLong as FileTooLong, NotToml, BadVersion, UnknownKey, MissingKey, WrongKind as FileWrongKind, OutOfRange, BadName as FileBadName, Repeated, UnknownName, NoMemory as FileNoMemory}
use Rattle.rbac_text.specs.declared.refusal.LineRefusal.{LineRefusal}
use Rattle.rbac_text.specs.declared.refusal.LineRefusal.TheVariants.{TooLong, NotJson, NotObject, UnknownWord, MissingField, WrongKind, BadName, ExtraField, NoMemory as LineNoMemory}
use Rattle.rbac_embedded.specs.declared.verdict.Verdict.{Verdict}
use Rattle.rbac_embedded.specs.declared.verdict.Verdict.TheVariants.{Granted, Refused, Denied, BadName as VerdictBadName}
use Rattle.rbac_embedded.specs.declared.status.Status.{Status}
use Rattle.rbac_embedded.specs.declared.status.Status.TheVariants.{Done, EmptyPlace, FullPlace, ShortBuffer, NoMemory, Checked, BadFounding, BadCommand}

-- the number of a check: a denial keeps its own, which is at most 29
abbrev pub verdict_number : Verdict → ℕ
verdict_number Granted = 50
verdict_number Refused = 51
verdict_number VerdictBadName = 52
verdict_number (Denied denial) = denial_number denial

-- the number that says that memory ran out
abbrev pub no_memory : ℕ
no_memory = 43

-- the number of a refused founding file: 100 and its place in the order of the checks
abbrev pub founding_number : FoundingRefusal → ℕ
founding_number FileTooLong = 101
founding_number NotToml = 102
founding_number BadVersion = 103
founding_number UnknownKey = 104
founding_number MissingKey = 105
founding_number FileWrongKind = 106
founding_number OutOfRange = 107
founding_number FileBadName = 108
founding_number Repeated = 109
founding_number UnknownName = 110
founding_number FileNoMemory = no_memory

-- the number of a refused command's text: 200 and its place in the list of refusals
abbrev pub command_number : LineRefusal → ℕ
command_number TooLong = 201
command_number NotJson = 202
command_number NotObject = 203
command_number UnknownWord = 204
command_number MissingField = 205
command_number WrongKind = 206
command_number BadName = 207
command_number ExtraField = 208
command_number LineNoMemory = no_memory

abbrev pub status_number : Status → ℕ
status_number Done = 0
status_number EmptyPlace = 40
status_number FullPlace = 41
status_number ShortBuffer = 42
status_number NoMemory = no_memory
status_number (Checked checked) = verdict_number checked
status_number (BadFounding refusal) = founding_number refusal
status_number (BadCommand refusal) = command_number refusal
