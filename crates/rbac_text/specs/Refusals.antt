-- Why a text is refused, as a word.
use Rattle.std.specs.Prelude.{ℕ, List, codes}
use Rattle.rbac_text.specs.declared.refusal.LineRefusal.{LineRefusal}
use Rattle.rbac_text.specs.declared.refusal.LineRefusal.TheVariants.{TooLong, NotJson, NotObject, UnknownWord, MissingField, WrongKind, BadName, ExtraField, NoMemory}

-- the word of a line's refusal
abbrev pub line_refusal_word : LineRefusal → List ℕ
line_refusal_word TooLong = codes "TooLong"
line_refusal_word NotJson = codes "NotJson"
line_refusal_word NotObject = codes "NotObject"
line_refusal_word UnknownWord = codes "UnknownWord"
line_refusal_word MissingField = codes "MissingField"
line_refusal_word WrongKind = codes "WrongKind"
line_refusal_word BadName = codes "BadName"
line_refusal_word ExtraField = codes "ExtraField"
line_refusal_word NoMemory = codes "NoMemory"
