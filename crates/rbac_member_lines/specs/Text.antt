-- What a line is answered with: compact JSON without blanks, its keys in the order of their bytes, and a line feed. Refusals are told as
-- those of a schedule's lines.
use Rattle.std.specs.Prelude.{ℕ, zero, suc, List, [], ◌∷◌, ◌++◌, codes, decimal, Option, Some, None}
use Rattle.rbac_terms.specs.declared.command.Command.{Command}
use Rattle.rbac_words.specs.declared.record.Record.{Record}
use Rattle.rbac_text.specs.CommandText.{commands_text}
use Rattle.rbac_message_text.specs.RecordText.{record_text}
use Rattle.rbac_message_text.specs.StampText.{stamp_text}
use Rattle.rbac_embedded_member.specs.declared.waiting.Waiting.{Waiting}

-- ,"line":5} as the last key, and a line feed
abbrev pub end_text : ℕ → List ℕ
end_text line = codes ",\"line\":" ++ decimal line ++ codes "}\n"

-- {"line":5,"number":1}: a message was sent or taken, and this is its number
abbrev pub numbered_text : ℕ → ℕ → List ℕ
numbered_text line number = codes "{\"line\":" ++ decimal line ++ codes ",\"number\":" ++ decimal number ++ codes "}\n"

-- {"acknowledged":2,"line":5}: a message was received, and acknowledged by this one that the member sent; {"acknowledged":null,"line":5}:
-- it was not acknowledged
abbrev pub number_or_null : ℕ → List ℕ
number_or_null zero = codes "null"
number_or_null (suc n) = decimal (suc n)

abbrev pub received_text : ℕ → ℕ → List ℕ
received_text line number = codes "{\"acknowledged\":" ++ number_or_null number ++ end_text line

-- {"line":5,"message":{..}}, {"line":5,"message":null}: a message, or that none is wanted
abbrev pub text_or_null : List ℕ → List ℕ
text_or_null [] = codes "null"
text_or_null (x ∷ xs) = x ∷ xs

abbrev pub message_line : ℕ → List ℕ → List ℕ
message_line line text = codes "{\"line\":" ++ decimal line ++ codes ",\"message\":" ++ text_or_null text ++ codes "}\n"

-- {"line":5,"record":{..}}
abbrev pub record_line : ℕ → List ℕ → List ℕ
record_line line text = codes "{\"line\":" ++ decimal line ++ codes ",\"record\":" ++ text_or_null text ++ codes "}\n"

-- {"line":5,"number":1,"record":{..}}: a command was delivered, and this is its record and that one's number
abbrev pub delivered_line : ℕ → ℕ → Record → List ℕ
delivered_line line number delivered = codes "{\"line\":" ++ decimal line ++ codes ",\"number\":" ++ decimal number ++ codes ",\"record\":" ++ record_text delivered ++ codes "}\n"

-- {"line":5,"stamp":[6,1],"waits":6}: the least command that is held waits for these members, of which each has a bit, 1 for member 1, 2 for
-- member 2, 4 for member 3 and so on; {"line":5,"stamp":null,"waits":0}: none is held
abbrev pub none_held_text : ℕ → List ℕ
none_held_text line = codes "{\"line\":" ++ decimal line ++ codes ",\"stamp\":null,\"waits\":0}\n"

abbrev pub held_text : ℕ → Waiting → List ℕ
held_text line waiting =
    codes "{\"line\":" ++ decimal line ++ codes ",\"stamp\":" ++ stamp_text waiting.stamp ++ codes ",\"waits\":" ++ decimal waiting.awaited ++ codes "}\n"

abbrev pub waits_line : ℕ → Option Waiting → List ℕ
waits_line line None = none_held_text line
waits_line line (Some waiting) = held_text line waiting

-- {"commands":[..],"line":5}: the commands that make the member's policy
abbrev pub dump_line : ℕ → List Command → List ℕ
dump_line line commands = codes "{\"commands\":" ++ commands_text commands ++ end_text line
