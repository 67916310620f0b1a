-- The text of a record of a history: a compact JSON object, its keys in the order of their bytes.
use Rattle.std.specs.Prelude.{ℕ, List, ◌++◌, codes, decimal}
use Rattle.rbac_words.specs.declared.record.Record.{Record}
use Rattle.rbac_text.specs.AnswerText.{answer_text}
use Rattle.rbac_text.specs.CommandText.{command_text}
use Rattle.rbac_message_text.specs.StampText.{stamp_text}

-- {"answer":"Done","caller":0,"command":{..},"serial":0,"stamp":[1,1]}
abbrev pub record_text : Record → List ℕ
record_text delivered =
    codes "{\"answer\":" ++ answer_text delivered.answer ++ codes ",\"caller\":" ++ decimal delivered.caller ++ codes ",\"command\":" ++ command_text delivered.command
    ++ codes ",\"serial\":" ++ decimal delivered.serial ++ codes ",\"stamp\":" ++ stamp_text delivered.stamp ++ codes "}"
