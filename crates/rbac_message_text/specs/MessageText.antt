-- The text of a message: a compact JSON object, its keys in the order of their bytes.
use Rattle.std.specs.Prelude.{ℕ, List, ◌++◌, codes, decimal}
use Rattle.rbac_terms.specs.declared.command.Command.{Command}
use Rattle.rbac_words.specs.declared.stamp.Stamp.{Stamp}
use Rattle.rbac_words.specs.declared.message.Message.{Message}
use Rattle.rbac_words.specs.declared.message.Message.TheVariants.{Batch, Ack}
use Rattle.rbac_text.specs.CommandText.{commands_text}
use Rattle.rbac_message_text.specs.StampText.{stamp_text}

-- the most bytes of a message's text: 1 MiB
abbrev pub longest_message : ℕ
longest_message = 1048576

-- {"caller":0,"commands":[..],"serial":5,"stamp":[6,1]}
abbrev pub batch_text : Stamp → ℕ → ℕ → List Command → List ℕ
batch_text stamp caller serial commands =
    codes "{\"caller\":" ++ decimal caller ++ codes ",\"commands\":" ++ commands_text commands ++ codes ",\"serial\":" ++ decimal serial ++ codes ",\"stamp\":"
    ++ stamp_text stamp ++ codes "}"

-- {"stamp":[7,1]}
abbrev pub acknowledgement_text : Stamp → List ℕ
acknowledgement_text stamp = codes "{\"stamp\":" ++ stamp_text stamp ++ codes "}"

-- the text of a message
abbrev pub message_text : Message → List ℕ
message_text (Batch stamp caller serial commands) = batch_text stamp caller serial commands
message_text (Ack stamp) = acknowledgement_text stamp
