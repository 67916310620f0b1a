-- Reading a line.
use Rattle.std.proofs.Common.{◌≡◌, ◌<◌, ℕ, List, length, Err, refl}
use Rattle.line_engine.specs.Lines.{clip, longest_line}
use Rattle.rbac_founding.proofs.LongLemmas.{front_value}
use Rattle.rbac_text.proofs.ValueLemmas.{value_of_long}
use Rattle.rbac_text.specs.Client.{client}
use Rattle.rbac_lines.specs.Event.{event}
use Rattle.rbac_text.specs.declared.refusal.LineRefusal.TheVariants.{TooLong}

event_long : (line : List ℕ) → longest_line < length line → event line ≡ Err TooLong
unfolding event
event_long line long = rw (value_of_long longest_line line long) refl

-- what is kept of a line stands for the same event
pub event_clip : (line : List ℕ) → event (clip line) ≡ event line
event_clip line = front_value event (Err TooLong) longest_line event_long line

client_long : (line : List ℕ) → longest_line < length line → client line ≡ Err TooLong
unfolding client
client_long line long = rw (value_of_long longest_line line long) refl

-- and asks for the same command
pub client_clip : (line : List ℕ) → client (clip line) ≡ client line
client_clip line = front_value client (Err TooLong) longest_line client_long line
