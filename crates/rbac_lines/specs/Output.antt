-- What is written for an input that is played on a world, and the world after it.
use Rattle.std.specs.Prelude.{ℕ, ◌≡◌, List, Bool, true, Option, None, Result, Ok, Err, option_map, is_err}
use Rattle.line_engine.specs.Lines.{lines}
use Rattle.line_engine.specs.Output.{Taker, texts, state_after, refused_count}
use Rattle.rbac_words.specs.World.{World, node, due, record_of, step, step_outcome}
use Rattle.rbac_words.specs.declared.event.Event.{Event}
use Rattle.rbac_words.specs.declared.event.Event.TheVariants.{Submit, SubmitBatch, Receive, Deliver}
use Rattle.rbac_words.specs.declared.event.Outcome.{Outcome}
use Rattle.rbac_words.specs.declared.event.Refusal.{Refusal}
use Rattle.rbac_words.specs.declared.record.Record.{Record}
use Rattle.rbac_text.specs.declared.refusal.LineRefusal.{LineRefusal}
use Rattle.rbac_lines.specs.Event.{event}
use Rattle.rbac_lines.specs.Text.{outcome_text, refusal_text, line_refusal_text}

-- the record that an event delivers, if it delivers one
abbrev pub delivered_record : World → Event → Option Record
delivered_record w (Submit at caller serial command) = None
delivered_record w (SubmitBatch at caller serial commands) = None
delivered_record w (Receive at from number) = None
delivered_record w (Deliver at) = option_map (record_of w.vocabulary (node w at)) (due w (node w at))

-- ---- One event

abbrev pub step_text : ℕ → Result Outcome Refusal → Option Record → List ℕ
step_text number (Ok outcome) delivered = outcome_text number outcome delivered
step_text number (Err refusal) delivered = refusal_text number refusal

-- the text of the event of line number `number`
abbrev pub event_text : World → ℕ → Event → List ℕ
event_text w number e = step_text number (step_outcome w e) (delivered_record w e)

-- ---- One line

abbrev pub read_text : World → ℕ → Result Event LineRefusal → List ℕ
read_text w number (Ok e) = event_text w number e
read_text w number (Err refusal) = line_refusal_text number refusal

abbrev pub is_read_refused : World → Result Event LineRefusal → Bool
is_read_refused w (Ok e) = is_err (step_outcome w e)
is_read_refused w (Err refusal) = true

abbrev pub read_step : World → Result Event LineRefusal → World
read_step w (Ok e) = step w e
read_step w (Err refusal) = w

-- a line's text, whether it is refused, and the world after it: an accepted line is an event, a refused one changes
-- nothing
abbrev pub playing : Taker World
playing = record {
  text_of = λ w number line. read_text w number (event line);
  is_refused = λ w number line. is_read_refused w (event line);
  next = λ w number line. read_step w (event line);
}

-- what playing a line does, where no want of memory keeps it from being played
abbrev pub PlaysLine : World → ℕ → List ℕ → List ℕ → Bool → World → Type 0
PlaysLine old number line text is_refused new =
    (text ≡ read_text old number (event line)) × ((is_refused ≡ is_read_refused old (event line)) × (new ≡ read_step old (event line)))

-- ---- A whole input

-- how often it is read at most
abbrev pub most_reads : ℕ
most_reads = 268435456

-- the texts of all its lines, in order
abbrev pub output : List ℕ → World → List ℕ
output input w = texts playing 1 w (lines input)

-- the world after its lines
abbrev pub world_after : List ℕ → World → World
world_after input w = state_after playing 1 w (lines input)

-- how many of its lines are refused
abbrev pub refused_lines : List ℕ → World → ℕ
refused_lines input w = refused_count playing 1 w (lines input)
