-- What a line of a schedule does to a world, and what is told of it.
use Rattle.std.specs.Prelude.{◌≡◌, ℕ, List, [], Bool, Result, Ok, Err}
use Rattle.line_engine.specs.Output.{Taker}
use Rattle.rbac_words.specs.World.{World, step, step_outcome}
use Rattle.rbac_words.specs.declared.event.Event.{Event}
use Rattle.rbac_words.specs.declared.event.Outcome.{Outcome}
use Rattle.rbac_words.specs.declared.event.Refusal.{Refusal}
use Rattle.rbac_lines.specs.Event.{event}
use Rattle.rbac_text.specs.Fields.{Reading}
use Rattle.rbac_lines.specs.Output.{is_read_refused, read_step}
use Rattle.rbac_pages.specs.RefusedText.{refused_text, refusal_sentence, line_refusal_sentence}
use Rattle.rbac_pages.specs.TraceText.{step_text}
use Rattle.rbac_pages.specs.DiagramText.{Drawing, with_row, with_refused_row}

-- the world is that of a run of the schedule, and what is refused there is refused; nothing is written
abbrev pub MovesLine : World → ℕ → List ℕ → List ℕ → Bool → World → Type 0
MovesLine old number line text is_refused new =
    (text ≡ []) × (is_refused ≡ is_read_refused old (event line)) × (new ≡ read_step old (event line))

abbrev pub moving : Taker World
moving = record {
  text_of = λ w number line. [];
  is_refused = λ w number line. is_read_refused w (event line);
  next = λ w number line. read_step w (event line);
}

-- what an event has done in the world after it, or why it is refused
abbrev pub outcome_text : World → ℕ → Event → Result Outcome Refusal → List ℕ
outcome_text old number e (Ok outcome) = step_text number (step old e) e outcome
outcome_text old number e (Err refusal) = refused_text number (refusal_sentence refusal)

abbrev pub traced_text : World → ℕ → Event → List ℕ
traced_text old number e = outcome_text old number e (step_outcome old e)

-- the same of a line
abbrev pub line_traced : World → ℕ → Reading Event → List ℕ
line_traced old number (Ok e) = traced_text old number e
line_traced old number (Err refusal) = refused_text number (line_refusal_sentence refusal)

abbrev pub tracing : Taker World
tracing = record {
  text_of = λ w number line. line_traced w number (event line);
  is_refused = λ w number line. is_read_refused w (event line);
  next = λ w number line. read_step w (event line);
}

abbrev pub TracesLine : World → ℕ → List ℕ → List ℕ → Bool → World → Type 0
TracesLine old number line text is_refused new =
    (text ≡ line_traced old number (event line)) × (is_refused ≡ is_read_refused old (event line)) × (new ≡ read_step old (event line))

-- the diagram with the row of an event
abbrev pub drawn_by : World → Drawing → ℕ → Event → Result Outcome Refusal → Drawing
drawn_by old d number e (Ok outcome) = with_row d number (step old e) e outcome
drawn_by old d number e (Err refusal) = with_refused_row d number e refusal

abbrev pub drawn_after : World → Drawing → ℕ → Event → Drawing
drawn_after old d number e = drawn_by old d number e (step_outcome old e)
