-- Of a line that is too long it is enough to know that it is.
use Rattle.std.proofs.Common.{ap, ◌∙◌}
use Rattle.line_engine.specs.Output.{Follows}
use Rattle.rbac_lines.specs.Output.{is_read_refused, read_step}
use Rattle.rbac_lines.proofs.EventLemmas.{client_clip, event_clip}
use Rattle.rbac_telling.specs.Applying.{AppliesLine, applying, is_not_served, served_after, served_text}
use Rattle.rbac_telling.specs.Tracing.{MovesLine, TracesLine, line_traced, moving, tracing}

pub applies : Follows AppliesLine applying
applies old number line text is_refused new takes = (
  takes.0 ∙ ap (served_text old number) (client_clip line),
  takes.1 ∙ ap (is_not_served old) (client_clip line),
  takes.2 ∙ ap (served_after old) (client_clip line),
)

pub traces : Follows TracesLine tracing
traces old number line text is_refused new takes = (
  takes.0 ∙ ap (line_traced old number) (event_clip line),
  takes.1 ∙ ap (is_read_refused old) (event_clip line),
  takes.2 ∙ ap (read_step old) (event_clip line),
)

pub moves : Follows MovesLine moving
moves old number line text is_refused new takes = (
  takes.0,
  takes.1 ∙ ap (is_read_refused old) (event_clip line),
  takes.2 ∙ ap (read_step old) (event_clip line),
)
