-- A run over an input that was read to its end.
use Rattle.std.proofs.Common.{◌≡◌, ◌<◌, ℕ, List, Bool, true, Option, IfSome, Result, Ok, Err, ap, ◌∙◌, length, refl}
use Rattle.std.specs.Result.{IfOk, OnOk}
use Rattle.std.specs.Io.KnownBytes.{Consumes, IsAtEnd}
use Rattle.line_engine.specs.Lines.{clip, lines, lines_read, longest_line}
use Rattle.line_engine.specs.Output.{Follows, OutputOutcome}
use Rattle.line_engine.specs.declared.report.RunFault.{RunFault}
use Rattle.line_engine.specs.declared.report.Summary.{Summary}
use Rattle.rbac_words.specs.Keeping.Member.{Member}
use Rattle.rbac_founding.proofs.LongLemmas.{front_value}
use Rattle.rbac_text.proofs.ValueLemmas.{value_of_long}
use Rattle.rbac_text.specs.declared.refusal.LineRefusal.TheVariants.{TooLong}
use Rattle.rbac_lines.proofs.RunLemmas.{whole}
use Rattle.rbac_member_lines.specs.Asked.{asked}
use Rattle.rbac_member_lines.specs.Output.{serving, ServesLine, read_told, is_read_refused, read_step}

asked_long : (line : List ℕ) → longest_line < length line → asked line ≡ Err TooLong
unfolding asked
asked_long line long = rw (value_of_long longest_line line long) refl

-- what is kept of a line asks the same
asked_clip : (line : List ℕ) → asked (clip line) ≡ asked line
asked_clip line = front_value asked (Err TooLong) longest_line asked_long line

-- of a line that is too long it is enough to know that it is
pub follows : Follows ServesLine serving
follows old number line text is_refused new serves = (
  serves.0 ∙ ap (λ read. read_told number read old) (asked_clip line),
  serves.1.0 ∙ ap (λ read. is_read_refused number read old) (asked_clip line),
  serves.1.1 ∙ ap (λ read. read_step read old) (asked_clip line),
)

-- of a run
pub whole_run : (P : Summary → List ℕ → Type 0) (old new : Member) (before after had left : Option (List ℕ)) (result : Result Summary RunFault) (input : List ℕ) (ended : Bool)
    → Consumes had left input → (ended ≡ true → IsAtEnd left) → OnOk result (ended ≡ true) → OutputOutcome serving old before (lines_read ended input) new after result
    → ((summary : Summary) (all : List ℕ) → OutputOutcome serving old before (lines all) new after (Ok summary) → P summary all) → IfOk result (λ summary. IfSome had (P summary))
whole_run P old new before after = whole (λ these result. OutputOutcome serving old before these new after result) P
