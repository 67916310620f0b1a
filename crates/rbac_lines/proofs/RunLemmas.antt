-- A run over an input that was read to its end.
use Rattle.std.proofs.Common.{◌≡◌, ℕ, List, Bool, true, Option, IfSome, Result, Ok, Err, ap, ◌∙◌, subst}
use Rattle.std.specs.Result.{IfOk, OnOk}
use Rattle.std.specs.Io.KnownBytes.{Consumes, IsAtEnd}
use Rattle.std.proofs.KnownBytes.{Consumes-whole}
use Rattle.line_engine.specs.Lines.{lines, lines_read}
use Rattle.line_engine.specs.Output.{Follows, OutputOutcome}
use Rattle.line_engine.specs.Runs.{Takes, RunOutcome, Took}
use Rattle.line_engine.specs.declared.report.RunFault.{RunFault}
use Rattle.line_engine.specs.declared.report.Summary.{Summary}
use Rattle.rbac_words.specs.World.{World}
use Rattle.rbac_lines.specs.Output.{playing, PlaysLine, read_text, is_read_refused, read_step}
use Rattle.rbac_lines.proofs.EventLemmas.{event_clip}

-- of a line that is too long it is enough to know that it is
pub follows : Follows PlaysLine playing
follows old number line text is_refused new plays = (
  plays.0 ∙ ap (read_text old number) (event_clip line),
  plays.1.0 ∙ ap (is_read_refused old) (event_clip line),
  plays.1.1 ∙ ap (read_step old) (event_clip line),
)

-- where the end of the input was met, that was all that the reader had
pub whole : (Outcome : List (List ℕ) → Result Summary RunFault → Type 0) (P : Summary → List ℕ → Type 0) (had left : Option (List ℕ)) (result : Result Summary RunFault) (input : List ℕ) (ended : Bool)
    → Consumes had left input → (ended ≡ true → IsAtEnd left) → OnOk result (ended ≡ true) → Outcome (lines_read ended input) result
    → ((summary : Summary) (all : List ℕ) → Outcome (lines all) (Ok summary) → P summary all) → IfOk result (λ summary. IfSome had (P summary))
whole Outcome P had left (Ok summary) input ended consumed at_end met outcome then_so =
    Consumes-whole had left input (P summary) consumed (at_end met) (then_so summary input (subst (λ b. Outcome (lines_read b input) (Ok summary)) met outcome))
whole Outcome P had left (Err fault) input ended consumed at_end met outcome then_so = tt

-- of a run
pub whole_run : (P : Summary → List ℕ → Type 0) (old new : World) (before after had left : Option (List ℕ)) (result : Result Summary RunFault) (input : List ℕ) (ended : Bool)
    → Consumes had left input → (ended ≡ true → IsAtEnd left) → OnOk result (ended ≡ true) → OutputOutcome playing old before (lines_read ended input) new after result
    → ((summary : Summary) (all : List ℕ) → OutputOutcome playing old before (lines all) new after (Ok summary) → P summary all) → IfOk result (λ summary. IfSome had (P summary))
whole_run P old new before after = whole (λ these result. OutputOutcome playing old before these new after result) P

-- and of what takes lines in another way
pub whole_taking : {S : Type 0} (takes : Takes S) (P : Summary → List ℕ → Type 0) (old new : S) (before after had left : Option (List ℕ)) (result : Result Summary RunFault) (input : List ℕ) (ended : Bool)
    → Consumes had left input → (ended ≡ true → IsAtEnd left) → OnOk result (ended ≡ true) → RunOutcome takes old before (lines_read ended input) new after result
    → ((summary : Summary) (all : List ℕ) → Took takes old before (lines all) new after summary → P summary all) → IfOk result (λ summary. IfSome had (P summary))
whole_taking takes P old new before after = whole (λ these result. RunOutcome takes old before these new after result) P

-- what the end of the input means, where the run met it
pub where_ended : (result : Result Summary RunFault) (ended : Bool) (P : Type 0) → OnOk result (ended ≡ true) → (ended ≡ true → P) → OnOk result P
where_ended (Ok summary) ended P met so = so met
where_ended (Err fault) ended P met so = tt
