-- Where the end of the input was met, what was taken is all that the reader had.
use Rattle.std.proofs.Common.{◌≡◌, ℕ, List, Option, Bool, true, IfSome, Result, Ok}
use Rattle.std.specs.Result.{IfOk, OnOk}
use Rattle.std.specs.Io.KnownBytes.{Consumes, IsAtEnd}
use Rattle.line_engine.specs.Lines.{lines, lines_read}
use Rattle.line_engine.specs.Output.{Taker, OutputOutcome}
use Rattle.line_engine.specs.declared.report.RunFault.{RunFault}
use Rattle.line_engine.specs.declared.report.Summary.{Summary}
use Rattle.rbac_lines.proofs.RunLemmas.{whole}

pub whole_output : {S : Type 0} (taker : Taker S) (P : Summary → List ℕ → Type 0) (old new : S) (before after had left : Option (List ℕ)) (result : Result Summary RunFault) (input : List ℕ) (ended : Bool)
    → Consumes had left input → (ended ≡ true → IsAtEnd left) → OnOk result (ended ≡ true) → OutputOutcome taker old before (lines_read ended input) new after result
    → ((summary : Summary) (all : List ℕ) → OutputOutcome taker old before (lines all) new after (Ok summary) → P summary all) → IfOk result (λ summary. IfSome had (P summary))
whole_output taker P old new before after = whole (λ these result. OutputOutcome taker old before these new after result) P
