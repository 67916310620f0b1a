-- How findings are told, and which are warnings.
use Rattle.std.specs.Prelude.{ℕ, List, ◌++◌, Bool, IsTrue, if◌then◌else◌, codes, decimal, All}
use Rattle.rbac_lint.specs.declared.finding.Finding.{Finding}

-- the word of how much a finding weighs
abbrev pub weight_word : Bool → List ℕ
weight_word is_warning = if is_warning then codes "warning" else codes "fault"

-- hospital.toml:3:1: fault: the file, the line and the column, both from 1 on, and the weight
abbrev pub front_text : List ℕ → Finding → List ℕ
front_text path finding =
    path ++ codes ":" ++ decimal finding.place.line ++ codes ":" ++ decimal finding.place.column ++ codes ": " ++ weight_word finding.is_warning ++ codes ": "

-- a finding's line
abbrev pub finding_text : List ℕ → Finding → List ℕ
finding_text path finding = front_text path finding ++ finding.text.items ++ codes "\n"

-- none of them is a fault
abbrev pub AreWarnings : List Finding → Type 0
AreWarnings findings = All (λ finding. IsTrue finding.is_warning) findings
