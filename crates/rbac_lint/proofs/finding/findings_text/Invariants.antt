use Rattle.std.proofs.Common.{◌≡◌, take}
use Rattle.std.specs.List.{flat_map}
use Rattle.rbac_lint.specs.Findings.{finding_text}
use Rattle.rbac_lint.proofs.finding.findings_text.Given as goal

-- the findings so far
abbrev pub invariant-loop-finding : goal.invariant-loop-finding
invariant-loop-finding l = l.text.items ≡ flat_map (finding_text l.path) (take l.finding-index l.findings)
