use Rattle.std.proofs.Common.{length}
use Rattle.rbac_lint.proofs.members.members_of.Given as goal

-- the tokens that the reader still has
abbrev pub decreases-loop-token : goal.decreases-loop-token
decreases-loop-token l = length l.reader
