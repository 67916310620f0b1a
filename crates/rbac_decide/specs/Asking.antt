-- Which commands ask and change nothing.
use Rattle.std.specs.Prelude.{Bool, true, false}
use Rattle.rbac_decide.specs.Words.{Command, CheckAccess, ReviewCommand}

-- CheckAccess
abbrev pub is_check : Command → Bool
is_check (CheckAccess session operation object) = true
is_check c = false

-- a check, and each review
abbrev pub is_question : Command → Bool
is_question (CheckAccess session operation object) = true
is_question (ReviewCommand review) = true
is_question c = false
