-- When numbers make a group: the first check that fails.
use Rattle.std.specs.Prelude.{ℕ, ◌||◌, nat_lt, if◌then◌else◌, Option, Some, None}
use Rattle.rbac_words.specs.Limits.{most_members, last_clock, most_sent}
use Rattle.rbac_words.specs.declared.group.GroupRefusal.{GroupRefusal}
use Rattle.rbac_words.specs.declared.group.GroupRefusal.TheVariants.{BadMembers, BadClock, BadSentLimit}

-- why these numbers make no group
abbrev pub group_refusal : ℕ → ℕ → ℕ → Option GroupRefusal
group_refusal members clock sent_limit =
    if nat_lt members 1 || nat_lt most_members members then Some BadMembers
    else (if nat_lt last_clock clock then Some BadClock
    else (if nat_lt sent_limit 1 || nat_lt most_sent sent_limit then Some BadSentLimit
    else None))
