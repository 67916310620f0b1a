-- How much a group may hold.
use Rattle.std.specs.Prelude.{ℕ}

abbrev pub most_members : ℕ
most_members = 8

-- the largest whole number below 2^53
abbrev pub last_clock : ℕ
last_clock = 9007199254740991

-- the most commands of one message
abbrev pub most_commands : ℕ
most_commands = 64

-- the largest serial of a command
abbrev pub last_serial : ℕ
last_serial = 4294967295

-- the most messages that a member may ever send, of which a founding may allow fewer
abbrev pub most_sent : ℕ
most_sent = 65536
