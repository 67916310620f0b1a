-- How much a policy may hold.
use Rattle.std.specs.Prelude.{ℕ}

abbrev pub most_users : ℕ
most_users = 4096

abbrev pub most_roles : ℕ
most_roles = 1024

abbrev pub most_sessions : ℕ
most_sessions = 8192

-- of each kind of separation
abbrev pub most_sets : ℕ
most_sets = 256

abbrev pub most_operations : ℕ
most_operations = 256

abbrev pub most_objects : ℕ
most_objects = 4096

abbrev pub most_permissions : ℕ
most_permissions = 16384
