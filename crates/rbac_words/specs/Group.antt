-- The numbers of a group, fixed when it is founded.
use Rattle.std.specs.Prelude.{ℕ, ◌≤◌}
use Rattle.rbac_words.specs.Limits.{most_members, last_clock, most_sent}

-- how many members there are, where their clocks start, and how many messages each may send
pub record Group : Type 0 where
  pub members : ℕ
  pub clock : ℕ
  pub sent_limit : ℕ

-- a group within the limits
pub record IsGroup (g : Group) : Type 0 where
  pub some_members : 1 ≤ g.members
  pub few_members : g.members ≤ most_members
  pub clock_in_range : g.clock ≤ last_clock
  pub some_sent : 1 ≤ g.sent_limit
  pub few_sent : g.sent_limit ≤ most_sent
