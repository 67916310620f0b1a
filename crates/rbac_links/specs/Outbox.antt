-- What a member sent.
use Rattle.std.specs.Prelude.{ℕ, ◌-◌, ◌==◌, if◌then◌else◌, List, Option, None, slice_get}
use Rattle.rbac_words.specs.declared.message.Message.{Message}

-- how many messages may be sent, those that were sent in order, and for how many more there is memory
pub record Outbox : Type 0 where
  pub limit : ℕ
  pub sent : List Message
  pub room : ℕ

-- message number n of a list, if it has one; they are counted from 1
abbrev pub numbered : List Message → ℕ → Option Message
numbered sent n = if n == 0 then None else slice_get sent (n - 1)
