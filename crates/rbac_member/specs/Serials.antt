-- The next serial of each caller of each member, as entries by member and caller.
use Rattle.std.specs.Prelude.{ℕ, ◌≡◌, ◌+◌, List, length, unwrap_or}
use Rattle.std.specs.List.{filter}
use Rattle.std.specs.FinMap.Entries.{find, put}
use Rattle.std.specs.declared.cmp.Ordering.{Ordering}
use Rattle.std.specs.Ordering.{nat_cmp, then_cmp, on}
use Rattle.rbac_words.specs.Message.{next_serial}
use Rattle.rbac_words.specs.Front.{is_of}
use Rattle.rbac_words.specs.declared.message.Message.{Message}
use Rattle.rbac_words.specs.declared.message.Message.TheVariants.{Batch, Ack}
use Rattle.rbac_words.specs.declared.message.Submission.{Submission}

-- callers are ordered by member, and those of one member by their number
abbrev pub caller_cmp : ℕ × ℕ → ℕ × ℕ → Ordering
caller_cmp = then_cmp (on (λ p. p.0) nat_cmp) (on (λ p. p.1) nat_cmp)

-- what the entries say of a caller of a member: 0 where they have none
abbrev pub counted_of : ℕ → ℕ → List ((ℕ × ℕ) × ℕ) → ℕ
counted_of member caller entries = unwrap_or (find caller_cmp (member, caller) entries) 0

-- the entries after a message: n commands of which the first has serial m are followed by one with serial m + n
abbrev pub counted : Message → List ((ℕ × ℕ) × ℕ) → List ((ℕ × ℕ) × ℕ)
counted (Batch stamp caller serial commands) entries = put caller_cmp (stamp.member, caller) (serial + length commands) entries
counted (Ack stamp) entries = entries

-- of each caller they say how many of its commands are among these
abbrev pub AreCounted : List ((ℕ × ℕ) × ℕ) → List Submission → Type 0
AreCounted entries xs = (member caller : ℕ) → counted_of member caller entries ≡ next_serial caller (filter (is_of member) xs)
