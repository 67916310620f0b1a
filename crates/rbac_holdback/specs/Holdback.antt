-- What is held back (Lamport 1978, "Ordering the Events Totally": the request queue).
use Rattle.std.specs.Prelude.{ℕ, ◌≡◌, ◌≤◌, ⊤, List, [], ◌∷◌}
use Rattle.std.specs.List.{AllByRecursion}
use Rattle.rbac_words.specs.Message.{submitted_at}
use Rattle.rbac_words.specs.Stamp.{IsBefore, IsRising, insert_by_stamp}
use Rattle.rbac_words.specs.declared.message.Submission.{Submission}

-- how many members the group has, and the commands that are held, the least stamp first
pub record Holdback : Type 0 where
  pub members : ℕ
  pub held : List Submission

pub record IsHoldback (h : Holdback) : Type 0 where
  pub rising : IsRising submitted_at h.held
  -- each command is of a member from 1 to the last
  pub senders : AllByRecursion (λ (x : Submission). (1 ≤ x.stamp.member) × (x.stamp.member ≤ h.members)) h.held

-- a command above each one of its member
abbrev pub IsAboveOwn : Submission → List Submission → Type 0
IsAboveOwn x xs = AllByRecursion (λ (y : Submission). y.stamp.member ≡ x.stamp.member → IsBefore y.stamp x.stamp) xs

-- commands of which each is above those of its member, once those before it are put among them
abbrev pub AreAboveOwn : List Submission → List Submission → Type 0
AreAboveOwn [] ys = ⊤
AreAboveOwn (x ∷ xs) ys = IsAboveOwn x ys × AreAboveOwn xs (insert_by_stamp submitted_at x ys)

-- a command of a member of the group, above each held one of that member
pub record CanBeHeld (h : Holdback) (x : Submission) : Type 0 where
  pub low : 1 ≤ x.stamp.member
  pub high : x.stamp.member ≤ h.members
  pub above : IsAboveOwn x h.held

-- commands of which each can be held once those before it are
abbrev pub CanAllBeHeld : Holdback → List Submission → Type 0
CanAllBeHeld h [] = ⊤
CanAllBeHeld h (x ∷ xs) = CanBeHeld h x × CanAllBeHeld (record h { held = insert_by_stamp submitted_at x h.held }) xs
