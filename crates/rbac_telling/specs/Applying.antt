-- What client lines do to one policy, whose members are a group of so many.
use Rattle.std.specs.Prelude.{◌≡◌, ℕ, ◌&&◌, nat_le, List, [], codes, Bool, true, false, if◌then◌else◌, Ok, Err}
use Rattle.line_engine.specs.Lines.{lines}
use Rattle.line_engine.specs.Output.{Taker, state_after, refused_count}
use Rattle.rbac_terms.specs.State.{State}
use Rattle.rbac_terms.specs.Effect.{effect}
use Rattle.rbac_terms.specs.declared.command.Command.{Command}
use Rattle.rbac_text.specs.Client.{client}
use Rattle.rbac_text.specs.Fields.{Reading}
use Rattle.rbac_lines.specs.Text.{refused_text, line_refusal_text}

-- how many members there are, and the policy of each of them
pub record Served : Type 0 where
  pub members : ℕ
  pub policy : State

-- whether a member has this number
abbrev pub is_known : Served → ℕ → Bool
is_known s at = nat_le 1 at && nat_le at s.members

-- a line that is refused, or names no member, changes nothing
abbrev pub served_after : Served → Reading (ℕ × Command) → Served
served_after s (Ok (at, command)) = if is_known s at then record s { policy = effect command s.policy } else s
served_after s (Err refusal) = s

-- and is told; of any other line nothing is
abbrev pub served_text : Served → ℕ → Reading (ℕ × Command) → List ℕ
served_text s number (Ok (at, command)) = if is_known s at then [] else refused_text number (codes "UnknownMember")
served_text s number (Err refusal) = line_refusal_text number refusal

abbrev pub is_not_served : Served → Reading (ℕ × Command) → Bool
is_not_served s (Ok (at, command)) = if is_known s at then false else true
is_not_served s (Err refusal) = true

-- what taking a line does
abbrev pub AppliesLine : Served → ℕ → List ℕ → List ℕ → Bool → Served → Type 0
AppliesLine old number line text is_refused new =
    (text ≡ served_text old number (client line)) × (is_refused ≡ is_not_served old (client line)) × (new ≡ served_after old (client line))

abbrev pub applying : Taker Served
applying = record {
  text_of = λ s number line. served_text s number (client line);
  is_refused = λ s number line. is_not_served s (client line);
  next = λ s number line. served_after s (client line);
}

-- the group's policy after all lines of an input, and how many of these are refused or name no member
abbrev pub applied : List ℕ → Served → Served
applied input s = state_after applying 1 s (lines input)

abbrev pub unserved_lines : List ℕ → Served → ℕ
unserved_lines input s = refused_count applying 1 s (lines input)
