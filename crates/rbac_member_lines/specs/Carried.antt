-- The line that brings a message to another member; and members that are run by lines, each by itself, and when the messages that were
-- brought to them are those that the others sent.
use Rattle.std.specs.Prelude.{ℕ, ◌≡◌, ◌≢◌, ◌<◌, ◌+◌, ◌-◌, ⊤, List, [], ◌∷◌, ◌++◌, length, codes, decimal, Some, Ok, Err, slice_get}
use Rattle.rbac_terms.specs.Vocabulary.{Vocabulary}
use Rattle.rbac_words.specs.Group.{Group}
use Rattle.rbac_words.specs.Keeping.Member.{Member, founded}
use Rattle.rbac_words.specs.Keeping.Members.{member_at}
use Rattle.rbac_words.specs.declared.message.Message.{Message}
use Rattle.line_engine.specs.Lines.{lines}
use Rattle.rbac_text.specs.Fields.{Reading}
use Rattle.rbac_message_text.specs.MessageText.{message_text}
use Rattle.rbac_member_lines.specs.declared.asked.Asked.{Asked}
use Rattle.rbac_member_lines.specs.declared.asked.Asked.TheVariants.{Submit, Receive, Own, Deliver, Tell}
use Rattle.rbac_member_lines.specs.Asked.{asked}
use Rattle.rbac_member_lines.specs.Output.{member_after}

-- {"do":"receive","from":1,"message":{..},"number":5}
abbrev pub receive_line : ℕ → ℕ → Message → List ℕ
receive_line from number m =
    codes "{\"do\":\"receive\",\"from\":" ++ decimal from ++ codes ",\"message\":" ++ message_text m ++ codes ",\"number\":" ++ decimal number ++ codes "}"

-- a message that is brought as one of member k is one that k sent, by its number
abbrev pub IsBrought : ℕ → List Message → Reading Asked → Type 0
IsBrought k sent (Ok (Receive one)) = one.from ≡ k → slice_get sent (one.number - 1) ≡ Some one.message
IsBrought k sent (Ok (Submit one)) = ⊤
IsBrought k sent (Ok (Own number m)) = ⊤
IsBrought k sent (Ok Deliver) = ⊤
IsBrought k sent (Ok (Tell question)) = ⊤
IsBrought k sent (Err refusal) = ⊤

abbrev pub AreBrought : ℕ → List Message → List (List ℕ) → Type 0
AreBrought k sent [] = ⊤
AreBrought k sent (line ∷ rest) = IsBrought k sent (asked line) × AreBrought k sent rest

-- the members of one founding, each run by the lines of an input of its own, over transports that bring only sent messages
pub record AreRunByLines (group : Group) (vocabulary : Vocabulary) (members : List Member) (inputs : ℕ → List ℕ) : Type 0 where
  pub count : length members ≡ group.members
  pub made : (i : ℕ) → i < length members → member_after (inputs i) (founded group (i + 1) vocabulary) ≡ member_at members i
  pub brought : (i j : ℕ) → i < length members → j < length members → i ≢ j → AreBrought (j + 1) (member_at members j).sent (lines (inputs i))
