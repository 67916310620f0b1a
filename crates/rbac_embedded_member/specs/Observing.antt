-- What a member does in a place, where it acts, or only observes: one that observes sends nothing.
use Rattle.std.specs.Prelude.{ℕ, Bool, if◌then◌else◌, List, [], Ok, Err}
use Rattle.rbac_words.specs.World.{must_acknowledge}
use Rattle.rbac_words.specs.Keeping.Member.{Member, node_of, message_refusal}
use Rattle.rbac_words.specs.declared.message.Message.{Message}
use Rattle.rbac_message_text.specs.Message.{message_read}
use Rattle.rbac_embedded_member.specs.Place.{KeptMember}
use Rattle.rbac_embedded_member.specs.declared.status.MemberStatus.TheVariants.{NotYet, Observes}
use Rattle.rbac_embedded_member.specs.Step.{Step, refused, step_unless, if_read, message_step}
use Rattle.rbac_embedded_member.specs.Texts.{Told, text_unless, text_read, message_told}

-- what a step leaves in the place
abbrev pub kept_after : (KeptMember → Step) → KeptMember → KeptMember
kept_after step k = record { member = (step k).member; observes = k.observes }

-- ---- What it would send of itself: one that observes is asked for none of it, whatever the text

abbrev pub acting_step : (Member → Step) → KeptMember → Step
acting_step step k = if k.observes then refused Observes 0 k.member else step k.member

abbrev pub acting_told : (Member → Told) → KeptMember → Told
acting_told told k = if k.observes then Err Observes else told k.member

-- ---- What it receives: one that observes takes no message that it would have to acknowledge, until its own row has a later one

abbrev pub quiet_step : ℕ → ℕ → Message → Member → Step
quiet_step from number m v = step_unless (message_refusal v from number m) (if must_acknowledge (node_of v) m then refused NotYet 0 v else message_step from number m v) v

abbrev pub receipt : Bool → ℕ → ℕ → Message → Member → Step
receipt observes from number m v = if observes then quiet_step from number m v else message_step from number m v

abbrev pub receiving : ℕ → ℕ → List ℕ → KeptMember → Step
receiving from number text k = if_read (message_read text) (receipt k.observes from number) k.member

-- before a receipt: no bytes, since it sends no acknowledgement
abbrev pub quiet_told : ℕ → ℕ → Message → Member → Told
quiet_told from number m v = text_unless (message_refusal v from number m) (if must_acknowledge (node_of v) m then Err NotYet else Ok [])

abbrev pub answer : Bool → ℕ → ℕ → Message → Member → Told
answer observes from number m v = if observes then quiet_told from number m v else message_told from number m v

abbrev pub answering : ℕ → ℕ → List ℕ → KeptMember → Told
answering from number text k = text_read (message_read text) (answer k.observes from number) k.member
