-- What holds of each message that a member sends: by calls, that its text can be read, since it is not too long.
use Rattle.std.proofs.Common.{ℕ, Bool, true, false, ◌≡◌, ◌≤◌, ◌<◌, ◌+◌, ◌^◌, cond, nat_lt, List, [], ◌∷◌, ◌++◌, length, codes, decimal, refl, sym, ap, subst, ◌∙◌, arith, append-nil, length-append, lit<, Option, Some, None, Ok, Err}
use Rattle.std.specs.List.{AllByRecursion as Each}
use Rattle.std.proofs.lemmas.Bool.Decides.{nat_tests}
use Rattle.std.proofs.lemmas.Fmt.{length-decimal-le}
use Rattle.rbac_terms.specs.Vocabulary.{Vocabulary}
use Rattle.rbac_terms.specs.declared.command.Command.{Command}
use Rattle.rbac_words.specs.Group.{Group, IsGroup}
use Rattle.rbac_words.specs.Limits.{last_clock}
use Rattle.rbac_words.specs.World.{stamp, acks, acknowledgement, must_acknowledge, clock_after}
use Rattle.rbac_words.specs.Keeping.Member.{Member, IsMember, IsNumber, founded, node_of, batch, submitted, received, message_refusal, deliver_due, due_at}
use Rattle.rbac_words.specs.declared.event.Refusal.{Refusal}
use Rattle.rbac_words.specs.declared.message.Message.{Message}
use Rattle.rbac_words.specs.declared.message.Message.TheVariants.{Ack}
use Rattle.rbac_words.specs.declared.message.Submission.{Submission}
use Rattle.rbac_words.specs.declared.stamp.Stamp.{Stamp}
use Rattle.rbac_words.specs.Keeping.Own.{next_own, own_refusal, took_own}
use Rattle.rbac_text.specs.Fields.{Reading}
use Rattle.rbac_text.specs.ReadCommand.{command}
use Rattle.sorted_keys.proofs.Lists.{Each-append}
use Rattle.rbac_order.proofs.MemberLemmas.{keeps_founded}
use Rattle.rbac_message_text.specs.MessageText.{longest_message, acknowledgement_text, message_text}
use Rattle.rbac_message_text.specs.Message.{message_read, commands_read}
use Rattle.rbac_moves.specs.Moves.{submits, receives, move_refusal, moved}
use Rattle.rbac_moves.proofs.MoveLemmas.{keeps_run, keeps_moved}
use Rattle.rbac_embedded_member.specs.declared.status.MemberStatus.TheVariants.{MessageTooLong}
use Rattle.rbac_embedded_member.specs.Step.{Step, done, refused, step_unless, if_short, if_read, batch_step, command_step, own_step, message_step, told_acknowledgement}
use Rattle.rbac_embedded_member.specs.Calls.{Call, calls_submit, calls_submit_batch, calls_receive, calls_take_own, calls_deliver, step_of, called}
use Rattle.rbac_embedded_member.proofs.CallLemmas.{one_moved}

-- ---- An acknowledgement

length_of : (clock member : List ℕ) → length (codes "{\"stamp\":" ++ (codes "[" ++ clock ++ codes "," ++ member ++ codes "]") ++ codes "}") ≡ (9 + (((1 + length clock) + 1) + length member + 1)) + 1
length_of clock member =
    length-append (codes "{\"stamp\":" ++ (codes "[" ++ clock ++ codes "," ++ member ++ codes "]")) (codes "}")
    ∙ ap (λ n. n + 1)
    (length-append (codes "{\"stamp\":") (codes "[" ++ clock ++ codes "," ++ member ++ codes "]")
    ∙ ap (λ n. 9 + n)
    (length-append (codes "[" ++ clock ++ codes "," ++ member) (codes "]")
    ∙ ap (λ n. n + 1)
    (length-append (codes "[" ++ clock ++ codes ",") member ∙ ap (λ n. n + length member) (length-append (codes "[" ++ clock) (codes ",") ∙ ap (λ n. n + 1) (length-append (codes "[") clock)))))

pub acknowledgement_short : (clock number : ℕ) → clock ≤ last_clock → number ≤ 8 → length (message_text (Ack (stamp clock number))) ≤ 30
acknowledgement_short clock number c n =
    let a : length (decimal clock) ≤ 16 = length-decimal-le 16 clock (lit< tt) (omega (arith, c)) (omega (arith, c)) in
    let b : length (decimal number) ≤ 1 = length-decimal-le 1 number (lit< tt) (omega (arith, n)) (omega (arith, n)) in
    let e : length (acknowledgement_text (stamp clock number)) ≡ (9 + (((1 + length (decimal clock)) + 1) + length (decimal number) + 1)) + 1 = length_of (decimal clock) (decimal number) in
    omega arith

-- ---- One step: what holds of each message that is sent, where it holds of acknowledgements, and of what is sent or taken as short enough

module _ (longest : ℕ) (P : Message → Type 0) (acknowledgements : (clock number : ℕ) → clock ≤ last_clock → number ≤ 8 → P (Ack (stamp clock number))) where
  abbrev AllSent : Member → Type 0
  AllSent v = Each P v.sent

  acks_kept : (clock number : ℕ) (o : Option Stamp) → o ≡ Some (stamp clock number) → clock ≤ last_clock → number ≤ 8 → Each P (acks o)
  acks_kept clock number None e c n = tt
  acks_kept clock number (Some s) e c n = let same : s ≡ stamp clock number = cc in (subst (λ t. P (Ack t)) (sym same) (acknowledgements clock number c n), tt)

  unless_kept : (v : Member) (o : Option Refusal) (step : Step) → (o ≡ None → AllSent step.member) → AllSent v → AllSent (step_unless o step v).member
  unless_kept v None step f kept = f refl
  unless_kept v (Some refusal) step f kept = kept

  if_short_kept : (v : Member) (m : Message) (step : Step) → (length (message_text m) ≤ longest → AllSent step.member) → AllSent v → AllSent (if_short longest m step v).member
  if_short_kept v m step f kept = go (nat_lt longest (length (message_text m))) refl
    where
      go : (b : Bool) → nat_lt longest (length (message_text m)) ≡ b → AllSent (cond b (refused MessageTooLong 0 v) step).member
      go true e = kept
      go false e = f (let fits : length (message_text m) ≤ longest = grind (arith, nat_tests) in fits)

  pub batch_kept : (v : Member) (caller serial : ℕ) (commands : List Command) → (length (message_text (batch v caller serial commands)) ≤ longest → P (batch v caller serial commands)) → AllSent v
      → AllSent (batch_step longest caller serial commands v).member
  batch_kept v caller serial commands has kept =
      unless_kept v (move_refusal v (submits caller serial commands)) _
      (λ free. if_short_kept v (batch v caller serial commands) (done (submitted v caller serial commands) (next_own v)) (λ fits. Each-append P v.sent _ kept (has fits, tt)) kept) kept

  pub own_kept : (v : Member) (number : ℕ) (m : Message) → (length (message_text m) ≤ longest → P m) → AllSent v → AllSent (own_step longest number m v).member
  own_kept v number m has kept =
      if_short_kept v m _ (λ fits. unless_kept v (own_refusal v number m) (done (took_own v m) (next_own v)) (λ free. Each-append P v.sent _ kept (has fits, tt)) kept) kept

  received_kept : (v : Member) (from number : ℕ) (m : Message) → IsMember v → AllSent v → message_refusal v from number m ≡ None → AllSent (received v from m)
  received_kept v from number m is kept free = go (must_acknowledge (node_of v) m) refl (keeps_moved v (receives from number m) is free)
    where
      number_low : v.number ≤ 8
      number_low = let a : v.number ≤ v.group.members = is.high in let b : v.group.members ≤ 8 = is.group.few_members in omega arith

      go : (b : Bool) → must_acknowledge (node_of v) m ≡ b → IsMember (received v from m) → AllSent (received v from m)
      go true e after =
          Each-append P v.sent (acks (acknowledgement (node_of v) m)) kept
          (acks_kept (clock_after (node_of v) m) v.number (acknowledgement (node_of v) m) (ap (λ b. cond b (Some (stamp (clock_after (node_of v) m) v.number)) None) e) after.clock_in_range number_low)
      go false e after =
          subst (Each P) (sym (append-nil v.sent) ∙ ap (λ (o : Option Stamp). v.sent ++ acks o) (sym (ap (λ b. cond {A = Option Stamp} b (Some (stamp (clock_after (node_of v) m) v.number)) None) e))) kept

  pub message_kept : (v : Member) (from number : ℕ) (m : Message) → IsMember v → AllSent v → AllSent (message_step from number m v).member
  message_kept v from number m is kept =
      unless_kept v (message_refusal v from number m) (done (received v from m) (told_acknowledgement (acknowledgement (node_of v) m) (next_own v))) (received_kept v from number m is kept) kept

  pub delivered_kept : (v : Member) (o : Option Submission) → AllSent v → AllSent (deliver_due v o)
  delivered_kept v None kept = kept
  delivered_kept v (Some x) kept = kept

-- ---- One call

abbrev IsShort : Message → Type 0
IsShort m = length (message_text m) ≤ longest_message

abbrev AreShort : Member → Type 0
AreShort v = Each IsShort v.sent

short_acknowledgement : (clock number : ℕ) → clock ≤ last_clock → number ≤ 8 → IsShort (Ack (stamp clock number))
short_acknowledgement clock number c n = omega (arith, acknowledgement_short clock number c n)

read_short : {T : Type 0} (v : Member) (read : Reading T) (step : T → Member → Step) → ((value : T) → AreShort (step value v).member) → AreShort v → AreShort (if_read read step v).member
read_short v (Ok value) step f short = f value
read_short v (Err refusal) step f short = short

call_short : (v : Member) (call : Call) → IsMember v → AreShort v → AreShort (step_of call v).member
call_short v (calls_submit caller serial text) is short =
    read_short v (command text) (command_step caller serial) (λ asked. batch_kept longest_message IsShort short_acknowledgement v caller serial (asked ∷ []) (λ fits. fits) short) short
call_short v (calls_submit_batch caller serial text) is short =
    read_short v (commands_read text) (batch_step longest_message caller serial) (λ commands. batch_kept longest_message IsShort short_acknowledgement v caller serial commands (λ fits. fits) short) short
call_short v (calls_receive from number text) is short =
    read_short v (message_read text) (message_step from number) (λ m. message_kept longest_message IsShort short_acknowledgement v from number m is short) short
call_short v (calls_take_own number text) is short =
    read_short v (message_read text) (own_step longest_message number) (λ m. own_kept longest_message IsShort short_acknowledgement v number m (λ fits. fits) short) short
call_short v calls_deliver is short = delivered_kept longest_message IsShort short_acknowledgement v (due_at v) short

all_short : (v : Member) (calls : List Call) → IsMember v → AreShort v → AreShort (called v calls)
all_short v [] is short = short
all_short v (call ∷ calls) is short =
    let one = one_moved v call in
    all_short (step_of call v).member calls (subst IsMember one.is (keeps_run v one.moves is one.allowed)) (call_short v call is short)

pub each_short : (group : Group) (vocabulary : Vocabulary) (number : ℕ) (calls : List Call) → IsGroup group → IsNumber group number → Each (λ m. length (message_text m) ≤ longest_message) (called (founded group number vocabulary) calls).sent
each_short group vocabulary number calls is n = all_short (founded group number vocabulary) calls (keeps_founded group number vocabulary is n.low n.high) tt
