-- Calls are moves.
use Rattle.std.proofs.Common.{ℕ, Bool, true, false, ◌≡◌, ◌<◌, ◌+◌, ◌-◌, ◌⊎◌, cond, nat_lt, List, [], ◌∷◌, ◌++◌, length, slice_get, refl, sym, ap, subst, ◌∙◌, Option, Some, None, Ok, Err}
use Rattle.rbac_terms.specs.Vocabulary.{Vocabulary}
use Rattle.rbac_terms.specs.declared.command.Command.{Command}
use Rattle.rbac_words.specs.Group.{Group, IsGroup}
use Rattle.rbac_words.specs.World.{World, acknowledgement}
use Rattle.rbac_words.specs.Right.{AreHistoriesRight}
use Rattle.rbac_words.specs.Play.{IsPrefixOf}
use Rattle.rbac_words.specs.Keeping.Member.{Member, founded, node_of, batch, submitted}
use Rattle.rbac_words.specs.Keeping.Members.{member_at, world_of}
use Rattle.rbac_words.specs.Keeping.Own.{next_own, took_own}
use Rattle.rbac_words.specs.declared.event.Refusal.{Refusal}
use Rattle.rbac_words.specs.declared.message.Message.{Message}
use Rattle.rbac_text.specs.Fields.{Reading}
use Rattle.rbac_text.specs.ReadCommand.{command}
use Rattle.rbac_message_text.specs.MessageText.{longest_message, message_text}
use Rattle.rbac_message_text.specs.Message.{message_read, commands_read}
use Rattle.rbac_moves.specs.Moves.{Move, submits, receives, takes_own, delivers, move_refusal, moved, run, AreMoves, WereSent, AreRun}
use Rattle.rbac_moves.specs.Rows.{HasRunInRow, MaySet, AreSet, with_message}
use Rattle.rbac_moves.proofs.MoveLemmas.{run-append, all_right, one_of_two}
use Rattle.rbac_embedded_member.specs.Step.{Step, done, refused, step_unless, if_short, if_read, batch_step, command_step, own_step, message_step, told_acknowledgement}
use Rattle.rbac_embedded_member.specs.declared.status.MemberStatus.TheVariants.{MessageTooLong}
use Rattle.rbac_embedded_member.specs.Calls.{Call, calls_submit, calls_submit_batch, calls_receive, calls_take_own, calls_deliver, step_of, called, IsTold, WereTold, AreCalled, IsCalledInRow, MayBeSet, WereSet}

-- that each message which moves took of member k was one that it sent, where this tells what it sent
abbrev pub AreSent : (ℕ → List Message → Type 0) → List Move → Type 0
AreSent Told moves = (k : ℕ) (sent : List Message) → Told k sent → WereSent k sent moves

-- moves that lead from one member to another, of which this holds
pub record IsMovedBy (v after : Member) (Holds : List Move → Type 0) : Type 0 where
  pub moves : List Move
  pub allowed : AreMoves v moves
  pub is : run v moves ≡ after
  pub holds : Holds moves

abbrev pub IsMoved : Member → Member → (ℕ → List Message → Type 0) → Type 0
IsMoved v after Told = IsMovedBy v after (AreSent Told)

-- ---- None or one move

module _ (v : Member) (Holds : List Move → Type 0) (none : Holds []) where
  -- nothing has changed
  pub nothing : IsMovedBy v v Holds
  nothing = record { moves = []; allowed = tt; is = refl; holds = none }

  -- a step that is made unless it is refused
  pub unless : (o : Option Refusal) (step : Step) → (o ≡ None → IsMovedBy v step.member Holds) → IsMovedBy v (step_unless o step v).member Holds
  unless None step go = go refl
  unless (Some refusal) step go = nothing

  -- a step that is made where a text is short
  short_moved : (longest : ℕ) (m : Message) (step : Step) → IsMovedBy v step.member Holds → IsMovedBy v (if_short longest m step v).member Holds
  short_moved longest m step made = go (nat_lt longest (length (message_text m)))
    where
      go : (b : Bool) → IsMovedBy v (cond b (refused MessageTooLong 0 v) step).member Holds
      go true = nothing
      go false = made

  -- what is read steps
  pub read_moved : {T : Type 0} (read : Reading T) (step : T → Member → Step) → ((value : T) → read ≡ Ok value → IsMovedBy v (step value v).member Holds) → IsMovedBy v (if_read read step v).member Holds
  read_moved (Ok value) step go = go value refl
  read_moved (Err refusal) step go = nothing

  -- a move that is not refused
  done_moved : (move : Move) (told : ℕ) → Holds (move ∷ []) → move_refusal v move ≡ None → IsMovedBy v (done (moved v move) told).member Holds
  done_moved move told one free = record { moves = move ∷ []; allowed = (free, tt); is = refl; holds = one }

  pub batch_made : (longest caller serial : ℕ) (commands : List Command) → Holds (submits caller serial commands ∷ []) → IsMovedBy v (batch_step longest caller serial commands v).member Holds
  batch_made longest caller serial commands one =
      unless (move_refusal v (submits caller serial commands)) _
      (λ free. short_moved longest (batch v caller serial commands) (done (submitted v caller serial commands) (next_own v)) (done_moved (submits caller serial commands) (next_own v) one free))

  pub own_made : (longest number : ℕ) (m : Message) → Holds (takes_own number m ∷ []) → IsMovedBy v (own_step longest number m v).member Holds
  own_made longest number m one = short_moved longest m _ (unless (move_refusal v (takes_own number m)) (done (took_own v m) (next_own v)) (done_moved (takes_own number m) (next_own v) one))

  pub message_made : (from number : ℕ) (m : Message) → Holds (receives from number m ∷ []) → IsMovedBy v (message_step from number m v).member Holds
  message_made from number m one = unless (move_refusal v (receives from number m)) _ (done_moved (receives from number m) (told_acknowledgement (acknowledgement (node_of v) m) (next_own v)) one)

-- ---- One call of a member that acts

pub stayed : (v : Member) (Told : ℕ → List Message → Type 0) → IsMoved v v Told
stayed v Told = nothing v (AreSent Told) (λ k sent told. tt)

pub batch_moved : (v : Member) (longest caller serial : ℕ) (commands : List Command) (Told : ℕ → List Message → Type 0) → IsMoved v (batch_step longest caller serial commands v).member Told
batch_moved v longest caller serial commands Told = batch_made v (AreSent Told) (λ k sent told. tt) longest caller serial commands (λ k sent told. tt)

pub own_moved : (v : Member) (longest number : ℕ) (m : Message) (Told : ℕ → List Message → Type 0) → IsMoved v (own_step longest number m v).member Told
own_moved v longest number m Told = own_made v (AreSent Told) (λ k sent told. tt) longest number m (λ k sent told. tt)

pub message_moved : (v : Member) (from number : ℕ) (m : Message) (Told : ℕ → List Message → Type 0) → ((k : ℕ) (sent : List Message) → Told k sent → from ≡ k → slice_get sent (number - 1) ≡ Some m)
    → IsMoved v (message_step from number m v).member Told
message_moved v from number m Told is_sent = message_made v (AreSent Told) (λ k sent told. tt) from number m (λ k sent told. (is_sent k sent told, tt))

-- what is read of a text is one message
pub same_message : (text : List ℕ) (m n : Message) → message_read text ≡ Ok m → message_read text ≡ Ok n → m ≡ n
same_message text m n a b = let both : ◌≡◌ {A = Reading Message} (Ok m) (Ok n) = sym a ∙ b in cc

-- a text that was told is of that message
pub told_message : (from number : ℕ) (text : List ℕ) (m : Message) → message_read text ≡ Ok m → (k : ℕ) (sent : List Message) → (from ≡ k → IsTold sent number text) × Unit {0} → from ≡ k → slice_get sent (number - 1) ≡ Some m
told_message from number text m e k sent told same = let t = told.0 same in t.is ∙ ap Some (same_message text t.message m t.reads e)

pub one_moved : (v : Member) (call : Call) → IsMoved v (step_of call v).member (λ k sent. WereTold k sent (call ∷ []))
one_moved v (calls_submit caller serial text) = read_moved v _ (λ k sent told. tt) (command text) (command_step caller serial) (λ asked e. batch_moved v longest_message caller serial (asked ∷ []) _)
one_moved v (calls_submit_batch caller serial text) = read_moved v _ (λ k sent told. tt) (commands_read text) (batch_step longest_message caller serial) (λ commands e. batch_moved v longest_message caller serial commands _)
one_moved v (calls_receive from number text) = read_moved v _ (λ k sent told. tt) (message_read text) (message_step from number) (λ m e. message_moved v from number m _ (told_message from number text m e))
one_moved v (calls_take_own number text) = read_moved v _ (λ k sent told. tt) (message_read text) (own_step longest_message number) (λ m e. own_moved v longest_message number m _)
one_moved v calls_deliver = record { moves = delivers ∷ []; allowed = (refl, tt); is = refl; holds = λ k sent told. tt }

-- ---- One after the other

moves-append : (v : Member) (moves others : List Move) → AreMoves v moves → AreMoves (run v moves) others → AreMoves v (moves ++ others)
moves-append v [] others a b = b
moves-append v (move ∷ moves) others a b = (a.0, moves-append (moved v move) moves others a.1 b)

sent-append : (k : ℕ) (sent : List Message) (moves others : List Move) → WereSent k sent moves → WereSent k sent others → WereSent k sent (moves ++ others)
sent-append k sent [] others a b = b
sent-append k sent (submits caller serial commands ∷ moves) others a b = sent-append k sent moves others a b
sent-append k sent (receives from number m ∷ moves) others a b = (a.0, sent-append k sent moves others a.1 b)
sent-append k sent (takes_own number m ∷ moves) others a b = sent-append k sent moves others a b
sent-append k sent (delivers ∷ moves) others a b = sent-append k sent moves others a b

pub told_first : (k : ℕ) (sent : List Message) (call : Call) (calls : List Call) → WereTold k sent (call ∷ calls) → WereTold k sent (call ∷ []) × WereTold k sent calls
told_first k sent (calls_submit caller serial text) calls h = (tt, h)
told_first k sent (calls_submit_batch caller serial text) calls h = (tt, h)
told_first k sent (calls_receive from number text) calls h = ((h.0, tt), h.1)
told_first k sent (calls_take_own number text) calls h = (tt, h)
told_first k sent calls_deliver calls h = (tt, h)

-- what one and then others did
pub joined : (v u w : Member) (One Rest Both : List Move → Type 0) → ((moves others : List Move) → run v moves ≡ u → One moves → Rest others → Both (moves ++ others)) → IsMovedBy v u One → IsMovedBy u w Rest → IsMovedBy v w Both
joined v u w One Rest Both both one rest =
    record {
      moves = one.moves ++ rest.moves;
      allowed = moves-append v one.moves rest.moves one.allowed (subst (λ x. AreMoves x rest.moves) (sym one.is) rest.allowed);
      is = run-append v one.moves rest.moves ∙ ap (λ x. run x rest.moves) one.is ∙ rest.is;
      holds = both one.moves rest.moves one.is one.holds rest.holds;
    }

pub both_sent : (One Rest Told : ℕ → List Message → Type 0) → ((k : ℕ) (sent : List Message) → Told k sent → One k sent × Rest k sent) → (moves others : List Move) → AreSent One moves → AreSent Rest others → AreSent Told (moves ++ others)
both_sent One Rest Told parts moves others one rest = λ k sent told. let both = parts k sent told in sent-append k sent moves others (one k sent both.0) (rest k sent both.1)

pub both_moved : (v u w : Member) (One Rest Told : ℕ → List Message → Type 0) → ((k : ℕ) (sent : List Message) → Told k sent → One k sent × Rest k sent) → IsMoved v u One → IsMoved u w Rest → IsMoved v w Told
both_moved v u w One Rest Told parts = joined v u w (AreSent One) (AreSent Rest) (AreSent Told) (λ moves others is one rest. both_sent One Rest Told parts moves others one rest)

pub all_moved : (v : Member) (calls : List Call) → IsMoved v (called v calls) (λ k sent. WereTold k sent calls)
all_moved v [] = stayed v _
all_moved v (call ∷ calls) =
    both_moved v (step_of call v).member _ _ _ _ (λ k sent told. told_first k sent call calls told) (one_moved v call) (all_moved (step_of call v).member calls)

-- ---- The members

module _ (group : Group) (vocabulary : Vocabulary) (members : List Member) (calls : ℕ → List Call) (are : AreCalled group vocabulary members calls) where
  abbrev pub moves_of : ℕ → List Move
  moves_of i = (all_moved (founded group (i + 1) vocabulary) (calls i)).moves

  pub are_run : AreRun group vocabulary members moves_of
  are_run = record {
    count = are.count;
    made = λ i h. let m = all_moved (founded group (i + 1) vocabulary) (calls i) in record { allowed = m.allowed; is = m.is ∙ are.made i h };
    brought = λ i j hi hj d. let m = all_moved (founded group (i + 1) vocabulary) (calls i) in m.holds (j + 1) (member_at members j).sent (are.told i j hi hj d);
  }

  pub called_right : IsGroup group → AreHistoriesRight (world_of group vocabulary members)
  called_right is = all_right group vocabulary members moves_of is are_run

  pub called_one : IsGroup group → (i j : ℕ) → i < length members → j < length members → IsPrefixOf (member_at members i).history (member_at members j).history ⊎ IsPrefixOf (member_at members j).history (member_at members i).history
  called_one is = one_of_two group vocabulary members moves_of is are_run

-- ---- By rows

module _ (w : World) (number : ℕ) (v : Member) (calls : List Call) (is : IsCalledInRow w number v calls) where
  abbrev pub row_moves : List Move
  row_moves = (all_moved (founded w.group number w.vocabulary) calls).moves

  pub run_in_row : HasRunInRow w number v row_moves
  run_in_row = let m = all_moved (founded w.group number w.vocabulary) calls in record {
    is_number = is.is_number;
    made = record { allowed = m.allowed; is = m.is ∙ is.made };
    brought = λ k h d. m.holds k _ (is.told k h d);
    own = is.own;
  }

may_set : (w : World) (k : ℕ) (m : Message) → MayBeSet w k m → MaySet w k m
may_set w k m may = record { by = may.by; moves = row_moves w k may.by may.calls may.is_called; has_run = run_in_row w k may.by may.calls may.is_called; has_all = may.has_all; accepted = may.accepted }

pub are_set : (w : World) (sets : List (ℕ × Message)) → WereSet w sets → AreSet w sets
are_set w [] h = tt
are_set w (s ∷ sets) h = (may_set w s.0 s.1 h.0, are_set (with_message w s.0 s.1) sets h.1)
