-- Calls in a place that only observes are moves of a member that watches its row.
use Rattle.std.proofs.Common.{ℕ, Bool, true, false, ◌≡◌, ◌-◌, cond, List, [], ◌∷◌, ◌++◌, slice_get, refl, sym, ap, subst, ◌∙◌, append-nil, append_assoc, Option, Some, None, Ok, Err}
use Rattle.rbac_words.specs.World.{World, acknowledgement, must_acknowledge}
use Rattle.rbac_words.specs.Keeping.Member.{Member, founded, node_of, received, message_refusal}
use Rattle.rbac_words.specs.Keeping.Own.{next_own}
use Rattle.rbac_words.specs.declared.event.Refusal.{Refusal}
use Rattle.rbac_words.specs.declared.message.Message.{Message}
use Rattle.rbac_text.specs.Fields.{Reading}
use Rattle.rbac_message_text.specs.MessageText.{longest_message}
use Rattle.rbac_message_text.specs.Message.{message_read}
use Rattle.rbac_moves.specs.Moves.{Move, submits, receives, takes_own, delivers, run}
use Rattle.rbac_moves.specs.Seal.{row}
use Rattle.rbac_moves.specs.Rows.{own_messages, AreWatching, HasRunInRow, HasWatched}
use Rattle.rbac_moves.proofs.SealLemmas.{sent_delivered}
use Rattle.rbac_moves.proofs.SealMoveLemmas.{sent_unanswered}
use Rattle.rbac_moves.proofs.RowMoveLemmas.{sent_watching, watched_in_row}
use Rattle.rbac_embedded_member.specs.declared.status.MemberStatus.TheVariants.{NotYet}
use Rattle.rbac_embedded_member.specs.Step.{Step, done, refused, step_unless, if_read, own_step, message_step, told_acknowledgement}
use Rattle.rbac_embedded_member.specs.Observing.{quiet_step, receipt}
use Rattle.rbac_embedded_member.specs.Calls.{Call, calls_submit, calls_submit_batch, calls_receive, calls_take_own, calls_deliver, call_step, observing, observed, is_of_own, IsTold, WereTold, WereOwn, IsObserved}
use Rattle.rbac_embedded_member.proofs.CallLemmas.{AreSent, IsMovedBy, nothing, unless, read_moved, own_made, message_made, joined, both_sent, same_message, told_message, told_first}

-- ---- What it has sent stays, but for what it takes of its own row

unless_sent : (v : Member) (o : Option Refusal) (step : Step) → step.member.sent ≡ v.sent → (step_unless o step v).member.sent ≡ v.sent
unless_sent v None step same = same
unless_sent v (Some refusal) step same = refl

quiet_sent : (v : Member) (from number : ℕ) (m : Message) → (quiet_step from number m v).member.sent ≡ v.sent
quiet_sent v from number m = unless_sent v (message_refusal v from number m) _ (go (must_acknowledge (node_of v) m) refl)
  where
    go : (b : Bool) → must_acknowledge (node_of v) m ≡ b → (cond b (refused NotYet 0 v) (message_step from number m v)).member.sent ≡ v.sent
    go true e = refl
    go false e = unless_sent v (message_refusal v from number m) (done (received v from m) (told_acknowledgement (acknowledgement (node_of v) m) (next_own v))) (sent_unanswered v from m e)

read_sent : (v : Member) (from number : ℕ) (read : Reading Message) → (if_read read (receipt true from number) v).member.sent ≡ v.sent
read_sent v from number (Ok m) = quiet_sent v from number m
read_sent v from number (Err refusal) = refl

pub sends_nothing : (v : Member) (call : Call) → is_of_own call ≡ false → (call_step call (observing v)).member.sent ≡ v.sent
sends_nothing v (calls_submit caller serial text) other = refl
sends_nothing v (calls_submit_batch caller serial text) other = refl
sends_nothing v (calls_receive from number text) other = read_sent v from number (message_read text)
sends_nothing v (calls_take_own number text) other = let no : ⊥ = cc in absurd no
sends_nothing v calls_deliver other = sent_delivered v

-- ---- Moves that watch, one after the other

watching-append : (row sent : List Message) (moves others : List Move) → AreWatching row sent moves → AreWatching row (sent ++ own_messages moves) others → AreWatching row sent (moves ++ others)
watching-append row sent [] others a b = subst (λ ms. AreWatching row ms others) (append-nil sent) b
watching-append row sent (submits caller serial commands ∷ moves) others a b = absurd a
watching-append row sent (receives from number m ∷ moves) others a b = (a.0, watching-append row sent moves others a.1 b)
watching-append row sent (takes_own number m ∷ moves) others a b =
    (a.0, watching-append row (sent ++ m ∷ []) moves others a.1 (subst (λ ms. AreWatching row ms others) (sym (append_assoc sent (m ∷ []) (own_messages moves))) b))
watching-append row sent (delivers ∷ moves) others a b = watching-append row sent moves others a b

own_first : (row : List Message) (call : Call) (calls : List Call) → WereOwn row (call ∷ calls) → WereOwn row (call ∷ []) × WereOwn row calls
own_first row (calls_submit caller serial text) calls h = (tt, h)
own_first row (calls_submit_batch caller serial text) calls h = (tt, h)
own_first row (calls_receive from number text) calls h = (tt, h)
own_first row (calls_take_own number text) calls h = ((h.0, tt), h.1)
own_first row calls_deliver calls h = (tt, h)

module _ (its_row : List Message) where
  abbrev pub IsWatching : Member → (ℕ → List Message → Type 0) → List Move → Type 0
  IsWatching v Told moves = AreSent Told moves × AreWatching its_row v.sent moves

  none : (v : Member) (Told : ℕ → List Message → Type 0) → IsWatching v Told []
  none v Told = ((λ k sent told. tt), tt)

  quiet_moved : (v : Member) (from number : ℕ) (m : Message) (Told : ℕ → List Message → Type 0) → ((k : ℕ) (sent : List Message) → Told k sent → from ≡ k → slice_get sent (number - 1) ≡ Some m)
      → IsMovedBy v (quiet_step from number m v).member (IsWatching v Told)
  quiet_moved v from number m Told is_sent = unless v (IsWatching v Told) (none v Told) (message_refusal v from number m) _ (λ free. go (must_acknowledge (node_of v) m) refl)
    where
      go : (b : Bool) → must_acknowledge (node_of v) m ≡ b → IsMovedBy v (cond b (refused NotYet 0 v) (message_step from number m v)).member (IsWatching v Told)
      go true e = nothing v (IsWatching v Told) (none v Told)
      go false e = message_made v (IsWatching v Told) (none v Told) from number m ((λ k sent told. (is_sent k sent told, tt)), (e, tt))

  -- a text of its row is of that message
  its_message : (number : ℕ) (text : List ℕ) (m : Message) → message_read text ≡ Ok m → IsTold its_row number text → slice_get its_row (number - 1) ≡ Some m
  its_message number text m e t = t.is ∙ ap Some (same_message text t.message m t.reads e)

  one_watched : (v : Member) (call : Call) → WereOwn its_row (call ∷ []) → IsMovedBy v (call_step call (observing v)).member (IsWatching v (λ k sent. WereTold k sent (call ∷ [])))
  one_watched v (calls_submit caller serial text) own = nothing v _ (none v _)
  one_watched v (calls_submit_batch caller serial text) own = nothing v _ (none v _)
  one_watched v (calls_receive from number text) own =
      read_moved v (IsWatching v (λ k sent. WereTold k sent (calls_receive from number text ∷ []))) (none v _) (message_read text) (receipt true from number) (λ m e. quiet_moved v from number m _ (told_message from number text m e))
  one_watched v (calls_take_own number text) own =
      read_moved v (IsWatching v (λ k sent. WereTold k sent (calls_take_own number text ∷ []))) (none v _) (message_read text) (own_step longest_message number)
      (λ m e. own_made v (IsWatching v (λ k sent. WereTold k sent (calls_take_own number text ∷ []))) (none v _) longest_message number m ((λ k sent told. tt), (its_message number text m e own.0, tt)))
  one_watched v calls_deliver own = record { moves = delivers ∷ []; allowed = (refl, tt); is = refl; holds = ((λ k sent told. tt), tt) }

  both_watch : (v u : Member) (One Rest Told : ℕ → List Message → Type 0) → ((k : ℕ) (sent : List Message) → Told k sent → One k sent × Rest k sent) → (moves others : List Move) → run v moves ≡ u → IsWatching v One moves → IsWatching u Rest others
      → IsWatching v Told (moves ++ others)
  both_watch v u One Rest Told parts moves others is one rest =
      let same : u.sent ≡ v.sent ++ own_messages moves = ap (λ (x : Member). x.sent) (sym is) ∙ sent_watching its_row v moves one.1 in
      (both_sent One Rest Told parts moves others one.0 rest.0, watching-append its_row v.sent moves others one.1 (subst (λ ms. AreWatching its_row ms others) same rest.1))

  pub all_watched : (v : Member) (calls : List Call) → WereOwn its_row calls → IsMovedBy v (observed v calls) (IsWatching v (λ k sent. WereTold k sent calls))
  all_watched v [] own = nothing v _ (none v _)
  all_watched v (call ∷ calls) own =
      let these = own_first its_row call calls own in
      let u : Member = (call_step call (observing v)).member in
      joined v u (observed u calls) (IsWatching v (λ k sent. WereTold k sent (call ∷ []))) (IsWatching u (λ k sent. WereTold k sent calls)) (IsWatching v (λ k sent. WereTold k sent (call ∷ calls)))
      (both_watch v u (λ k sent. WereTold k sent (call ∷ [])) (λ k sent. WereTold k sent calls) (λ k sent. WereTold k sent (call ∷ calls)) (λ k sent told. told_first k sent call calls told)) (one_watched v call these.0) (all_watched u calls these.1)

-- ---- A process that observes

module _ (w : World) (number : ℕ) (v : Member) (calls : List Call) (is : IsObserved w number v calls) where
  abbrev pub watched_moves : List Move
  watched_moves = (all_watched (row w number) (founded w.group number w.vocabulary) calls is.own).moves

  has_watched : HasWatched w number v watched_moves
  has_watched = let m = all_watched (row w number) (founded w.group number w.vocabulary) calls is.own in record {
    is_number = is.is_number;
    made = record { allowed = m.allowed; is = m.is ∙ is.made };
    brought = λ k h d. m.holds.0 k _ (is.told k h d);
    watching = m.holds.1;
  }

  pub observed_in_row : HasRunInRow w number v watched_moves
  observed_in_row = watched_in_row w number v watched_moves has_watched
