-- Each move of its member keeps what a node shows and sees.
use Rattle.std.proofs.Common.{ℕ, suc, ◌≡◌, ◌≤◌, ◌<◌, ◌-◌, ◌+◌, List, [], ◌∷◌, ◌++◌, length, get_or-set_other, append-nil, append_assoc, refl, sym, ap, subst, ◌∙◌, arith, Option, None, Some}
use Rattle.std.specs.List.{AllByRecursion as Each, slice_get}
use Rattle.std.proofs.lemmas.Option.{same_Some}
use Rattle.rbac_words.specs.Message.{stamp_of, next_place, in_turn, submissions}
use Rattle.rbac_words.specs.Front.{is_of}
use Rattle.rbac_words.specs.World.{read_of, stamp, acknowledgement, acks}
use Rattle.rbac_words.specs.Play.{IsPrefixOf}
use Rattle.rbac_words.specs.Keeping.Member.{Member, IsMember, IsNext, node_of, known, batch, submitted, received, due_at, delivery, delivered, deliver_due}
use Rattle.rbac_words.specs.Keeping.Members.{HasReadOf}
use Rattle.rbac_terms.specs.declared.command.Command.{Command}
use Rattle.rbac_words.specs.declared.message.Message.{Message}
use Rattle.rbac_words.specs.declared.message.Submission.{Submission}
use Rattle.rbac_words.specs.declared.record.Record.{Record}
use Rattle.rbac_words.specs.declared.stamp.Stamp.{Stamp}
use Rattle.sorted_keys.proofs.Lists.{Each-append}
use Rattle.rbac_order.proofs.MessageLemmas.{submissions-append}
use Rattle.rbac_order.proofs.SenderLemmas.{of, decide}
use Rattle.rbac_order.proofs.MemberLemmas.{none, of-submitted_other, due_is, known_delivered, of-received_other}
use Rattle.rbac_order.proofs.StepLemmas.{stays_read, takes_next}
use Rattle.rbac_node.specs.Node.{NodeState, IsAnother, IsShown, seen_of, with_own_member}
use Rattle.rbac_node.proofs.PrefixLemmas.{prefix_more}

-- a mark that knows more
pub reads_of_more : (v : Member) (k : ℕ) (xs ys : List Message) → IsPrefixOf xs ys → HasReadOf v k xs → HasReadOf v k ys
reads_of_more v k xs ys h r = record {
  taken = r.taken;
  unread = r.unread ++ h.0;
  sent = sym h.1 ∙ ap (λ l. l ++ h.0) r.sent ∙ append_assoc r.taken r.unread h.0;
  has_taken = r.has_taken;
}

-- the member changes, and what it sent and delivered goes on
pub shown_after : (n : NodeState) (v : Member) (more : List Message) (more_history : List Record) → IsShown n
    → v.sent ≡ n.member.sent ++ more → v.history ≡ n.member.history ++ more_history
    → ((k : ℕ) → IsAnother v k → HasReadOf v k (seen_of n k))
    → Each (λ (x : Submission). x.caller < n.next_caller) (submissions more)
    → IsShown (with_own_member n v)
shown_after n v more more_history s sent history reads callers = record {
  sent = subst (IsPrefixOf n.sent) (sym sent) (prefix_more n.sent n.member.sent more s.sent);
  history = subst (IsPrefixOf n.history) (sym history) (prefix_more n.history n.member.history more_history s.history);
  reads = reads;
  callers = subst (Each (λ (x : Submission). x.caller < n.next_caller)) (sym (ap submissions sent ∙ submissions-append n.member.sent more))
      (Each-append (λ (x : Submission). x.caller < n.next_caller) (submissions n.member.sent) (submissions more) s.callers callers);
}

-- ---- A submit

pub shown_submitted : (n : NodeState) (caller serial : ℕ) (commands : List Command) → IsShown n → caller < n.next_caller → IsShown (with_own_member n (submitted n.member caller serial commands))
shown_submitted n caller serial commands s below =
    let v : Member = n.member in
    shown_after n (submitted v caller serial commands) (batch v caller serial commands ∷ []) [] s refl (sym (append-nil v.history))
    (λ k another. let same : IsAnother v k = record { number = another.number; other = another.other } in
    stays_read v (submitted v caller serial commands) k (seen_of n k) refl refl
    (of-submitted_other v caller serial commands k another.other) (s.reads k same))
    (of_caller (stamp (v.clock + 1) v.number) serial commands)
  where
    of_caller : (s : Stamp) (k : ℕ) (cs : List Command) → Each (λ (x : Submission). x.caller < n.next_caller) (in_turn s caller k cs ++ [])
    of_caller s k [] = tt
    of_caller s k (c ∷ cs) = (below, of_caller (next_place s) (suc k) cs)

-- ---- A delivery

pub shown_delivered : (n : NodeState) → IsShown n → IsShown (with_own_member n (deliver_due n.member (due_at n.member)))
shown_delivered n s = go (due_at n.member) refl
  where
    go : (o : Option Submission) → due_at n.member ≡ o → IsShown (with_own_member n (deliver_due n.member o))
    go None e = s
    go (Some x) e =
        let v : Member = n.member in
        let d = due_is v x e in
        shown_after n (delivered v x) [] (delivery v x ∷ []) s (sym (append-nil v.sent)) refl
        (λ k another. let same : IsAnother v k = record { number = another.number; other = another.other } in
        stays_read v (delivered v x) k (seen_of n k) refl refl (ap (of k) (sym (known_delivered v x d.rest d.held))) (s.reads k same))
        tt

-- ---- A receipt

-- the message that comes next is the first that is unread
next_unread : (taken unread : List Message) (m : Message) → slice_get (taken ++ unread) (length taken) ≡ Some m → (rest : List Message) × (unread ≡ m ∷ rest)
next_unread [] [] m e = let no : ⊥ = cc in absurd no
next_unread [] (x ∷ xs) m e = (xs, ap (λ z. z ∷ xs) (same_Some x m e))
next_unread (t ∷ ts) unread m e = next_unread ts unread m e

module _ (v : Member) (from : ℕ) (m : Message) (kept : IsMember v) (next : IsNext v from m) where
  -- of the sender it has one message more
  from_sender : (messages : List Message) → slice_get messages (read_of (node_of v) from) ≡ Some m → HasReadOf v from messages → HasReadOf (received v from m) from messages
  from_sender messages is r =
      let here : slice_get (r.taken ++ r.unread) (length r.taken) ≡ Some m =
      subst (λ l. slice_get l (length r.taken) ≡ Some m) r.sent (subst (λ i. slice_get messages i ≡ Some m) r.has_taken.count is) in
      let first = next_unread r.taken r.unread m here in
      takes_next v from messages m first.0 r first.1 kept next

  -- and of each other one as many as before
  from_others : (k : ℕ) (messages : List Message) → 1 ≤ k → (k ≡ from → ⊥) → HasReadOf v k messages → HasReadOf (received v from m) k messages
  from_others k messages low apart r =
      stays_read v (received v from m) k messages
      (get_or-set_other v.read (from - 1) (k - 1) (read_of (node_of v) from + 1) 0 places)
      (get_or-set_other v.latest (from - 1) (k - 1) (Some (stamp_of m)) none places)
      (of-received_other v from m kept next k apart) r
    where
      places : k - 1 ≡ from - 1 → ⊥
      places e = let first : 1 ≤ from = next.number.low in apart (omega arith)

-- an acknowledgement has no commands
no_callers : (P : Submission → Type 0) (o : Option Stamp) → Each P (submissions (acks o))
no_callers P None = tt
no_callers P (Some s) = tt

pub shown_received : (n : NodeState) (from : ℕ) (m : Message) → IsShown n → IsMember n.member → IsNext n.member from m → slice_get (seen_of n from) (read_of (node_of n.member) from) ≡ Some m
    → IsShown (with_own_member n (received n.member from m))
shown_received n from m s kept next is =
    let v : Member = n.member in
    shown_after n (received v from m) (acks (acknowledgement (node_of v) m)) [] s refl (sym (append-nil v.history)) reads
    (no_callers (λ (x : Submission). x.caller < n.next_caller) (acknowledgement (node_of v) m))
  where
    reads : (k : ℕ) → IsAnother (received n.member from m) k → HasReadOf (received n.member from m) k (seen_of n k)
    reads k another =
        let same : IsAnother n.member k = record { number = another.number; other = another.other } in
        let r : HasReadOf n.member k (seen_of n k) = s.reads k same in
        decide (HasReadOf (received n.member from m) k (seen_of n k)) k from
        (λ e. subst (λ j. HasReadOf (received n.member from m) j (seen_of n j)) (sym e) (from_sender n.member from m kept next (seen_of n from) is (subst (λ j. HasReadOf n.member j (seen_of n j)) e r)))
        (λ d. from_others n.member from m kept next k (seen_of n k) another.number.low d r)
