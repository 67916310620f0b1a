-- What each call of a node keeps.
use Rattle.std.proofs.Common.{ℕ, Bool, true, false, cond, nat_le, ◌≡◌, ◌<◌, ◌≤◌, ◌-◌, ◌==◌, ◌&&◌, List, length, set, get_or, Option, None, Some, Result, Ok, Err, IfOk, OnOk, OnErr, refl, sym, ap, subst, ◌∙◌, arith}
use Rattle.std.specs.List.{slice_get}
use Rattle.std.proofs.lemmas.Bool.{eqb-true}
use Rattle.std.proofs.lemmas.List.{get_or_past}
use Rattle.rbac_words.specs.Group.{Group}
use Rattle.rbac_words.specs.Keeping.Links.{has_link}
use Rattle.rbac_words.specs.World.{read_of}
use Rattle.rbac_words.specs.Play.{IsPrefixOf}
use Rattle.rbac_words.specs.Keeping.Member.{Member, IsMember, node_of, links_of, submitted, due_at, deliver_due}
use Rattle.rbac_terms.specs.declared.command.Command.{Command}
use Rattle.rbac_words.specs.declared.message.Message.{Message}
use Rattle.rbac_words.specs.declared.message.Submission.{Submission}
use Rattle.rbac_words.specs.declared.stamp.Stamp.{Stamp}
use Rattle.rbac_member.specs.Calls.{taken_of}
use Rattle.rbac_order.proofs.RangeLemmas.{above_range}
use Rattle.rbac_order.proofs.ReceiptLemmas.{next_is}
use Rattle.rbac_board.specs.Known.{Known, IsOf}
use Rattle.rbac_node.specs.declared.group_name.GroupName.{Ghosts}
use Rattle.rbac_node.specs.declared.node.Node.TheInside.{Inside}
use Rattle.rbac_node.specs.Cells.{sent_cells}
use Rattle.rbac_node.specs.Inside.{state_of, IsKept}
use Rattle.rbac_node.specs.Node.{NodeState, IsAnother, IsShown, Takes, seen_of, next_number}
use Rattle.rbac_node.proofs.ShownLemmas.{reads_of_more, shown_submitted, shown_delivered, shown_received}
use Rattle.rbac_node.proofs.MarkLemmas.{IsMarkOf, reads_set, known_still}

-- a call that may be refused leaves what it aims at, or what was
pub on_both : {T E S : Type 0} (result : Result T E) (P : S → Type 0) (old new target : S) → OnOk result (new ≡ target) → OnErr result (new ≡ old) → P old → P target → P new
on_both (Ok x) P old new target done refused h k = subst P (sym done) k
on_both (Err e) P old new target done refused h k = subst P (sym refused) h

module _ {G : Type 0} (name : Ghosts G) (i : Inside G) where
  -- the node with another member, and with other marks to read by
  abbrev pub state_with : Member → List (Known Message) → NodeState
  state_with v marks = state_of v i.sent i.history marks i.next_caller i.is_stopped

  -- and that it keeps what a node keeps
  abbrev pub Keeps : Member → List (Known Message) → Type 0
  Keeps v marks = IsKept name.group name.vocabulary name.cells (state_with v marks) i.sent i.history marks

  abbrev pub state : NodeState
  state = state_with i.member i.reads.items

  module _ (kept : Keeps i.member i.reads.items) where
    pub kept_submitted : {T E : Type 0} (result : Result T E) (old : NodeState) (new : Member) (caller serial : ℕ) (commands : List Command) → state ≡ old → caller < old.next_caller
        → OnOk result (new ≡ submitted i.member caller serial commands) → OnErr result (new ≡ i.member) → Keeps new i.reads.items
    kept_submitted result old new caller serial commands is below done refused =
        on_both result (λ v. Keeps v i.reads.items) i.member new (submitted i.member caller serial commands) done refused kept
        (record {
          group = kept.group;
          vocabulary = kept.vocabulary;
          shown = shown_submitted state caller serial commands kept.shown (subst (λ (n : NodeState). caller < n.next_caller) (sym is) below);
          sent = kept.sent;
          history = kept.history;
          reads = kept.reads;
        })

    pub kept_delivered : {T E : Type 0} (result : Result T E) (new : Member) → OnOk result (new ≡ deliver_due i.member (due_at i.member)) → OnErr result (new ≡ i.member) → Keeps new i.reads.items
    kept_delivered result new done refused =
        on_both result (λ v. Keeps v i.reads.items) i.member new (deliver_due i.member (due_at i.member)) done refused kept (go (due_at i.member) (shown_delivered state kept.shown))
      where
        go : (o : Option Submission) → IsShown (state_with (deliver_due i.member o) i.reads.items) → Keeps (deliver_due i.member o) i.reads.items
        go None s = kept
        go (Some x) s = record { group = kept.group; vocabulary = kept.vocabulary; shown = s; sent = kept.sent; history = kept.history; reads = kept.reads }

    -- the next message that is known of another member is received, or refused
    pub kept_received : {E : Type 0} (result : Result (Option Stamp) E) (from : ℕ) (messages : List Message) (new : Member) → seen_of state from ≡ messages → IsMember i.member
        → IfOk result (λ stamp. Takes from messages i.member stamp new) → OnErr result (new ≡ i.member) → Keeps new i.reads.items
    kept_received (Err e) from messages new known member taken refused = subst (λ v. Keeps v i.reads.items) (sym refused) kept
    kept_received (Ok stamp) from messages new known member taken refused =
        let m : Message = taken.message in
        let there : slice_get (seen_of state from) (read_of (node_of i.member) from) ≡ Some m = subst (λ l. slice_get l (read_of (node_of i.member) from) ≡ Some m) (sym known) taken.next in
        subst (λ v. Keeps v i.reads.items) (sym taken.taken)
        (record {
          group = kept.group;
          vocabulary = kept.vocabulary;
          shown = shown_received state from m kept.shown member (next_is i.member from (next_number i.member from) m member taken.accepted) there;
          sent = kept.sent;
          history = kept.history;
          reads = kept.reads;
        })

    -- the mark of another member
    pub mark_of : (now : NodeState) (from : ℕ) (mark : Known Message) → state ≡ now → IsAnother now.member from → mark ≡ get_or i.reads.items (from - 1) mark → IsMarkOf i.reads.items from mark
    mark_of now from mark view another is = record {
      low = another.number.low;
      high = let all : length i.reads.items ≡ name.group.members = kept.reads.count in
          let high : from ≤ now.member.group.members = another.number.high in
          let same : now.member.group.members ≡ name.group.members = ap (λ (n : NodeState). n.member.group.members) (sym view) ∙ ap (λ (group : Group). group.members) kept.group in omega arith;
      is = is;
    }

    -- that mark knows more
    pub kept_seen : (from : ℕ) (mark new : Known Message) → IsMarkOf i.reads.items from mark → IsPrefixOf mark.values new.values → IsOf (sent_cells name.cells from) new → Keeps i.member (set i.reads.items (from - 1) new)
    kept_seen from mark new is begins of = record {
      group = kept.group;
      vocabulary = kept.vocabulary;
      shown = record {
        sent = kept.shown.sent;
        history = kept.shown.history;
        reads = λ k another.
            let same : IsAnother i.member k = record { number = another.number; other = another.other } in
            reads_of_more i.member k (seen_of state k) (seen_of (state_with i.member (set i.reads.items (from - 1) new)) k)
            (known_still state i.reads.items refl from mark is new begins k another.number.low) (kept.shown.reads k same);
        callers = kept.shown.callers;
      };
      sent = kept.sent;
      history = kept.history;
      reads = reads_set name.cells name.group.members i.reads.items from new kept.reads is.low
          (let all : length i.reads.items ≡ name.group.members = kept.reads.count in let high : from ≤ length i.reads.items = is.high in omega arith) of;
    }

-- of another member as many were read as its links say were taken
pub taken_is_read : (v : Member) (k : ℕ) → IsAnother v k → taken_of v k ≡ read_of (node_of v) k
taken_is_read v k another = other (k == v.number) refl
  where
    linked : (b : Bool) → has_link (links_of v) k ≡ b → cond b (read_of (node_of v) k) 0 ≡ read_of (node_of v) k
    linked true e = refl
    linked false e = sym (get_or_past v.read (k - 1) 0 (let past = above_range k (length v.read) another.number.low e in omega arith))

    other : (b : Bool) → (k == v.number) ≡ b → cond b 0 (cond (has_link (links_of v) k) (read_of (node_of v) k) 0) ≡ read_of (node_of v) k
    other true e = absurd (another.other (eqb-true k v.number e))
    other false e = linked (has_link (links_of v) k) refl
