-- What a member that made moves keeps, and what it has taken of each other one.
use Rattle.std.proofs.Common.{ℕ, zero, suc, ◌≡◌, ◌≤◌, ◌<◌, ◌+◌, ◌-◌, ◌⊎◌, List, [], ◌∷◌, ◌++◌, length, drop, get_or, replicate, slice_get, refl, sym, ap, subst, ◌∙◌, arith, get_or-set_other, Option, Some, None}
use Rattle.rbac_terms.specs.Vocabulary.{Vocabulary}
use Rattle.rbac_terms.specs.declared.command.Command.{Command}
use Rattle.rbac_words.specs.Group.{Group, IsGroup}
use Rattle.rbac_words.specs.Message.{stamp_of}
use Rattle.rbac_words.specs.World.{read_of}
use Rattle.rbac_words.specs.Right.{AreHistoriesRight}
use Rattle.rbac_words.specs.Play.{IsPrefixOf}
use Rattle.rbac_words.specs.Keeping.Member.{Member, IsMember, IsNumber, IsNext, founded, node_of, submitted, received, delivered, deliver_due, due_at, message_refusal}
use Rattle.rbac_words.specs.Keeping.Members.{AreMembers, HasReadOf, member_at, world_of}
use Rattle.rbac_words.specs.declared.message.Message.{Message}
use Rattle.rbac_words.specs.declared.message.Submission.{Submission}
use Rattle.rbac_order.proofs.SenderLemmas.{of, decide}
use Rattle.rbac_order.proofs.MemberLemmas.{none, get_or-none, keeps_founded, keeps_submit, keeps_deliver, keeps_received, of-submitted_other, of-received_other, due_is, known_delivered}
use Rattle.rbac_order.proofs.StepLemmas.{stays_read, takes_next}
use Rattle.rbac_order.proofs.GroupLemmas.{right}
use Rattle.rbac_order.proofs.EndLemmas.{one_history}
use Rattle.rbac_moves.specs.Moves.{Move, submits, receives, takes_own, delivers, move_refusal, moved, run, AreMoves, WereSent, AreRun}
use Rattle.rbac_order.proofs.OwnLemmas.{own_next_is, keeps_taken, taken_reads}
use Rattle.rbac_order.proofs.ReceiptLemmas.{next_is, room_is_free, number_is}

-- ---- One move

pub keeps_moved : (v : Member) (move : Move) → IsMember v → move_refusal v move ≡ None → IsMember (moved v move)
keeps_moved v (submits caller serial commands) kept free = keeps_submit v caller serial commands free kept
keeps_moved v (receives from number m) kept free = keeps_received v from m kept (next_is v from number m kept free) (room_is_free v from number m free)
keeps_moved v (takes_own number m) kept free = keeps_taken v m kept (own_next_is v number m free)
keeps_moved v delivers kept free = keeps_deliver v kept

-- whose it is stays
pub number_moved : (v : Member) (move : Move) → (moved v move).number ≡ v.number
number_moved v (submits caller serial commands) = refl
number_moved v (receives from number m) = refl
number_moved v (takes_own number m) = refl
number_moved v delivers = go (due_at v)
  where
    go : (o : Option Submission) → (deliver_due v o).number ≡ v.number
    go None = refl
    go (Some x) = refl

pub group_moved : (v : Member) (move : Move) → (moved v move).group ≡ v.group
group_moved v (submits caller serial commands) = refl
group_moved v (receives from number m) = refl
group_moved v (takes_own number m) = refl
group_moved v delivers = go (due_at v)
  where
    go : (o : Option Submission) → (deliver_due v o).group ≡ v.group
    go None = refl
    go (Some x) = refl

pub vocabulary_moved : (v : Member) (move : Move) → (moved v move).vocabulary ≡ v.vocabulary
vocabulary_moved v (submits caller serial commands) = refl
vocabulary_moved v (receives from number m) = refl
vocabulary_moved v (takes_own number m) = refl
vocabulary_moved v delivers = go (due_at v)
  where
    go : (o : Option Submission) → (deliver_due v o).vocabulary ≡ v.vocabulary
    go None = refl
    go (Some x) = refl

-- ---- What was taken of member k

-- the item at the end of what is taken is the first that is not
pub first_unread : (taken unread : List Message) (m : Message) → slice_get (taken ++ unread) (length taken) ≡ Some m → unread ≡ m ∷ drop 1 unread
first_unread [] [] m e = let no : ⊥ = cc in absurd no
first_unread [] (u ∷ us) m e = let same : u ≡ m = cc in ap (λ z. z ∷ us) same
first_unread (t ∷ ts) unread m e = first_unread ts unread m e

module _ (k : ℕ) (low : 1 ≤ k) (sent : List Message) where
  -- a move of which each message of k is one that k sent
  abbrev pub WasSent : Move → Type 0
  WasSent move = WereSent k sent (move ∷ [])

  submit_reads : (v : Member) (caller serial : ℕ) (commands : List Command) → (k ≡ v.number → ⊥) → HasReadOf v k sent → HasReadOf (submitted v caller serial commands) k sent
  submit_reads v caller serial commands other r = stays_read v (submitted v caller serial commands) k sent refl refl (of-submitted_other v caller serial commands k other) r

  deliver_reads : (v : Member) → HasReadOf v k sent → HasReadOf (deliver_due v (due_at v)) k sent
  deliver_reads v r = go (due_at v) refl
    where
      go : (o : Option Submission) → due_at v ≡ o → HasReadOf (deliver_due v o) k sent
      go None e = r
      go (Some x) e = let d = due_is v x e in stays_read v (delivered v x) k sent refl refl (ap (of k) (sym (known_delivered v x d.rest d.held))) r

  receive_reads : (v : Member) (from number : ℕ) (m : Message) → IsMember v → message_refusal v from number m ≡ None → (from ≡ k → slice_get sent (number - 1) ≡ Some m) → HasReadOf v k sent → HasReadOf (received v from m) k sent
  receive_reads v from number m kept free was r = decide (HasReadOf (received v from m) k sent) k from here there
    where
      next : IsNext v from m
      next = next_is v from number m kept free

      here : k ≡ from → HasReadOf (received v from m) k sent
      here e =
          let place : number ≡ read_of (node_of v) from + 1 = number_is v from number m free in
          let count : read_of (node_of v) k ≡ length r.taken = r.has_taken.count in
          let at : number - 1 ≡ length r.taken = ap (λ n. n - 1) place ∙ (let z : read_of (node_of v) from + 1 - 1 ≡ read_of (node_of v) from = omega arith in z) ∙ ap (read_of (node_of v)) (sym e) ∙ count in
          let found : slice_get (r.taken ++ r.unread) (length r.taken) ≡ Some m = ap (λ l. slice_get l (length r.taken)) (sym r.sent) ∙ ap (slice_get sent) (sym at) ∙ was (sym e) in
          subst (λ j. HasReadOf (received v j m) k sent) e
          (takes_next v k sent m (drop 1 r.unread) r (first_unread r.taken r.unread m found) kept (subst (λ j. IsNext v j m) (sym e) next))

      apart : (k ≡ from → ⊥) → from - 1 ≡ k - 1 → ⊥
      apart d e = let a : 1 ≤ from = next.number.low in d (omega arith)

      there : (k ≡ from → ⊥) → HasReadOf (received v from m) k sent
      there d =
          stays_read v (received v from m) k sent
          (get_or-set_other v.read (from - 1) (k - 1) (read_of (node_of v) from + 1) 0 (λ e. apart d (sym e)))
          (get_or-set_other v.latest (from - 1) (k - 1) (Some (stamp_of m)) none (λ e. apart d (sym e)))
          (of-received_other v from m kept next k d) r

  pub move_reads : (v : Member) (move : Move) → IsMember v → (k ≡ v.number → ⊥) → move_refusal v move ≡ None → WasSent move → HasReadOf v k sent → HasReadOf (moved v move) k sent
  move_reads v (submits caller serial commands) kept other free was r = submit_reads v caller serial commands other r
  move_reads v (receives from number m) kept other free was r = receive_reads v from number m kept free was.0 r
  move_reads v (takes_own number m) kept other free was r = taken_reads v m kept (own_next_is v number m free) k sent other r
  move_reads v delivers kept other free was r = deliver_reads v r

  first_sent : (move : Move) (moves : List Move) → WereSent k sent (move ∷ moves) → WasSent move
  first_sent (submits caller serial commands) moves h = tt
  first_sent (receives from number m) moves h = (h.0, tt)
  first_sent (takes_own number m) moves h = tt
  first_sent delivers moves h = tt

  later_sent : (move : Move) (moves : List Move) → WereSent k sent (move ∷ moves) → WereSent k sent moves
  later_sent (submits caller serial commands) moves h = h
  later_sent (receives from number m) moves h = h.1
  later_sent (takes_own number m) moves h = h
  later_sent delivers moves h = h

  pub run_reads : (v : Member) (moves : List Move) → IsMember v → (k ≡ v.number → ⊥) → AreMoves v moves → WereSent k sent moves → HasReadOf v k sent → HasReadOf (run v moves) k sent
  run_reads v [] kept other are were r = r
  run_reads v (move ∷ moves) kept other are were r =
      run_reads (moved v move) moves (keeps_moved v move kept are.0) (λ e. other (e ∙ number_moved v move)) are.1 (later_sent move moves were)
      (move_reads v move kept other are.0 (first_sent move moves were) r)

pub sent_left : (k : ℕ) (sent : List Message) (moves later : List Move) → WereSent k sent (moves ++ later) → WereSent k sent moves
sent_left k sent [] later h = tt
sent_left k sent (submits caller serial commands ∷ moves) later h = sent_left k sent moves later h
sent_left k sent (receives from number m ∷ moves) later h = (h.0, sent_left k sent moves later h.1)
sent_left k sent (takes_own number m ∷ moves) later h = sent_left k sent moves later h
sent_left k sent (delivers ∷ moves) later h = sent_left k sent moves later h

-- ---- A run

pub keeps_run : (v : Member) (moves : List Move) → IsMember v → AreMoves v moves → IsMember (run v moves)
keeps_run v [] kept are = kept
keeps_run v (move ∷ moves) kept are = keeps_run (moved v move) moves (keeps_moved v move kept are.0) are.1

pub number_run : (v : Member) (moves : List Move) → (run v moves).number ≡ v.number
number_run v [] = refl
number_run v (move ∷ moves) = number_run (moved v move) moves ∙ number_moved v move

pub group_run : (v : Member) (moves : List Move) → (run v moves).group ≡ v.group
group_run v [] = refl
group_run v (move ∷ moves) = group_run (moved v move) moves ∙ group_moved v move

pub vocabulary_run : (v : Member) (moves : List Move) → (run v moves).vocabulary ≡ v.vocabulary
vocabulary_run v [] = refl
vocabulary_run v (move ∷ moves) = vocabulary_run (moved v move) moves ∙ vocabulary_moved v move

pub run-append : (v : Member) (moves others : List Move) → run v (moves ++ others) ≡ run (run v moves) others
run-append v [] others = refl
run-append v (move ∷ moves) others = run-append (moved v move) moves others

pub moves_left : (v : Member) (moves later : List Move) → AreMoves v (moves ++ later) → AreMoves v moves
moves_left v [] later h = tt
moves_left v (move ∷ moves) later h = (h.0, moves_left (moved v move) moves later h.1)

-- ---- From the founding

get_or-zero : (n i : ℕ) → ◌≡◌ {A = ℕ} (get_or (replicate n 0) i 0) 0
get_or-zero zero i = refl
get_or-zero (suc n) zero = refl
get_or-zero (suc n) (suc i) = get_or-zero n i

founded_reads : (group : Group) (number : ℕ) (vocabulary : Vocabulary) (k : ℕ) (sent : List Message) → HasReadOf (founded group number vocabulary) k sent
founded_reads group number vocabulary k sent = record {
  taken = [];
  unread = sent;
  sent = refl;
  has_taken = record { count = get_or-zero group.members (k - 1); commands = refl; latest = get_or-none group.members (k - 1) };
}

pub keeps_made : (group : Group) (vocabulary : Vocabulary) (number : ℕ) (moves : List Move) → IsGroup group → IsNumber group number → AreMoves (founded group number vocabulary) moves → IsMember (run (founded group number vocabulary) moves)
keeps_made group vocabulary number moves is n are = keeps_run (founded group number vocabulary) moves (keeps_founded group number vocabulary is n.low n.high) are

pub reads_made : (group : Group) (vocabulary : Vocabulary) (number k : ℕ) (sent : List Message) (moves : List Move) → IsGroup group → IsNumber group number → 1 ≤ k → (k ≡ number → ⊥) → AreMoves (founded group number vocabulary) moves → WereSent k sent moves
    → HasReadOf (run (founded group number vocabulary) moves) k sent
reads_made group vocabulary number k sent moves is n low other are were =
    run_reads k low sent (founded group number vocabulary) moves (keeps_founded group number vocabulary is n.low n.high) other are were (founded_reads group number vocabulary k sent)

-- ---- A group

module _ (group : Group) (vocabulary : Vocabulary) (members : List Member) (moves : ℕ → List Move) (is : IsGroup group) (are : AreRun group vocabulary members moves) where
  pub place_number : (i : ℕ) → i < length members → IsNumber group (i + 1)
  place_number i h = let a : length members ≡ group.members = are.count in record { low = omega arith; high = omega arith }

  pub number_here : (i : ℕ) → i < length members → (member_at members i).number ≡ i + 1
  number_here i h = let m = are.made i h in ap (λ (v : Member). v.number) (sym m.is) ∙ number_run (founded group (i + 1) vocabulary) (moves i)

  pub are_members : AreMembers group vocabulary members
  are_members = record {
    count = are.count;
    numbered = number_here;
    same_group = λ i h. let m = are.made i h in ap (λ (v : Member). v.group) (sym m.is) ∙ group_run (founded group (i + 1) vocabulary) (moves i);
    same_vocabulary = λ i h. let m = are.made i h in ap (λ (v : Member). v.vocabulary) (sym m.is) ∙ vocabulary_run (founded group (i + 1) vocabulary) (moves i);
    kept = λ i h. let m = are.made i h in subst IsMember m.is (keeps_made group vocabulary (i + 1) (moves i) is (place_number i h) m.allowed);
    read = λ i j hi hj d. let m = are.made i hi in
        subst (λ n. HasReadOf (member_at members i) n (member_at members j).sent) (sym (number_here j hj))
        (subst (λ v. HasReadOf v (j + 1) (member_at members j).sent) m.is
        (reads_made group vocabulary (i + 1) (j + 1) (member_at members j).sent (moves i) is (place_number i hi) (omega arith) (λ e. d (omega arith)) m.allowed (are.brought i j hi hj d)));
  }

  pub all_right : AreHistoriesRight (world_of group vocabulary members)
  all_right = right group vocabulary members are_members

  pub one_of_two : (i j : ℕ) → i < length members → j < length members → IsPrefixOf (member_at members i).history (member_at members j).history ⊎ IsPrefixOf (member_at members j).history (member_at members i).history
  one_of_two = one_history group vocabulary members are_members
