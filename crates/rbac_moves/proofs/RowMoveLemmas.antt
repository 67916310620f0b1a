-- What processes do that are members by their rows alone: a member that watches sends nothing, and whoever takes its row is
-- that member.
use Rattle.std.proofs.Common.{ℕ, zero, suc, false, true, max, ◌≡◌, ◌≤◌, ◌<◌, ◌+◌, ◌-◌, ◌⊎◌, inl, inr, List, [], ◌∷◌, ◌++◌, length, length-append, length-set, drop, map, get_or, set, slice_get, refl, sym, ap, subst, ◌∙◌, arith, append-nil, append_assoc, get_or-set_same, get_or-set_other, Some, None}
use Rattle.std.proofs.lemmas.Bool.{or_left, or_right}
use Rattle.std.proofs.lemmas.List.Folds.{list_any-append}
use Rattle.rbac_terms.specs.Vocabulary.{Vocabulary}
use Rattle.rbac_terms.specs.State.{founding_state}
use Rattle.rbac_words.specs.Group.{Group, IsGroup}
use Rattle.rbac_words.specs.Stamp.{IsBefore, is_before, last_stamp, up_to}
use Rattle.rbac_words.specs.Message.{stamp_of, submitted_at, submissions_of, submissions, commands_of, has_later, IsLawful}
use Rattle.rbac_words.specs.World.{World, Node, nobody, node, acknowledgement, must_acknowledge}
use Rattle.rbac_words.specs.Right.{all_commands}
use Rattle.rbac_words.specs.Play.{IsPrefixOf}
use Rattle.rbac_words.specs.Keeping.Member.{Member, IsMember, IsNumber, founded, node_of, received, deliver_due, due_at}
use Rattle.rbac_words.specs.Keeping.Members.{AreMembers, HasReadOf, IsLawfulWorld, member_at, world_of}
use Rattle.rbac_words.specs.declared.message.Message.{Message}
use Rattle.rbac_words.specs.declared.message.Message.TheVariants.{Ack}
use Rattle.rbac_words.specs.declared.stamp.Stamp.{Stamp}
use Rattle.rbac_order.proofs.StampLemmas.{true_before}
use Rattle.rbac_order.proofs.SenderLemmas.{decide}
use Rattle.rbac_order.proofs.HistoryLemmas.{Rising-all}
use Rattle.rbac_order.proofs.GroupLemmas.{node-of_member}
use Rattle.rbac_words.specs.Keeping.Own.{own_refusal, took_own}
use Rattle.rbac_order.proofs.OwnLemmas.{own_next_is, own_number_is, keeps_taken, lawful_taken, never_refused}
use Rattle.rbac_moves.specs.Moves.{Move, submits, receives, takes_own, delivers, run, AreMoves, HasMade, WereSent}
use Rattle.rbac_moves.specs.Seal.{row, HasPartOfRows, wants_answer, sealed, MaySeal}
use Rattle.rbac_moves.specs.Rows.{own_messages, AreWatching, HasRunInRow, HasWatched, taking, clock_over, with_message, HasGrown}
use Rattle.rbac_moves.proofs.MoveLemmas.{first_unread, keeps_made, reads_made, number_run, group_run, vocabulary_run}
use Rattle.rbac_order.proofs.EndLemmas.{prefix_of_all, prefixes_of_one, history_prefix}
use Rattle.rbac_moves.proofs.SealLemmas.{sent_delivered}
use Rattle.rbac_moves.proofs.SealMoveLemmas.{sent_unanswered, unanswered, keeps_sealed}
use Rattle.rbac_moves.proofs.RowLemmas.{own_goes_on, part_right}

-- ---- A member that watches

pub unanswered_one : (v : Member) (m : Message) → has_later v.sent (stamp_of m) ≡ true → acknowledgement (node_of v) m ≡ None
unanswered_one v m e = let silent : must_acknowledge (node_of v) m ≡ false = unanswered v.sent m e in rw silent refl

pub below_own : (v : Member) (m other : Message) → IsBefore (stamp_of other) (stamp_of m) → wants_answer (took_own v m).sent other ≡ false
below_own v m other b = unanswered (took_own v m).sent other (list_any-append (λ n. is_before (stamp_of other) (stamp_of n)) v.sent (m ∷ []) ∙ or_right _ _ (or_left _ _ (true_before (stamp_of other) (stamp_of m) b)))

-- it has sent what it took of its own row, and nothing else
pub sent_watching : (row : List Message) (v : Member) (moves : List Move) → AreWatching row v.sent moves → (run v moves).sent ≡ v.sent ++ own_messages moves
sent_watching row v [] a = sym (append-nil v.sent)
sent_watching row v (submits caller serial commands ∷ moves) a = absurd a
sent_watching row v (receives from number m ∷ moves) a =
    let same : (received v from m).sent ≡ v.sent = sent_unanswered v from m a.0 in
    sent_watching row (received v from m) moves (subst (λ ms. AreWatching row ms moves) (sym same) a.1) ∙ ap (λ ms. ms ++ own_messages moves) same
sent_watching row v (takes_own number m ∷ moves) a = sent_watching row (took_own v m) moves a.1 ∙ append_assoc v.sent (m ∷ []) (own_messages moves)
sent_watching row v (delivers ∷ moves) a =
    let same : (deliver_due v (due_at v)).sent ≡ v.sent = sent_delivered v in
    sent_watching row (deliver_due v (due_at v)) moves (subst (λ ms. AreWatching row ms moves) (sym same) a) ∙ ap (λ ms. ms ++ own_messages moves) same

-- so all of it stands in its row, in its place
pub row_watching : (row : List Message) (v : Member) (moves : List Move) → IsPrefixOf v.sent row → AreMoves v moves → AreWatching row v.sent moves → IsPrefixOf (run v moves).sent row
row_watching row v [] p are a = p
row_watching row v (submits caller serial commands ∷ moves) p are a = absurd a
row_watching row v (receives from number m ∷ moves) p are a =
    let same : (received v from m).sent ≡ v.sent = sent_unanswered v from m a.0 in
    row_watching row (received v from m) moves (subst (λ ms. IsPrefixOf ms row) (sym same) p) are.1 (subst (λ ms. AreWatching row ms moves) (sym same) a.1)
row_watching row v (takes_own number m ∷ moves) p are a =
    let place : number ≡ length v.sent + 1 = own_number_is v number m are.0 in
    let at : number - 1 ≡ length v.sent = omega arith in
    let found : slice_get (v.sent ++ p.0) (length v.sent) ≡ Some m = ap (λ l. slice_get l (length v.sent)) p.1 ∙ ap (slice_get row) (sym at) ∙ a.0 in
    row_watching row (took_own v m) moves
    (drop 1 p.0, append_assoc v.sent (m ∷ []) (drop 1 p.0) ∙ ap (λ l. v.sent ++ l) (sym (first_unread v.sent p.0 m found)) ∙ p.1) are.1 a.1
row_watching row v (delivers ∷ moves) p are a =
    let same : (deliver_due v (due_at v)).sent ≡ v.sent = sent_delivered v in
    row_watching row (deliver_due v (due_at v)) moves (subst (λ ms. IsPrefixOf ms row) (sym same) p) are.1 (subst (λ ms. AreWatching row ms moves) (sym same) a)

pub watched_in_row : (w : World) (number : ℕ) (v : Member) (moves : List Move) → HasWatched w number v moves → HasRunInRow w number v moves
watched_in_row w number v moves h = record {
  is_number = h.is_number;
  made = h.made;
  brought = h.brought;
  own = subst (λ (u : Member). IsPrefixOf u.sent (row w number)) h.made.is (row_watching (row w number) (founded w.group number w.vocabulary) moves (row w number, refl) h.made.allowed h.watching);
}

-- ---- A process whose messages stand in its row

pub part_of_rows : (w : World) (number : ℕ) (v : Member) (moves : List Move) → IsGroup w.group → IsLawfulWorld w → HasRunInRow w number v moves → HasPartOfRows w v
part_of_rows w number v moves is l r =
    record {
      kept = kept;
      same_group = same;
      same_vocabulary = ap (λ (u : Member). u.vocabulary) (sym r.made.is) ∙ vocabulary_run (founded w.group number w.vocabulary) moves;
      own = own_goes_on w l v kept same (subst (λ n. IsPrefixOf v.sent (row w n)) (sym here) r.own);
      read = λ k n d. let other : k ≡ number → ⊥ = λ e. d (e ∙ sym here) in
          subst (λ u. HasReadOf u k (row w k)) r.made.is (reads_made w.group w.vocabulary number k (row w k) moves is r.is_number n.low other r.made.allowed (r.brought k n other));
    }
  where
    kept : IsMember v
    kept = subst IsMember r.made.is (keeps_made w.group w.vocabulary number moves is r.is_number r.made.allowed)

    same : v.group ≡ w.group
    same = ap (λ (u : Member). u.group) (sym r.made.is) ∙ group_run (founded w.group number w.vocabulary) moves

    here : v.number ≡ number
    here = ap (λ (u : Member). u.number) (sym r.made.is) ∙ number_run (founded w.group number w.vocabulary) moves

-- of two that have a first part of each row, one history goes on where the other ends
pub one_of_parts : (w : World) (u v : Member) → IsLawfulWorld w → HasPartOfRows w u → HasPartOfRows w v → IsPrefixOf u.history v.history ⊎ IsPrefixOf v.history u.history
one_of_parts w u v l a b =
    let rises = Rising-all w l in
    let here = part_right w l u a in
    let there = part_right w l v b in
    elim (prefixes_of_one (commands_of u.history) (commands_of v.history) (all_commands w) (prefix_of_all (commands_of u.history) (all_commands w) rises here.delivered) (prefix_of_all (commands_of v.history) (all_commands w) rises there.delivered)) [
      | inl p ↦ inl (history_prefix (founding_state w.vocabulary) u.history v.history here.answered there.answered p)
      | inr p ↦ inr (history_prefix (founding_state w.vocabulary) v.history u.history there.answered here.answered p)
    ]

-- the members of a group have a first part of each row of their world
pub members_have_part : (group : Group) (vocabulary : Vocabulary) (members : List Member) (i : ℕ) → AreMembers group vocabulary members → i < length members → HasPartOfRows (world_of group vocabulary members) (member_at members i)
members_have_part group vocabulary members i are h = record {
  kept = are.kept i h;
  same_group = are.same_group i h;
  same_vocabulary = are.same_vocabulary i h;
  own = ap (λ ms. up_to submitted_at (last_stamp submitted_at (commands_of (member_at members i).history)) (submissions ms))
      (sym (ap (λ n. row (world_of group vocabulary members) n) (are.numbered i h) ∙ ap (λ j. (get_or (map node_of members) j nobody).sent) (let z : i + 1 - 1 ≡ i = omega arith in z) ∙ ap (λ (u : Node). u.sent) (node-of_member members i)));
  read = λ k n d.
      let low : 1 ≤ k = n.low in let high : k ≤ group.members = n.high in let count : length members ≡ group.members = are.count in
      let place : k - 1 < length members = omega arith in
      let number : (member_at members (k - 1)).number ≡ k = are.numbered (k - 1) place ∙ (let z : k - 1 + 1 ≡ k = omega arith in z) in
      let other : i ≡ k - 1 → ⊥ = λ e. d (sym number ∙ ap (λ j. (member_at members j).number) (sym e)) in
      subst (λ ms. HasReadOf (member_at members i) k ms) (sym (ap (λ (u : Node). u.sent) (node-of_member members (k - 1))))
      (subst (λ j. HasReadOf (member_at members i) j (member_at members (k - 1)).sent) number (are.read i (k - 1) h place other));
}

-- ---- Rows that grow

get_longer : (ms more : List Message) (i : ℕ) (m : Message) → slice_get ms i ≡ Some m → slice_get (ms ++ more) i ≡ Some m
get_longer [] more i m e = let no : ⊥ = cc in absurd no
get_longer (x ∷ ms) more zero m e = e
get_longer (x ∷ ms) more (suc i) m e = get_longer ms more i m e

sent_longer : (k : ℕ) (sent more : List Message) (moves : List Move) → WereSent k sent moves → WereSent k (sent ++ more) moves
sent_longer k sent more [] h = tt
sent_longer k sent more (submits caller serial commands ∷ moves) h = sent_longer k sent more moves h
sent_longer k sent more (receives from number m ∷ moves) h = ((λ e. get_longer sent more (number - 1) m (h.0 e)), sent_longer k sent more moves h.1)
sent_longer k sent more (takes_own number m ∷ moves) h = sent_longer k sent more moves h
sent_longer k sent more (delivers ∷ moves) h = sent_longer k sent more moves h

pub run_in_grown : (w later : World) (number : ℕ) (v : Member) (moves : List Move) → HasGrown w later → HasRunInRow w number v moves → HasRunInRow later number v moves
run_in_grown w later number v moves g r = record {
  is_number = subst (λ (group : Group). IsNumber group number) g.same_group r.is_number;
  made = subst (λ (group : Group). HasMade group later.vocabulary number v moves) g.same_group (subst (λ (vocabulary : Vocabulary). HasMade w.group vocabulary number v moves) g.same_vocabulary r.made);
  brought = λ k n d. let there : IsNumber w.group k = subst (λ (group : Group). IsNumber group k) (sym g.same_group) n in
      let p = g.rows k there in subst (λ ms. WereSent k ms moves) p.1 (sent_longer k (row w k) p.0 moves (r.brought k there d));
  own = let p = g.rows number r.is_number in (r.own.0 ++ p.0, sym (append_assoc v.sent r.own.0 p.0) ∙ ap (λ ms. ms ++ p.0) r.own.1 ∙ p.1);
}

-- a message that a process does not refuse which has all of its row keeps the rows lawful
pub lawful_with : (w : World) (k : ℕ) (m : Message) → IsLawfulWorld w → IsNumber w.group k → IsLawful k w.group (row w k ++ m ∷ []) → IsLawfulWorld (with_message w k m)
lawful_with w k m l n lawful = record {
  count = length-set w.nodes (k - 1) new ∙ l.count;
  numbered = λ i h. decide ((get_or (set w.nodes (k - 1) new) i nobody).number ≡ i + 1) i (k - 1)
      (λ e. ap (λ (u : Node). u.number) (at i (inside i h) e) ∙ ap (λ j. (get_or w.nodes j nobody).number) (sym e) ∙ l.numbered i (inside i h))
      (λ d. ap (λ (u : Node). u.number) (apart i d) ∙ l.numbered i (inside i h));
  lawful = λ i h. decide (IsLawful (get_or (set w.nodes (k - 1) new) i nobody).number w.group (get_or (set w.nodes (k - 1) new) i nobody).sent) i (k - 1)
      (λ e. subst (λ (u : Node). IsLawful u.number w.group u.sent) (sym (at i (inside i h) e)) (subst (λ j. IsLawful j w.group (row w k ++ m ∷ [])) (sym (number (subst (λ j. j < length w.nodes) e (inside i h)))) lawful))
      (λ d. subst (λ (u : Node). IsLawful u.number w.group u.sent) (sym (apart i d)) (l.lawful i (inside i h)));
}
  where
    new : Node
    new = record (node w k) { sent = row w k ++ m ∷ [] }

    inside : (i : ℕ) → i < length (set w.nodes (k - 1) new) → i < length w.nodes
    inside i h = let a : length (set w.nodes (k - 1) new) ≡ length w.nodes = length-set w.nodes (k - 1) new in omega arith

    at : (i : ℕ) → i < length w.nodes → i ≡ k - 1 → get_or (set w.nodes (k - 1) new) i nobody ≡ new
    at i h e = ap (λ j. get_or (set w.nodes (k - 1) new) j nobody) e ∙ get_or-set_same w.nodes (k - 1) new nobody (subst (λ j. j < length w.nodes) e h)

    apart : (i : ℕ) → (i ≡ k - 1 → ⊥) → get_or (set w.nodes (k - 1) new) i nobody ≡ get_or w.nodes i nobody
    apart i d = get_or-set_other w.nodes (k - 1) i new nobody d

    number : k - 1 < length w.nodes → (node w k).number ≡ k
    number h = let low : 1 ≤ k = n.low in l.numbered (k - 1) h ∙ (let z : k - 1 + 1 ≡ k = omega arith in z)

pub row_grows : (w : World) (number : ℕ) (v : Member) (moves : List Move) (n : ℕ) (m : Message) → IsGroup w.group → IsLawfulWorld w → HasRunInRow w number v moves → v.sent ≡ row w number → own_refusal v n m ≡ None
    → IsLawfulWorld (with_message w number m)
row_grows w number v moves n m is l r all free =
    let p = part_of_rows w number v moves is l r in
    let here : v.number ≡ number = ap (λ (u : Member). u.number) (sym r.made.is) ∙ number_run (founded w.group number w.vocabulary) moves in
    lawful_with w number m l r.is_number
    (subst (λ ms. IsLawful number w.group (ms ++ m ∷ [])) all
    (subst (λ (g : Group). IsLawful number g (v.sent ++ m ∷ [])) p.same_group
    (subst (λ j. IsLawful j v.group (v.sent ++ m ∷ [])) here (lawful_taken v m p.kept (own_next_is v n m free)))))

-- ---- A row is taken

abbrev with_row : Member → List Message → Member
with_row v ms = record v { clock = clock_over v.clock ms; sent = v.sent ++ ms; held = v.held ++ submissions ms }

pub taking_is : (v : Member) (ms : List Message) (n : ℕ) → run v (taking n ms) ≡ with_row v ms
taking_is v [] n =
    λ i. record { group = v.group; vocabulary = v.vocabulary; number = v.number; clock = v.clock; sent = sym (append-nil v.sent) i; read = v.read; latest = v.latest; held = sym (append-nil v.held) i; history = v.history; policy = v.policy }
taking_is v (m ∷ ms) n =
    taking_is (took_own v m) ms (n + 1)
    ∙ λ i. record {
      group = v.group;
      vocabulary = v.vocabulary;
      number = v.number;
      clock = clock_over (max v.clock (stamp_of m).clock) ms;
      sent = append_assoc v.sent (m ∷ []) ms i;
      read = v.read;
      latest = v.latest;
      held = append_assoc v.held (submissions_of m) (submissions ms) i;
      history = v.history;
      policy = v.policy;
    }

pub may_take : (v : Member) (ms : List Message) (n : ℕ) → n ≡ length v.sent → IsMember v → IsLawful v.number v.group (v.sent ++ ms) → AreMoves v (taking n ms)
may_take v [] n e k l = tt
may_take v (m ∷ ms) n e k l =
    let free : own_refusal v (n + 1) m ≡ None = ap (λ j. own_refusal v (j + 1) m) e ∙ never_refused v m ms k l in
    let longer : n + 1 ≡ length (v.sent ++ m ∷ []) = omega (arith, e, length-append v.sent (m ∷ [])) in
    (free, may_take (took_own v m) ms (n + 1) longer (keeps_taken v m k (own_next_is v (n + 1) m free)) (subst (IsLawful v.number v.group) (sym (append_assoc v.sent (m ∷ []) ms)) l))

pub seal_taken : (v : Member) (s : Stamp) → v.clock ≤ s.clock → sealed v s ≡ took_own v (Ack s)
seal_taken v s above =
    let clock : s.clock ≡ max v.clock s.clock = omega arith in
    λ i. record { group = v.group; vocabulary = v.vocabulary; number = v.number; clock = clock i; sent = v.sent ++ Ack s ∷ []; read = v.read; latest = v.latest; held = sym (append-nil v.held) i; history = v.history; policy = v.policy }

pub seal_may_be_taken : (v : Member) (s : Stamp) → IsMember v → MaySeal v s → own_refusal v (length v.sent + 1) (Ack s) ≡ None
seal_may_be_taken v s k may = never_refused v (Ack s) [] k (keeps_sealed v s k may).lawful
