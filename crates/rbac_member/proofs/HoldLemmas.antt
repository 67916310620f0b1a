-- What can be held, and where it is put.
use Rattle.std.proofs.Common.{ℕ, ◌≡◌, ◌≤◌, ◌+◌, ◌==◌, List, [], ◌∷◌, ◌++◌, sym, ap, refl, subst, ◌∙◌, arith, append-nil, append_assoc, Option, None}
use Rattle.std.specs.List.{AllByRecursion as Each, filter}
use Rattle.rbac_words.specs.Stamp.{IsBefore, IsAfter, IsRising, insert_by_stamp, insert_all}
use Rattle.rbac_words.specs.Message.{stamp_of, submitted_at, next_place, submissions_of, commands_of, next_serial}
use Rattle.rbac_words.specs.Front.{is_of}
use Rattle.rbac_words.specs.Keeping.Links.{Links}
use Rattle.rbac_words.specs.World.{stamp, clock_after, acknowledgement, acks}
use Rattle.rbac_words.specs.Keeping.Member.{Member, node_of, latest_of, known, batch, submitted, received, serial_refusal, IsCovered, IsMember, IsNext}
use Rattle.rbac_terms.specs.declared.command.Command.{Command}
use Rattle.rbac_words.specs.declared.event.Refusal.TheVariants.{BadSerial}
use Rattle.rbac_words.specs.declared.message.Message.{Message}
use Rattle.rbac_words.specs.declared.message.Message.TheVariants.{Batch, Ack}
use Rattle.rbac_words.specs.declared.message.Submission.{Submission}
use Rattle.rbac_words.specs.declared.stamp.Stamp.{Stamp}
use Rattle.sorted_keys.proofs.Lists.{Each-append, Each-right, Each-weaker, Each-both}
use Rattle.rbac_order.proofs.StampLemmas.{before_next, earlier, insert_above, Each-insert}
use Rattle.rbac_order.proofs.MessageLemmas.{Each-commands, own_rising}
use Rattle.rbac_order.proofs.StepLemmas.{unless_none}
use Rattle.rbac_holdback.specs.Holdback.{Holdback, CanAllBeHeld}
use Rattle.rbac_member.specs.Serials.{counted, AreCounted}
use Rattle.std.proofs.lemmas.Bool.{eqb-true}
use Rattle.rbac_member.proofs.SerialLemmas.{counted-held}

-- the command comes after each one of its own member
abbrev pub IsAboveOwn : Submission → Submission → Type 0
IsAboveOwn x y = y.stamp.member ≡ x.stamp.member → IsBefore y.stamp x.stamp

-- rising commands of members of the group, each above what is held of its own member, can be held one after the other
pub can_all : (h : Holdback) (xs : List Submission) → IsRising submitted_at xs → Each (λ (x : Submission). (1 ≤ x.stamp.member) × (x.stamp.member ≤ h.members)) xs → Each (λ x. Each (IsAboveOwn x) h.held) xs → CanAllBeHeld h xs
can_all h [] r m a = tt
can_all h (x ∷ xs) r m a = (
  record { low = m.0.0; high = m.0.1; above = a.0 },
  can_all (record h { held = insert_by_stamp submitted_at x h.held }) xs r.1 m.1
      (Each-weaker (λ z. Each (IsAboveOwn z) h.held × IsBefore x.stamp z.stamp) (λ z. Each (IsAboveOwn z) (insert_by_stamp submitted_at x h.held)) xs
      (λ z p. Each-insert submitted_at (IsAboveOwn z) x h.held (λ _. p.1) p.0) (Each-both (λ z. Each (IsAboveOwn z) h.held) (λ z. IsBefore x.stamp z.stamp) xs a.1 r.0)),
)

-- rising commands above all that is there are put last
pub put_last : (xs ys : List Submission) → IsRising submitted_at xs → Each (λ (x : Submission). Each (λ (y : Submission). IsBefore y.stamp x.stamp) ys) xs → insert_all submitted_at xs ys ≡ ys ++ xs
put_last [] ys r a = sym (append-nil ys)
put_last (x ∷ xs) ys r a =
    ap (insert_all submitted_at xs) (ap (insert_by_stamp submitted_at x) (sym (append-nil ys)) ∙ insert_above submitted_at x ys [] a.0)
    ∙ put_last xs (ys ++ x ∷ []) r.1
    (Each-weaker (λ (z : Submission). Each (λ (y : Submission). IsBefore y.stamp z.stamp) ys × IsBefore x.stamp z.stamp) (λ z. Each (λ (y : Submission). IsBefore y.stamp z.stamp) (ys ++ x ∷ [])) xs
    (λ z p. Each-append (λ (y : Submission). IsBefore y.stamp z.stamp) ys (x ∷ []) p.0 (p.1, tt)) (Each-both (λ (z : Submission). Each (λ (y : Submission). IsBefore y.stamp z.stamp) ys) (λ z. IsBefore x.stamp z.stamp) xs a.1 r.0))
    ∙ append_assoc ys (x ∷ []) xs

module _ (v : Member) (caller serial : ℕ) (commands : List Command) (k : IsMember v) where
  abbrev sending : Message
  sending = batch v caller serial commands

  -- the member's next commands lie above all that it holds
  batch_above : Each (λ (x : Submission). Each (λ (y : Submission). IsBefore y.stamp x.stamp) v.held) (submissions_of sending)
  batch_above =
      Each-weaker (λ (x : Submission). x.stamp.clock ≡ v.clock + 1) (λ x. Each (λ (y : Submission). IsBefore y.stamp x.stamp) v.held) (submissions_of sending)
      (λ x e. Each-weaker (λ (y : Submission). y.stamp.clock ≤ v.clock) (λ (y : Submission). IsBefore y.stamp x.stamp) v.held (λ y h. earlier y.stamp x.stamp (omega arith))
      (Each-right (λ (y : Submission). y.stamp.clock ≤ v.clock) (commands_of v.history) v.held k.clock_of_known))
      (Each-commands (λ t. t.clock ≡ v.clock + 1) (λ t e. e) sending refl)

  -- so they are held last
  held_last : insert_all submitted_at (submissions_of sending) v.held ≡ v.held ++ submissions_of sending
  held_last = put_last (submissions_of sending) v.held (own_rising sending) batch_above

  -- and can be held
  pub batch_fits : (h : Holdback) → h.members ≡ v.group.members → h.held ≡ v.held → CanAllBeHeld h (submissions_of sending)
  batch_fits h members held =
      can_all h (submissions_of sending) (own_rising sending)
      (Each-commands (λ t. (1 ≤ t.member) × (t.member ≤ h.members)) (λ t e. e) sending (k.low, (let a : v.number ≤ v.group.members = k.high in omega arith)))
      (subst (λ l. Each (λ x. Each (IsAboveOwn x) l) (submissions_of sending)) (sym held)
      (Each-weaker (λ (x : Submission). Each (λ (y : Submission). IsBefore y.stamp x.stamp) v.held) (λ x. Each (IsAboveOwn x) v.held) (submissions_of sending)
      (λ x a. Each-weaker (λ (y : Submission). IsBefore y.stamp x.stamp) (IsAboveOwn x) v.held (λ y b _. b) a) batch_above))

-- the commands of a sender's next message can be held
pub message_fits : (v : Member) (h : Holdback) (from : ℕ) (m : Message) → h.members ≡ v.group.members → h.held ≡ v.held → IsMember v → IsNext v from m → CanAllBeHeld h (submissions_of m)
message_fits v h from m members held k next =
    can_all h (submissions_of m) (own_rising m)
    (Each-commands (λ t. (1 ≤ t.member) × (t.member ≤ h.members)) (λ t e. e) m
    ((let a : 1 ≤ from = next.number.low in let b : (stamp_of m).member ≡ from = next.sender in omega arith), (let a : from ≤ v.group.members = next.number.high in let b : (stamp_of m).member ≡ from = next.sender in omega arith)))
    (subst (λ l. Each (λ x. Each (IsAboveOwn x) l) (submissions_of m)) (sym held) (Each-commands (λ t. Each (λ (y : Submission). y.stamp.member ≡ t.member → IsBefore y.stamp t) v.held)
    (λ t. Each-weaker (λ (y : Submission). y.stamp.member ≡ t.member → IsBefore y.stamp t) (λ (y : Submission). y.stamp.member ≡ t.member → IsBefore y.stamp (next_place t)) v.held (λ y b e. before_next y.stamp t (b e))) m below))
  where
    below : Each (λ (y : Submission). y.stamp.member ≡ (stamp_of m).member → IsBefore y.stamp (stamp_of m)) v.held
    below =
        Each-weaker (λ (y : Submission). (y.stamp.member ≡ v.number → ⊥) → IsCovered (latest_of v y.stamp.member) y.stamp.member y.stamp) (λ y. y.stamp.member ≡ (stamp_of m).member → IsBefore y.stamp (stamp_of m)) v.held
        (λ y c e. c (λ f. next.other (sym next.sender ∙ sym e ∙ f)) (stamp_of m) (sym e) next.first (subst (λ j. IsAfter (latest_of v j) (stamp_of m)) (sym (e ∙ next.sender)) next.after))
        (Each-right (λ (y : Submission). (y.stamp.member ≡ v.number → ⊥) → IsCovered (latest_of v y.stamp.member) y.stamp.member y.stamp) (commands_of v.history) v.held k.covered)

-- ---- What a submit and a receipt leave

-- a message with the next stamp was sent and is held
pub submitted_is : (v : Member) (caller serial : ℕ) (commands : List Command) (s : Stamp) (sent : List Message) (held : List Submission) → s ≡ stamp (v.clock + 1) v.number
    → sent ≡ v.sent ++ Batch s caller serial commands ∷ [] → held ≡ insert_all submitted_at (submissions_of (Batch s caller serial commands)) v.held → IsMember v
    → (let m : Member = record v { clock = s.clock; sent = sent; held = held } in m) ≡ submitted v caller serial commands
submitted_is v caller serial commands s sent held e f g k =
    let by_sent : sent ≡ v.sent ++ Batch (stamp (v.clock + 1) v.number) caller serial commands ∷ [] = f ∙ ap (λ (t : Stamp). v.sent ++ Batch t caller serial commands ∷ []) e in
    let by_held : held ≡ v.held ++ submissions_of (batch v caller serial commands) = g ∙ ap (λ (t : Stamp). insert_all submitted_at (submissions_of (Batch t caller serial commands)) v.held) e ∙ held_last v caller serial commands k in
    λ i. record { group = v.group; vocabulary = v.vocabulary; number = v.number; clock = (e i).clock; sent = by_sent i; read = v.read; latest = v.latest; held = by_held i; history = v.history; policy = v.policy }

-- a message was taken, its commands are held, and it is acknowledged
pub received_is : (v : Member) (from : ℕ) (m : Message) (clock : ℕ) (ack : Option Stamp) (sent : List Message) (links : Links) (held : List Submission) → clock ≡ clock_after (node_of v) m
    → ack ≡ acknowledgement (node_of v) m → sent ≡ v.sent ++ acks ack → links.read ≡ (received v from m).read → links.latest ≡ (received v from m).latest
    → held ≡ insert_all submitted_at (submissions_of m) v.held
    → (let n : Member = record v { clock = clock; sent = sent; read = links.read; latest = links.latest; held = held } in n) ≡ received v from m
received_is v from m clock ack sent links held e f g h j l =
    let by_sent : sent ≡ v.sent ++ acks (acknowledgement (node_of v) m) = g ∙ ap (λ (o : Option Stamp). v.sent ++ acks o) f in
    λ i. record { group = v.group; vocabulary = v.vocabulary; number = v.number; clock = e i; sent = by_sent i; read = h i; latest = j i; held = l i; history = v.history; policy = v.policy }

-- what a message brings is counted
pub counted_received : (entries : List ((ℕ × ℕ) × ℕ)) (v : Member) (m : Message) → AreCounted entries (known v) → serial_refusal v m ≡ None
    → AreCounted (counted m entries) (commands_of v.history ++ insert_all submitted_at (submissions_of m) v.held)
counted_received entries v (Ack s) k free = k
counted_received entries v (Batch s caller serial commands) k free =
    let next = unless_none (serial == next_serial caller (filter (is_of s.member) (known v))) (BadSerial (next_serial caller (filter (is_of s.member) (known v)))) None free in
    counted-held entries (commands_of v.history) v.held s caller serial commands k (eqb-true serial (next_serial caller (filter (is_of s.member) (known v))) next.0)
