-- Where the commands of a message of its own row are held, and what the member then is.
use Rattle.std.proofs.Common.{ℕ, false, max, nat_lt, ◌≡◌, ◌≤◌, List, [], ◌∷◌, ◌++◌, sym, subst, ◌∙◌, arith, None}
use Rattle.std.specs.List.{AllByRecursion as Each}
use Rattle.std.proofs.lemmas.Bool.Decides.{nat_tests}
use Rattle.rbac_words.specs.Limits.{last_clock}
use Rattle.rbac_words.specs.Stamp.{IsBefore, insert_all}
use Rattle.rbac_words.specs.Message.{stamp_of, submitted_at, next_place, submissions_of, commands_of}
use Rattle.rbac_words.specs.World.{clock_after}
use Rattle.rbac_words.specs.Keeping.Member.{Member, IsMember, node_of, message_refusal}
use Rattle.rbac_words.specs.declared.event.Refusal.TheVariants.{ClockFull}
use Rattle.rbac_words.specs.declared.message.Message.{Message}
use Rattle.rbac_words.specs.declared.message.Submission.{Submission}
use Rattle.sorted_keys.proofs.Lists.{Each-right, Each-weaker}
use Rattle.rbac_order.proofs.StampLemmas.{before_next}
use Rattle.rbac_order.proofs.MessageLemmas.{Each-commands, own_rising}
use Rattle.rbac_order.proofs.StepLemmas.{if_none}
use Rattle.rbac_words.specs.Keeping.Own.{took_own}
use Rattle.rbac_order.proofs.OwnLemmas.{IsOwnNext, known_before}
use Rattle.rbac_holdback.specs.Holdback.{Holdback, CanAllBeHeld}
use Rattle.rbac_order.proofs.ReceiptLemmas.{room_is_free}
use Rattle.rbac_member.proofs.HoldLemmas.{IsAboveOwn, can_all, put_last}

module _ (v : Member) (m : Message) (k : IsMember v) (next : IsOwnNext v m) where
  -- its commands lie above all that the member holds
  own_above : Each (λ (x : Submission). Each (λ (y : Submission). IsBefore y.stamp x.stamp) v.held) (submissions_of m)
  own_above =
      Each-commands (λ t. Each (λ (y : Submission). IsBefore y.stamp t) v.held)
      (λ t. Each-weaker (λ (y : Submission). IsBefore y.stamp t) (λ (y : Submission). IsBefore y.stamp (next_place t)) v.held (λ y b. before_next y.stamp t b)) m
      (Each-right (λ (y : Submission). IsBefore y.stamp (stamp_of m)) (commands_of v.history) v.held (known_before v m k next))

  -- so they are held last
  pub own_last : insert_all submitted_at (submissions_of m) v.held ≡ v.held ++ submissions_of m
  own_last = put_last (submissions_of m) v.held (own_rising m) own_above

  -- and can be held
  pub own_fits : (h : Holdback) → h.members ≡ v.group.members → h.held ≡ v.held → CanAllBeHeld h (submissions_of m)
  own_fits h members held =
      can_all h (submissions_of m) (own_rising m)
      (Each-commands (λ t. (1 ≤ t.member) × (t.member ≤ h.members)) (λ t e. e) m
      ((let a : 1 ≤ v.number = k.low in let b : (stamp_of m).member ≡ v.number = next.sender in omega arith), (let a : v.number ≤ v.group.members = k.high in let b : (stamp_of m).member ≡ v.number = next.sender in omega arith)))
      (subst (λ l. Each (λ x. Each (IsAboveOwn x) l) (submissions_of m)) (sym held)
      (Each-weaker (λ (x : Submission). Each (λ (y : Submission). IsBefore y.stamp x.stamp) v.held) (λ x. Each (IsAboveOwn x) v.held) (submissions_of m)
      (λ x a. Each-weaker (λ (y : Submission). IsBefore y.stamp x.stamp) (IsAboveOwn x) v.held (λ y b _. b) a) own_above))

  -- it was sent and is held
  pub took_is : (clock : ℕ) (sent : List Message) (held : List Submission) → clock ≡ max v.clock (stamp_of m).clock → sent ≡ v.sent ++ m ∷ [] → held ≡ insert_all submitted_at (submissions_of m) v.held
      → (let n : Member = record v { clock = clock; sent = sent; held = held } in n) ≡ took_own v m
  took_is clock sent held e f g =
      let by_held : held ≡ v.held ++ submissions_of m = g ∙ own_last in
      λ i. record { group = v.group; vocabulary = v.vocabulary; number = v.number; clock = e i; sent = f i; read = v.read; latest = v.latest; held = by_held i; history = v.history; policy = v.policy }

-- a message that is not refused has found room for the clock after it
pub clock_has_room : (v : Member) (from n : ℕ) (m : Message) → message_refusal v from n m ≡ None → clock_after (node_of v) m ≤ last_clock
clock_has_room v from n m free = below last_clock (clock_after (node_of v) m) (if_none (nat_lt last_clock (clock_after (node_of v) m)) ClockFull _ (room_is_free v from n m free)).0
  where
    below : (a b : ℕ) → nat_lt a b ≡ false → b ≤ a
    below a b e = grind (arith, nat_tests)
