-- What a member told on the way is a first part of the history at the end.
use Rattle.std.proofs.Common.{ℕ, Bool, true, false, not, nat_le, ◌≡◌, ◌≤◌, ◌<◌, ◌+◌, ◌-◌, ◌||◌, List, [], ◌∷◌, ◌++◌, length, map, get_or, refl, sym, ap, subst, ◌∙◌, arith, true≢false, append_assoc, append-nil, Option, Some, None}
use Rattle.std.specs.List.{AllByRecursion as Each, filter}
use Rattle.std.proofs.lemmas.Bool.Decides.{nat_tests}
use Rattle.std.proofs.lemmas.List.Elements.{filter-append}
use Rattle.rbac_terms.specs.State.{founding_state}
use Rattle.rbac_terms.specs.Replay.{replies}
use Rattle.rbac_words.specs.Group.{Group}
use Rattle.rbac_words.specs.Stamp.{IsBefore, is_before, last_stamp, up_to}
use Rattle.rbac_words.specs.Message.{stamp_of, submitted_at, submissions, commands_of, has_later, IsLawful}
use Rattle.rbac_words.specs.Front.{is_of, command_of, IsLegalFront}
use Rattle.rbac_words.specs.World.{World, nobody}
use Rattle.rbac_words.specs.Right.{all_commands, IsRight}
use Rattle.rbac_words.specs.Play.{IsPrefixOf}
use Rattle.rbac_words.specs.Keeping.Member.{Member, IsMember, IsNumber, node_of, known, due_at}
use Rattle.rbac_words.specs.Keeping.Members.{HasReadOf, IsLawfulWorld}
use Rattle.rbac_words.specs.declared.message.Message.{Message}
use Rattle.rbac_words.specs.declared.message.Submission.{Submission}
use Rattle.rbac_words.specs.declared.record.Record.{Record}
use Rattle.rbac_words.specs.declared.stamp.Stamp.{Stamp}
use Rattle.sorted_keys.proofs.Lists.{Each-append, Each-left, Each-right, Each-weaker, Each-both, Each-from_filter, filter-none}
use Rattle.rbac_order.proofs.StampLemmas.{earlier, true_before, message_later, before_trans, before_true, before_next, Rising-left, Rising-across, Each-swap}
use Rattle.rbac_order.proofs.MessageLemmas.{submissions-append, Each-submissions, Rising-submissions}
use Rattle.rbac_order.proofs.SenderLemmas.{of, Rising, decide, is_of-yes}
use Rattle.rbac_order.proofs.HistoryLemmas.{HasFirst, first_own, first_other, up_to_last, history_of_own, front_right, Rising-all}
use Rattle.rbac_moves.specs.Seal.{row, AreOthersSealed, HasOwnToLast, HasPartOfRows, HasReadRows, has_clock, IsGated}
use Rattle.rbac_order.proofs.EndLemmas.{prefix_of_all, history_prefix}
use Rattle.rbac_moves.proofs.SealLemmas.{all_delivered}

module _ (w : World) (l : IsLawfulWorld w) where
  pub lawful_row : (k : ℕ) → IsNumber w.group k → IsLawful k w.group (row w k)
  lawful_row k n =
      let a : length w.nodes ≡ w.group.members = l.count in let b : 1 ≤ k = n.low in let d : k ≤ w.group.members = n.high in
      let place : k - 1 < length w.nodes = omega arith in
      subst (λ j. IsLawful j w.group (row w k)) (l.numbered (k - 1) place ∙ (let z : k - 1 + 1 ≡ k = omega arith in z)) (l.lawful (k - 1) place)

  own_number : (u : Member) → IsMember u → u.group ≡ w.group → IsNumber w.group u.number
  own_number u kept same = subst (λ (g : Group). IsNumber g u.number) same (record { low = kept.low; high = kept.high })

-- ---- A member whose own row goes on where what it sent ends

module _ (w : World) (l : IsLawfulWorld w) (u : Member) (kept : IsMember u) (same : u.group ≡ w.group) (goes_on : IsPrefixOf u.sent (row w u.number)) where
  abbrev history : List Submission
  history = commands_of u.history

  abbrev more : List Message
  more = goes_on.0

  abbrev later : List Submission
  later = submissions more

  own_row : row w u.number ≡ u.sent ++ more
  own_row = sym goes_on.1

  rising : Rising history
  rising = Rising-left submitted_at history u.held kept.rising

  -- ---- All that it knew lies below what was sent later

  lawful_now : IsLawful u.number w.group (u.sent ++ more)
  lawful_now = subst (IsLawful u.number w.group) own_row (lawful_row w l u.number (own_number w l u kept same))

  abbrev IsBelow : Submission → Type 0
  IsBelow x = Each (λ y. IsBefore (submitted_at x) (submitted_at y)) later

  commands_across : Each IsBelow (submissions u.sent)
  commands_across =
      Rising-across submitted_at (submissions u.sent) later
      (subst Rising (submissions-append u.sent more) (Rising-submissions u.number (u.sent ++ more) lawful_now.own lawful_now.first lawful_now.rising))

  own_below : Each (λ x. is_of u.number x ≡ true → IsBelow x) (known u)
  own_below = Each-from_filter IsBelow (is_of u.number) (known u) (subst (Each IsBelow) (sym kept.own) commands_across)

  messages_below : (s : Stamp) (ms : List Message) → Each (λ m. Each (λ n. IsBefore (stamp_of m) (stamp_of n)) more) ms → has_later ms s ≡ true → Each (λ n. IsBefore s (stamp_of n)) more
  messages_below s [] a t = absurd (true≢false (sym t))
  messages_below s (m ∷ ms) a t = go (is_before s (stamp_of m)) refl t (messages_below s ms a.1)
    where
      go : (b : Bool) → is_before s (stamp_of m) ≡ b → (b || has_later ms s) ≡ true → (has_later ms s ≡ true → Each (λ n. IsBefore s (stamp_of n)) more) → Each (λ n. IsBefore s (stamp_of n)) more
      go true f t on = Each-weaker (λ n. IsBefore (stamp_of m) (stamp_of n)) (λ n. IsBefore s (stamp_of n)) more (λ n b. before_trans s (stamp_of m) (stamp_of n) (before_true s (stamp_of m) f) b) a.0
      go false f t on = on t

  later_below : (s : Stamp) → has_later u.sent s ≡ true → Each (λ y. IsBefore s (submitted_at y)) later
  later_below s t = Each-submissions (λ z. IsBefore s z) (λ z. before_next s z) more (messages_below s u.sent (Rising-across stamp_of u.sent more lawful_now.rising) t)

  all_below : Each IsBelow (known u)
  all_below =
      Each-weaker (λ x. (is_of u.number x ≡ true → IsBelow x) × ((x.stamp.member ≡ u.number → ⊥) → has_later u.sent x.stamp ≡ true)) IsBelow (known u)
      (λ x p. decide (IsBelow x) x.stamp.member u.number (λ s. p.0 (is_of-yes u.number x s)) (λ d. later_below x.stamp (p.1 d)))
      (Each-both (λ x. is_of u.number x ≡ true → IsBelow x) (λ x. (x.stamp.member ≡ u.number → ⊥) → has_later u.sent x.stamp ≡ true) (known u) own_below kept.acknowledged)

  first_here : HasFirst history u.number (submissions (row w u.number))
  first_here = let f = first_own u kept in record {
    later = f.later ++ later;
    is = ap submissions own_row ∙ submissions-append u.sent more ∙ ap (λ zs. zs ++ later) f.is ∙ append_assoc (of u.number history) f.later later;
    above = Each-append (λ y. Each (λ x. IsBefore x.stamp y.stamp) history) f.later later f.above (Each-swap submitted_at history later (Each-left IsBelow history u.held all_below));
  }

  pub own_goes_on : HasOwnToLast w u
  own_goes_on = sym (history_of_own u kept) ∙ up_to_last history u.number (submissions (row w u.number)) rising first_here

-- ---- A member that delivered nothing of a greater clock than what was set of its sent list

module _ (w : World) (l : IsLawfulWorld w) (u : Member) (kept : IsMember u) (same : u.group ≡ w.group) (g : IsGated w u) where
  abbrev last_of : Option Stamp
  last_of = last_stamp submitted_at (commands_of u.history)

  past : (c : ℕ) (rest ms : List Message) → Each (λ m. Each (λ n. (stamp_of m).clock < (stamp_of n).clock) rest) ms → has_clock ms c ≡ true → Each (λ n. c < (stamp_of n).clock) rest
  past c rest [] a e = absurd (true≢false (sym e))
  past c rest (m ∷ ms) a e = go (nat_le c (stamp_of m).clock) refl e (past c rest ms a.1)
    where
      go : (b : Bool) → nat_le c (stamp_of m).clock ≡ b → (b || has_clock ms c) ≡ true → (has_clock ms c ≡ true → Each (λ n. c < (stamp_of n).clock) rest) → Each (λ n. c < (stamp_of n).clock) rest
      go true f t on = let low : c ≤ (stamp_of m).clock = grind (arith, nat_tests) in Each-weaker (λ n. (stamp_of m).clock < (stamp_of n).clock) (λ n. c < (stamp_of n).clock) rest (λ n h. omega arith) a.0
      go false f t on = on t

  -- the clocks of what follows in a lawful list are greater
  clocks_across : (group : Group) (ms rest : List Message) → IsLawful u.number group (ms ++ rest) → Each (λ m. Each (λ n. (stamp_of m).clock < (stamp_of n).clock) rest) ms
  clocks_across group ms rest y =
      Each-weaker (λ m. Each (λ n. IsBefore (stamp_of m) (stamp_of n)) rest × ((stamp_of m).member ≡ u.number)) (λ m. Each (λ n. (stamp_of m).clock < (stamp_of n).clock) rest) ms
      (λ m h. Each-weaker (λ n. (IsBefore (stamp_of m) (stamp_of n) × ((stamp_of n).member ≡ u.number)) × ((stamp_of n).place ≡ 0)) (λ n. (stamp_of m).clock < (stamp_of n).clock) rest
      (λ n q. message_later (stamp_of m) (stamp_of n) (q.0.1 ∙ sym h.1) q.1 q.0.0)
      (Each-both (λ n. IsBefore (stamp_of m) (stamp_of n) × ((stamp_of n).member ≡ u.number)) (λ n. (stamp_of n).place ≡ 0) rest
      (Each-both (λ n. IsBefore (stamp_of m) (stamp_of n)) (λ n. (stamp_of n).member ≡ u.number) rest h.0 (Each-right (λ n. (stamp_of n).member ≡ u.number) ms rest y.own))
      (Each-right (λ n. (stamp_of n).place ≡ 0) ms rest y.first)))
      (Each-both (λ m. Each (λ n. IsBefore (stamp_of m) (stamp_of n)) rest) (λ m. (stamp_of m).member ≡ u.number) ms (Rising-across stamp_of ms rest y.rising) (Each-left (λ n. (stamp_of n).member ≡ u.number) ms rest y.own))

  -- so of a lawful list that begins with what was set, nothing behind it goes up to the last delivery
  up_to_set : (group : Group) (rest : List Message) → IsLawful u.number group (g.was_set ++ rest) → up_to submitted_at last_of (submissions (g.was_set ++ rest)) ≡ up_to submitted_at last_of (submissions g.was_set)
  up_to_set group rest y = go last_of refl
    where
      go : (o : Option Stamp) → last_of ≡ o → up_to submitted_at o (submissions (g.was_set ++ rest)) ≡ up_to submitted_at o (submissions g.was_set)
      go None e = refl
      go (Some t) e =
          let p : Submission → Bool = λ (x : Submission). not (is_before t x.stamp) in
          ap (filter p) (submissions-append g.was_set rest) ∙ filter-append p (submissions g.was_set) (submissions rest)
          ∙ ap (λ xs. filter p (submissions g.was_set) ++ xs)
          (filter-none p (submissions rest) (Each-weaker (λ y. t.clock < y.stamp.clock) (λ y. p y ≡ false) (submissions rest) (λ y h. ap not (true_before t y.stamp (earlier t y.stamp h)))
          (Each-submissions (λ z. t.clock < z.clock) (λ z h. h) rest (past t.clock rest g.was_set (clocks_across group g.was_set rest y) (g.gate t e)))))
          ∙ append-nil (filter p (submissions g.was_set))

  pub own_gated : HasOwnToLast w u
  own_gated =
      ap (λ ms. up_to submitted_at last_of (submissions ms)) g.sent
      ∙ up_to_set u.group g.may_be_lost (subst (IsLawful u.number u.group) g.sent kept.lawful)
      ∙ sym (up_to_set w.group g.own.0 (subst (IsLawful u.number w.group) (sym g.own.1) (lawful_row w l u.number (own_number w l u kept same))))
      ∙ ap (λ ms. up_to submitted_at last_of (submissions ms)) g.own.1

-- ---- It is right

module _ (w : World) (l : IsLawfulWorld w) (u : Member) (r : HasPartOfRows w u) where
  abbrev told : List Submission
  told = commands_of u.history

  of_each : (k : ℕ) → IsNumber w.group k → of k told ≡ up_to submitted_at (last_stamp submitted_at told) (submissions (row w k))
  of_each k n =
      decide (of k told ≡ up_to submitted_at (last_stamp submitted_at told) (submissions (row w k))) k u.number
      (λ e. subst (λ j. of j told ≡ up_to submitted_at (last_stamp submitted_at told) (submissions (row w j))) (sym e) (history_of_own u r.kept ∙ r.own))
      (λ d. let h : HasReadOf u k (row w k) = r.read k n d in
      up_to_last told k (submissions (row w k)) (Rising-left submitted_at told u.held r.kept.rising)
      (subst (λ ms. HasFirst told k (submissions ms)) (sym h.sent)
      (first_other u k w.group h.taken h.unread r.kept (subst (λ (g : Group). IsNumber g k) (sym r.same_group) n) d h.has_taken (subst (IsLawful k w.group) h.sent (lawful_row w l k n)))))

  pub part_right : IsRight w (node_of u)
  part_right =
      front_right w (node_of u) l
      (subst (λ v. IsLegalFront (founding_state v) u.history) r.same_vocabulary r.kept.front)
      (Each-left (λ (x : Submission). IsNumber w.group x.stamp.member) told u.held (subst (λ (g : Group). Each (λ (x : Submission). IsNumber g x.stamp.member) (known u)) r.same_group r.kept.others))
      (λ j hj. of_each (j + 1) (let a : length w.nodes ≡ w.group.members = l.count in record { low = omega arith; high = omega arith })
      ∙ ap (λ i. up_to submitted_at (last_stamp submitted_at told) (submissions (get_or w.nodes i nobody).sent)) (let z : j + 1 - 1 ≡ j = omega arith in z))

  pub part_of_end : (v : Member) → HasReadRows w v → AreOthersSealed w v.number → due_at v ≡ None → IsPrefixOf u.history v.history
  part_of_end v end ends nothing =
      let here = part_right in
      let all : commands_of v.history ≡ all_commands w = all_delivered w l v end ends nothing in
      history_prefix (founding_state w.vocabulary) u.history v.history here.answered
      (subst (λ y. map (λ (q : Record). q.answer) v.history ≡ replies (founding_state y) (map command_of (commands_of v.history))) end.same_vocabulary end.kept.front.answered)
      (subst (IsPrefixOf told) (sym all) (prefix_of_all told (all_commands w) (Rising-all w l) here.delivered))
