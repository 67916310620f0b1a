-- What a member once was stays right: of its history, among the members of now.
use Rattle.std.proofs.Common.{ℕ, Bool, true, false, ◌≡◌, ◌<◌, ◌+◌, ◌||◌, ◌⊎◌, inl, inr, List, [], ◌∷◌, ◌++◌, length, refl, sym, ap, subst, ◌∙◌, arith, true≢false, append-nil, append_assoc}
use Rattle.std.specs.List.{AllByRecursion as Each}
use Rattle.std.proofs.lemmas.List.{length-map}
use Rattle.rbac_terms.specs.Vocabulary.{Vocabulary}
use Rattle.rbac_terms.specs.State.{founding_state}
use Rattle.rbac_words.specs.Group.{Group, IsGroup}
use Rattle.rbac_words.specs.Stamp.{IsBefore, is_before, last_stamp, up_to}
use Rattle.rbac_words.specs.Message.{stamp_of, submitted_at, submissions, commands_of, has_later, IsLawful}
use Rattle.rbac_words.specs.Front.{is_of, IsLegalFront}
use Rattle.rbac_words.specs.World.{World, Node}
use Rattle.rbac_words.specs.Right.{all_commands, IsRight}
use Rattle.rbac_words.specs.Play.{IsPrefixOf}
use Rattle.rbac_words.specs.Keeping.Member.{Member, IsMember, IsNumber, founded, node_of, known}
use Rattle.rbac_words.specs.Keeping.Members.{AreMembers, HasReadOf, HasRead, member_at, world_of}
use Rattle.rbac_words.specs.declared.message.Message.{Message}
use Rattle.rbac_words.specs.declared.message.Submission.{Submission}
use Rattle.rbac_words.specs.declared.stamp.Stamp.{Stamp}
use Rattle.sorted_keys.proofs.Lists.{Each-append, Each-left, Each-weaker, Each-both, Each-from_filter}
use Rattle.rbac_order.proofs.StampLemmas.{before_trans, before_true, before_next, Rising-left, Rising-across, Each-swap}
use Rattle.rbac_order.proofs.MessageLemmas.{submissions-append, Each-submissions, Rising-submissions}
use Rattle.rbac_order.proofs.SenderLemmas.{of, Rising, decide, is_of-yes}
use Rattle.rbac_order.proofs.HistoryLemmas.{HasFirst, first_own, up_to_last, history_of_another, front_right, Rising-all}
use Rattle.rbac_order.proofs.GroupLemmas.{node-of_member, lawful_world, right_at}
use Rattle.rbac_order.proofs.EndLemmas.{prefix_of_all, prefixes_of_one, history_prefix}
use Rattle.rbac_moves.specs.Moves.{Move, HasMade, WereSent, AreRun, SentNothingSince, IsEarlier}
use Rattle.rbac_moves.proofs.MoveLemmas.{keeps_made, reads_made, number_run, group_run, vocabulary_run, place_number, number_here, are_members}

-- ---- What a member once was

module _ (group : Group) (vocabulary : Vocabulary) (members : List Member) (moves : ℕ → List Move) (is : IsGroup group) (are : AreRun group vocabulary members moves)
    (i : ℕ) (h : i < length members) (before : Member) (e : IsEarlier group vocabulary members i before) where
  abbrev at : ℕ → Member
  at j = member_at members j

  abbrev w : World
  w = world_of group vocabulary members

  abbrev history : List Submission
  history = commands_of before.history

  abbrev later : List Submission
  later = submissions e.more

  all : AreMembers group vocabulary members
  all = are_members group vocabulary members moves is are

  kept : IsMember before
  kept = subst IsMember e.made.is (keeps_made group vocabulary (i + 1) e.moves is (place_number group vocabulary members moves is are i h) e.made.allowed)

  number_before : before.number ≡ i + 1
  number_before = ap (λ (v : Member). v.number) (sym e.made.is) ∙ number_run (founded group (i + 1) vocabulary) e.moves

  group_before : before.group ≡ group
  group_before = ap (λ (v : Member). v.group) (sym e.made.is) ∙ group_run (founded group (i + 1) vocabulary) e.moves

  vocabulary_before : before.vocabulary ≡ vocabulary
  vocabulary_before = ap (λ (v : Member). v.vocabulary) (sym e.made.is) ∙ vocabulary_run (founded group (i + 1) vocabulary) e.moves

  number_at : (j : ℕ) → j < length members → (at j).number ≡ j + 1
  number_at = number_here group vocabulary members moves is are

  reads : (j : ℕ) → j < length members → (j ≡ i → ⊥) → HasRead before (at j)
  reads j hj d =
      subst (λ n. HasReadOf before n (at j).sent) (sym (number_at j hj))
      (subst (λ v. HasReadOf v (j + 1) (at j).sent) e.made.is
      (reads_made group vocabulary (i + 1) (j + 1) (at j).sent e.moves is (place_number group vocabulary members moves is are i h) (omega arith) (λ f. d (omega arith)) e.made.allowed (e.brought j hj (λ f. d (sym f)))))

  -- ---- All that it knew lies below what was sent later

  lawful_now : IsLawful (at i).number (at i).group (before.sent ++ e.more)
  lawful_now = subst (IsLawful (at i).number (at i).group) e.sent (all.kept i h).lawful

  abbrev IsBelow : Submission → Type 0
  IsBelow x = Each (λ y. IsBefore (submitted_at x) (submitted_at y)) later

  commands_across : Each IsBelow (submissions before.sent)
  commands_across =
      Rising-across submitted_at (submissions before.sent) later
      (subst Rising (submissions-append before.sent e.more) (Rising-submissions (at i).number (before.sent ++ e.more) lawful_now.own lawful_now.first lawful_now.rising))

  own_below : Each (λ x. is_of before.number x ≡ true → IsBelow x) (known before)
  own_below = Each-from_filter IsBelow (is_of before.number) (known before) (subst (Each IsBelow) (sym kept.own) commands_across)

  messages_across : Each (λ m. Each (λ n. IsBefore (stamp_of m) (stamp_of n)) e.more) before.sent
  messages_across = Rising-across stamp_of before.sent e.more lawful_now.rising

  messages_below : (s : Stamp) (ms : List Message) → Each (λ m. Each (λ n. IsBefore (stamp_of m) (stamp_of n)) e.more) ms → has_later ms s ≡ true → Each (λ n. IsBefore s (stamp_of n)) e.more
  messages_below s [] a t = absurd (true≢false (sym t))
  messages_below s (m ∷ ms) a t = go (is_before s (stamp_of m)) refl t (messages_below s ms a.1)
    where
      go : (b : Bool) → is_before s (stamp_of m) ≡ b → (b || has_later ms s) ≡ true → (has_later ms s ≡ true → Each (λ n. IsBefore s (stamp_of n)) e.more) → Each (λ n. IsBefore s (stamp_of n)) e.more
      go true f t on = Each-weaker (λ n. IsBefore (stamp_of m) (stamp_of n)) (λ n. IsBefore s (stamp_of n)) e.more (λ n b. before_trans s (stamp_of m) (stamp_of n) (before_true s (stamp_of m) f) b) a.0
      go false f t on = on t

  later_below : (s : Stamp) → has_later before.sent s ≡ true → Each (λ y. IsBefore s (submitted_at y)) later
  later_below s t = Each-submissions (λ u. IsBefore s u) (λ u. before_next s u) e.more (messages_below s before.sent messages_across t)

  all_below : Each IsBelow (known before)
  all_below =
      Each-weaker (λ x. (is_of before.number x ≡ true → IsBelow x) × ((x.stamp.member ≡ before.number → ⊥) → has_later before.sent x.stamp ≡ true)) IsBelow (known before)
      (λ x p. decide (IsBelow x) x.stamp.member before.number (λ s. p.0 (is_of-yes before.number x s)) (λ d. later_below x.stamp (p.1 d)))
      (Each-both (λ x. is_of before.number x ≡ true → IsBelow x) (λ x. (x.stamp.member ≡ before.number → ⊥) → has_later before.sent x.stamp ≡ true) (known before) own_below kept.acknowledged)

  first_here : HasFirst history before.number (submissions (at i).sent)
  first_here = let f = first_own before kept in record {
    later = f.later ++ later;
    is = ap submissions e.sent ∙ submissions-append before.sent e.more ∙ ap (λ l. l ++ later) f.is ∙ append_assoc (of before.number history) f.later later;
    above = Each-append (λ y. Each (λ x. IsBefore x.stamp y.stamp) history) f.later later f.above (Each-swap submitted_at history later (Each-left IsBelow history before.held all_below));
  }

  -- ---- It is right

  rising : Rising history
  rising = Rising-left submitted_at history before.held kept.rising

  number_group : (j : ℕ) → j < length members → IsNumber before.group (at j).number
  number_group j hj = subst (λ n. IsNumber before.group n) (sym (number_at j hj)) (subst (λ g. IsNumber g (j + 1)) (sym group_before) (place_number group vocabulary members moves is are j hj))

  of_each : (j : ℕ) → j < length members → of (j + 1) history ≡ up_to submitted_at (last_stamp submitted_at history) (submissions (at j).sent)
  of_each j hj = decide _ j i here there
    where
      here : j ≡ i → of (j + 1) history ≡ up_to submitted_at (last_stamp submitted_at history) (submissions (at j).sent)
      here f =
          ap (λ n. of (n + 1) history) f ∙ ap (λ n. of n history) (sym number_before) ∙ up_to_last history before.number (submissions (at i).sent) rising first_here
          ∙ ap (λ n. up_to submitted_at (last_stamp submitted_at history) (submissions (at n).sent)) (sym f)

      there : (j ≡ i → ⊥) → of (j + 1) history ≡ up_to submitted_at (last_stamp submitted_at history) (submissions (at j).sent)
      there d =
          ap (λ n. of n history) (sym (number_at j hj))
          ∙ history_of_another before (at j) kept (all.kept j hj).lawful (number_group j hj) (λ f. let a : (at j).number ≡ j + 1 = number_at j hj in let b : before.number ≡ i + 1 = number_before in d (omega arith)) (reads j hj d)

  inside : (j : ℕ) → j < length w.nodes → j < length members
  inside j hj = let a : length w.nodes ≡ length members = length-map members node_of in omega arith

  pub right_before : IsRight w (node_of before)
  right_before =
      front_right w (node_of before) (lawful_world group vocabulary members all)
      (subst (λ v. IsLegalFront (founding_state v) before.history) vocabulary_before kept.front)
      (Each-left (λ (x : Submission). IsNumber group x.stamp.member) history before.held (subst (λ g. Each (λ (x : Submission). IsNumber g x.stamp.member) (known before)) group_before kept.others))
      (λ j hj. of_each j (inside j hj) ∙ ap (λ (v : Node). up_to submitted_at (last_stamp submitted_at history) (submissions v.sent)) (sym (node-of_member members j)))

  pub one_before : (j : ℕ) → j < length members → IsPrefixOf before.history (at j).history ⊎ IsPrefixOf (at j).history before.history
  one_before j hj =
      let rises = Rising-all w (lawful_world group vocabulary members all) in
      let here = right_before in
      let there = right_at group vocabulary members all j hj in
      elim (prefixes_of_one history (commands_of (at j).history) (all_commands w) (prefix_of_all history (all_commands w) rises here.delivered) (prefix_of_all (commands_of (at j).history) (all_commands w) rises there.delivered)) [
        | inl p ↦ inl (history_prefix (founding_state vocabulary) before.history (at j).history here.answered there.answered p)
        | inr p ↦ inr (history_prefix (founding_state vocabulary) (at j).history before.history there.answered here.answered p)
      ]

-- ---- Where nothing was sent since

pub earlier : (group : Group) (vocabulary : Vocabulary) (members : List Member) (moves : ℕ → List Move) (i : ℕ) (before : Member) (lost : List Move) → AreRun group vocabulary members moves → i < length members
    → HasMade group vocabulary (i + 1) before (moves i ++ lost) → SentNothingSince (founded group (i + 1) vocabulary) (moves i) lost
    → ((j : ℕ) → j < length members → (i ≡ j → ⊥) → WereSent (j + 1) (member_at members j).sent (moves i ++ lost)) → IsEarlier group vocabulary members i before
earlier group vocabulary members moves i before lost are h made nothing brought = record {
  moves = moves i ++ lost;
  made = made;
  more = [];
  sent = ap (λ (v : Member). v.sent) (sym (are.made i h).is) ∙ sym nothing.same ∙ ap (λ (v : Member). v.sent) made.is ∙ sym (append-nil before.sent);
  brought = brought;
}
