-- The law in two steps: what a history has of each sender, and the lists that have that of each.
use Rattle.std.proofs.Common.{ℕ, zero, suc, Bool, true, false, not, ◌≡◌, ◌≤◌, ◌<◌, ◌+◌, List, [], ◌∷◌, ◌++◌, length, get_or, refl, sym, ap, subst, ◌∙◌, arith, append-nil, append_assoc, nat_le, Option, Some, None}
use Rattle.std.specs.List.{AllByRecursion as Each, filter, flat_map}
use Rattle.std.proofs.lemmas.Bool.Decides.{nat_tests}
use Rattle.std.proofs.lemmas.List.Elements.{filter-append}
use Rattle.rbac_words.specs.Group.{Group}
use Rattle.rbac_terms.specs.State.{founding_state}
use Rattle.rbac_words.specs.Stamp.{IsBefore, is_before, IsAfter, last_stamp, up_to, sort_by_stamp}
use Rattle.rbac_words.specs.Message.{stamp_of, submitted_at, next_place, submissions, commands_of, IsLawful}
use Rattle.rbac_words.specs.Front.{IsLegalFront, is_of}
use Rattle.rbac_words.specs.World.{World, Node, nobody}
use Rattle.rbac_words.specs.Right.{all_commands, IsRight}
use Rattle.rbac_words.specs.Keeping.Member.{Member, latest_of, IsNumber, IsCovered, IsMember}
use Rattle.rbac_words.specs.Keeping.Members.{HasTaken, HasRead, IsLawfulWorld}
use Rattle.rbac_words.specs.declared.message.Message.{Message}
use Rattle.rbac_words.specs.declared.message.Submission.{Submission}
use Rattle.rbac_words.specs.declared.stamp.Stamp.{Stamp}
use Rattle.sorted_keys.proofs.Lists.{Each-append, Each-right, Each-weaker, Each-both, Each-filter, filter-all, filter-none, filter-filter}
use Rattle.rbac_order.proofs.StampLemmas.{before_next, true_before, after_last, last_none, up_to-all, last_below_each, Rising-left, Rising-filter, Rising-across, Each-swap}
use Rattle.rbac_order.proofs.MessageLemmas.{submissions-append, Each-submissions, Rising-submissions}
use Rattle.rbac_order.proofs.SenderLemmas.{of, Rising, of-none, of-all, same_from_each, AreRisingOfEach, of-sort, Rising-sort}
use Rattle.rbac_order.proofs.MemberLemmas.{covered_history}

-- ---- The first step

-- a receiver's history has of a sender the first of its commands, and each later one is above the whole history
pub record HasFirst (history : List Submission) (k : ℕ) (sent : List Submission) : Type 0 where
  pub later : List Submission
  pub is : sent ≡ of k history ++ later
  pub above : Each (λ y. Each (λ x. IsBefore x.stamp y.stamp) history) later

-- of its own commands
pub first_own : (a : Member) → IsMember a → HasFirst (commands_of a.history) a.number (submissions a.sent)
first_own a k = record {
  later = of a.number a.held;
  is = sym k.own ∙ filter-append (is_of a.number) (commands_of a.history) a.held;
  above = Each-filter (λ y. Each (λ x. IsBefore x.stamp y.stamp) (commands_of a.history)) (is_of a.number) a.held
      (Each-swap submitted_at (commands_of a.history) a.held (Rising-across submitted_at (commands_of a.history) a.held k.rising));
}

-- of those of another member, of which it took the first messages
pub first_other : (a : Member) (k : ℕ) (group : Group) (taken unread : List Message) → IsMember a → IsNumber a.group k → (k ≡ a.number → ⊥) → HasTaken a k taken → IsLawful k group (taken ++ unread)
    → HasFirst (commands_of a.history) k (submissions (taken ++ unread))
first_other a k group taken unread kept number other has lawful = record {
  later = of k a.held ++ submissions unread;
  is = submissions-append taken unread ∙ ap (λ l. l ++ submissions unread) (sym has.commands ∙ filter-append (is_of k) (commands_of a.history) a.held) ∙ append_assoc (of k (commands_of a.history)) (of k a.held) (submissions unread);
  above = Each-append (λ y. Each (λ x. IsBefore x.stamp y.stamp) (commands_of a.history)) (of k a.held) (submissions unread)
      (Each-filter (λ y. Each (λ x. IsBefore x.stamp y.stamp) (commands_of a.history)) (is_of k) a.held
      (Each-swap submitted_at (commands_of a.history) a.held (Rising-across submitted_at (commands_of a.history) a.held kept.rising)))
      (Each-submissions (λ t. Each (λ x. IsBefore x.stamp t) (commands_of a.history)) (λ t. Each-weaker (λ x. IsBefore x.stamp t) (λ x. IsBefore x.stamp (next_place t)) (commands_of a.history) (λ x. before_next x.stamp t)) unread
      (Each-weaker (λ z. (IsAfter (latest_of a k) (stamp_of z) × ((stamp_of z).member ≡ k)) × ((stamp_of z).place ≡ 0)) (λ z. Each (λ x. IsBefore x.stamp (stamp_of z)) (commands_of a.history)) unread
      (λ z h. Each-weaker (λ x. IsCovered (latest_of a k) k x.stamp) (λ x. IsBefore x.stamp (stamp_of z)) (commands_of a.history) (λ x c. c (stamp_of z) h.0.1 h.1 h.0.0) (covered_history a k kept number other))
      (Each-both (λ z. IsAfter (latest_of a k) (stamp_of z) × ((stamp_of z).member ≡ k)) (λ z. (stamp_of z).place ≡ 0) unread
      (Each-both (λ z. IsAfter (latest_of a k) (stamp_of z)) (λ z. (stamp_of z).member ≡ k) unread
      (subst (λ o. Each (λ z. IsAfter o (stamp_of z)) unread) (sym has.latest) (after_last stamp_of taken unread lawful.rising))
      (Each-right (λ z. (stamp_of z).member ≡ k) taken unread lawful.own))
      (Each-right (λ z. (stamp_of z).place ≡ 0) taken unread lawful.first))));
}

-- exactly those up to the history's last stamp
pub up_to_last : (history : List Submission) (k : ℕ) (sent : List Submission) → Rising history → HasFirst history k sent → of k history ≡ up_to submitted_at (last_stamp submitted_at history) sent
up_to_last history k sent r h = go (last_stamp submitted_at history) refl
  where
    go : (o : Option Stamp) → last_stamp submitted_at history ≡ o → of k history ≡ up_to submitted_at o sent
    go None e = ap (of k) (last_none submitted_at history e)
    go (Some t) e =
        let not_past : Submission → Bool = λ (x : Submission). not (is_before t x.stamp) in
        sym (ap (filter not_past) h.is ∙ filter-append not_past (of k history) h.later
        ∙ ap (λ l. l ++ filter not_past h.later) (filter-all not_past (of k history) (Each-filter (λ x. not_past x ≡ true) (is_of k) history (up_to-all submitted_at history t r e)))
        ∙ ap (λ l. of k history ++ l)
        (filter-none not_past h.later (Each-weaker (λ y. Each (λ x. IsBefore x.stamp y.stamp) history) (λ y. not_past y ≡ false) h.later (λ y b. ap not (true_before t y.stamp (last_below_each submitted_at history t y.stamp e b))) h.above))
        ∙ append-nil (of k history))

pub history_of_own : (v : Member) → IsMember v → of v.number (commands_of v.history) ≡ up_to submitted_at (last_stamp submitted_at (commands_of v.history)) (submissions v.sent)
history_of_own v k = up_to_last (commands_of v.history) v.number (submissions v.sent) (Rising-left submitted_at (commands_of v.history) v.held k.rising) (first_own v k)

pub history_of_another : (receiver sender : Member) → IsMember receiver → IsLawful sender.number sender.group sender.sent → IsNumber receiver.group sender.number → (sender.number ≡ receiver.number → ⊥) → HasRead receiver sender
    → of sender.number (commands_of receiver.history) ≡ up_to submitted_at (last_stamp submitted_at (commands_of receiver.history)) (submissions sender.sent)
history_of_another receiver sender k lawful number other r =
    up_to_last (commands_of receiver.history) sender.number (submissions sender.sent) (Rising-left submitted_at (commands_of receiver.history) receiver.held k.rising)
    (subst (λ l. HasFirst (commands_of receiver.history) sender.number (submissions l)) (sym r.sent)
    (first_other receiver sender.number sender.group r.taken r.unread k number other r.has_taken (subst (IsLawful sender.number sender.group) r.sent lawful)))

-- ---- Commands of members that are numbered in order

-- each number once, from j + 1 on
abbrev pub AreNumbered : ℕ → List Node → Type 0
AreNumbered j [] = Unit {0}
AreNumbered j (v ∷ vs) = (v.number ≡ suc j) × AreNumbered (suc j) vs

pub numbered_places : (j : ℕ) (nodes : List Node) → ((i : ℕ) → i < length nodes → (get_or nodes i nobody).number ≡ suc (j + i)) → AreNumbered j nodes
numbered_places j [] f = tt
numbered_places j (v ∷ vs) f = (
  f 0 (omega arith) ∙ (let z : suc (j + 0) ≡ suc j = omega arith in z),
  numbered_places (suc j) vs (λ i h. f (suc i) (omega arith) ∙ (let z : suc (j + suc i) ≡ suc (suc j + i) = omega arith in z)),
)

-- what holds at each place holds of each
pub Each-places : {X : Type 0} (P : X → Type 0) (xs : List X) (d : X) → ((i : ℕ) → i < length xs → P (get_or xs i d)) → Each P xs
Each-places P [] d f = tt
Each-places P (x ∷ xs) d f = (f 0 (omega arith), Each-places P xs d (λ i h. f (suc i) (omega arith)))

pub Each-at : {X : Type 0} (P : X → Type 0) (xs : List X) (d : X) → Each P xs → (i : ℕ) → i < length xs → P (get_or xs i d)
Each-at P [] d a i h = absurd (let no : ⊥ = omega arith in no)
Each-at P (x ∷ xs) d a zero h = a.0
Each-at P (x ∷ xs) d a (suc i) h = Each-at P xs d a.1 i (omega arith)

-- each number of a group is that of one of its places, and each other number is not
pub by_number : (n : ℕ) (P : ℕ → Type 0) → ((k : ℕ) → (1 ≤ k → k ≤ n → ⊥) → P k) → ((i : ℕ) → i < n → P (suc i)) → (k : ℕ) → P k
by_number n P outside inside zero = outside zero (λ a b. let no : ⊥ = omega arith in no)
by_number n P outside inside (suc i) = go (nat_le (suc i) n) refl
  where
    go : (b : Bool) → nat_le (suc i) n ≡ b → P (suc i)
    go true e = inside i (let a : suc i ≤ n = grind (arith, nat_tests) in omega arith)
    go false e = outside (suc i) (λ a b. let no : ⊥ = grind (arith, nat_tests) in no)

module _ (carried : Node → List Submission) where
  abbrev pub all_carried : List Node → List Submission
  all_carried nodes = flat_map carried nodes

  -- each one's are its own, and rise
  pub record IsOrderly (v : Node) : Type 0 where
    pub own : Each (λ (x : Submission). x.stamp.member ≡ v.number) (carried v)
    pub rising : Rising (carried v)

  of_itself : (v : Node) (k : ℕ) → IsOrderly v → k ≡ v.number → of k (carried v) ≡ carried v
  of_itself v k o e = of-all k (carried v) (subst (λ j. Each (λ (x : Submission). x.stamp.member ≡ j) (carried v)) (sym e) o.own)

  of_another : (v : Node) (k : ℕ) → IsOrderly v → (k ≡ v.number → ⊥) → of k (carried v) ≡ []
  of_another v k o d = of-none k (carried v) (Each-weaker (λ (x : Submission). x.stamp.member ≡ v.number) (λ x. x.stamp.member ≡ k → ⊥) (carried v) (λ x a b. d (sym b ∙ a)) o.own)

  -- a number outside has none
  of_outside : (j : ℕ) (nodes : List Node) (k : ℕ) → (j < k → k ≤ j + length nodes → ⊥) → AreNumbered j nodes → Each IsOrderly nodes → of k (all_carried nodes) ≡ []
  of_outside j [] k out n o = refl
  of_outside j (v ∷ vs) k out n o =
      filter-append (is_of k) (carried v) (all_carried vs)
      ∙ ap (λ l. l ++ of k (all_carried vs)) (of_another v k o.0 (λ e. let a : v.number ≡ suc j = n.0 in out (omega arith) (omega arith)))
      ∙ of_outside (suc j) vs k (λ a b. out (omega arith) (omega arith)) n.1 o.1

  -- a number inside has those of its place
  of_inside : (j : ℕ) (nodes : List Node) (i : ℕ) → i < length nodes → AreNumbered j nodes → Each IsOrderly nodes → of (suc (j + i)) (all_carried nodes) ≡ carried (get_or nodes i nobody)
  of_inside j [] i h n o = absurd (let no : ⊥ = omega arith in no)
  of_inside j (v ∷ vs) zero h n o =
      filter-append (is_of (suc (j + 0))) (carried v) (all_carried vs)
      ∙ ap (λ l. of (suc (j + 0)) (carried v) ++ l) (of_outside (suc j) vs (suc (j + 0)) (λ a b. let no : ⊥ = omega arith in no) n.1 o.1)
      ∙ append-nil (of (suc (j + 0)) (carried v))
      ∙ of_itself v (suc (j + 0)) o.0 ((let z : suc (j + 0) ≡ suc j = omega arith in z) ∙ sym n.0)
  of_inside j (v ∷ vs) (suc i) h n o =
      filter-append (is_of (suc (j + suc i))) (carried v) (all_carried vs)
      ∙ ap (λ l. l ++ of (suc (j + suc i)) (all_carried vs)) (of_another v (suc (j + suc i)) o.0 (λ e. let a : v.number ≡ suc j = n.0 in let no : ⊥ = omega arith in no))
      ∙ ap (λ m. of m (all_carried vs)) (let z : suc (j + suc i) ≡ suc (suc j + i) = omega arith in z)
      ∙ of_inside (suc j) vs i (omega arith) n.1 o.1

  module _ (nodes : List Node) (n : AreNumbered 0 nodes) (o : Each IsOrderly nodes) where
    here : (i : ℕ) → i < length nodes → of (suc i) (all_carried nodes) ≡ carried (get_or nodes i nobody)
    here i h = ap (λ m. of (suc m) (all_carried nodes)) (let z : i ≡ 0 + i = omega arith in z) ∙ of_inside 0 nodes i h n o

    nowhere : (k : ℕ) → (1 ≤ k → k ≤ length nodes → ⊥) → of k (all_carried nodes) ≡ []
    nowhere k out = of_outside 0 nodes k (λ a b. out (omega arith) (omega arith)) n o

    pub rising_of_each : AreRisingOfEach (all_carried nodes)
    rising_of_each = by_number (length nodes) (λ k. Rising (of k (all_carried nodes))) (λ k out. subst Rising (sym (nowhere k out)) tt)
        (λ i h. subst Rising (sym (here i h)) (Each-at IsOrderly nodes nobody o i h).rising)

    pub Rising-carried : Rising (sort_by_stamp submitted_at (all_carried nodes))
    Rising-carried = Rising-sort (all_carried nodes) rising_of_each

    -- a list with the commands of each, and no others, has the commands of all
    pub same_as_carried : (xs : List Submission) → Rising xs → Each (λ (x : Submission). (1 ≤ x.stamp.member) × (x.stamp.member ≤ length nodes)) xs
        → ((i : ℕ) → i < length nodes → of (suc i) xs ≡ carried (get_or nodes i nobody)) → xs ≡ sort_by_stamp submitted_at (all_carried nodes)
    same_as_carried xs r inside same =
        same_from_each xs (sort_by_stamp submitted_at (all_carried nodes)) r Rising-carried
        (λ k. by_number (length nodes) (λ j. of j xs ≡ of j (all_carried nodes))
        (λ j out. of-none j xs (Each-weaker (λ (x : Submission). (1 ≤ x.stamp.member) × (x.stamp.member ≤ length nodes)) (λ x. x.stamp.member ≡ j → ⊥) xs
        (λ x h e. out (subst (λ m. 1 ≤ m) e h.0) (subst (λ m. m ≤ length nodes) e h.1)) inside) ∙ sym (nowhere j out))
        (λ i h. same i h ∙ sym (here i h)) k
        ∙ sym (of-sort (all_carried nodes) rising_of_each k))

    -- the same of all up to a stamp
    pub same_up_to : (t : Stamp) (xs : List Submission) → Rising xs → Each (λ (x : Submission). (1 ≤ x.stamp.member) × (x.stamp.member ≤ length nodes)) xs
        → ((i : ℕ) → i < length nodes → of (suc i) xs ≡ filter (λ x. not (is_before t (submitted_at x))) (carried (get_or nodes i nobody)))
        → xs ≡ filter (λ x. not (is_before t (submitted_at x))) (sort_by_stamp submitted_at (all_carried nodes))
    same_up_to t xs r inside same =
        let p : Submission → Bool = λ (x : Submission). not (is_before t (submitted_at x)) in
        same_from_each xs (filter p (sort_by_stamp submitted_at (all_carried nodes))) r (Rising-filter submitted_at p (sort_by_stamp submitted_at (all_carried nodes)) Rising-carried)
        (λ k. by_number (length nodes) (λ j. of j xs ≡ filter p (of j (all_carried nodes)))
        (λ j out. of-none j xs (Each-weaker (λ (x : Submission). (1 ≤ x.stamp.member) × (x.stamp.member ≤ length nodes)) (λ x. x.stamp.member ≡ j → ⊥) xs
        (λ x h e. out (subst (λ m. 1 ≤ m) e h.0) (subst (λ m. m ≤ length nodes) e h.1)) inside) ∙ ap (filter p) (sym (nowhere j out)))
        (λ i h. same i h ∙ ap (filter p) (sym (here i h))) k
        ∙ ap (filter p) (sym (of-sort (all_carried nodes) rising_of_each k)) ∙ filter-filter p (is_of k) (sort_by_stamp submitted_at (all_carried nodes)))

-- ---- The second step

abbrev pub sent_of : Node → List Submission
sent_of v = submissions v.sent

pub lawful_orderly : (group : Group) (v : Node) → IsLawful v.number group v.sent → IsOrderly sent_of v
lawful_orderly group v l = record { own = Each-submissions (λ s. s.member ≡ v.number) (λ s e. e) v.sent l.own; rising = Rising-submissions v.number v.sent l.own l.first l.rising }

module _ (w : World) (l : IsLawfulWorld w) where
  pub world_numbered : AreNumbered 0 w.nodes
  world_numbered = numbered_places 0 w.nodes (λ i h. l.numbered i h ∙ (let z : i + 1 ≡ suc (0 + i) = omega arith in z))

  pub world_orderly : Each (IsOrderly sent_of) w.nodes
  world_orderly = Each-places (IsOrderly sent_of) w.nodes nobody (λ i h. lawful_orderly w.group (get_or w.nodes i nobody) (l.lawful i h))

  pub Rising-all : Rising (all_commands w)
  Rising-all = Rising-carried sent_of w.nodes world_numbered world_orderly

  in_world : (xs : List Submission) → Each (λ (x : Submission). IsNumber w.group x.stamp.member) xs → Each (λ (x : Submission). (1 ≤ x.stamp.member) × (x.stamp.member ≤ length w.nodes)) xs
  in_world xs a = Each-weaker (λ (x : Submission). IsNumber w.group x.stamp.member) (λ x. (1 ≤ x.stamp.member) × (x.stamp.member ≤ length w.nodes)) xs
      (λ x n. (n.low, let b : length w.nodes ≡ w.group.members = l.count in let h : x.stamp.member ≤ w.group.members = n.high in omega arith)) a

  -- a rising list that has of each member exactly its commands up to the list's last stamp
  pub second_step : (xs : List Submission) → Rising xs → Each (λ (x : Submission). IsNumber w.group x.stamp.member) xs
      → ((i : ℕ) → i < length w.nodes → of (i + 1) xs ≡ up_to submitted_at (last_stamp submitted_at xs) (submissions (get_or w.nodes i nobody).sent))
      → xs ≡ up_to submitted_at (last_stamp submitted_at xs) (all_commands w)
  second_step xs r inside same = go (last_stamp submitted_at xs) refl same
    where
      go : (o : Option Stamp) → last_stamp submitted_at xs ≡ o → ((i : ℕ) → i < length w.nodes → of (i + 1) xs ≡ up_to submitted_at o (submissions (get_or w.nodes i nobody).sent)) → xs ≡ up_to submitted_at o (all_commands w)
      go None e f = last_none submitted_at xs e
      go (Some t) e f = same_up_to sent_of w.nodes world_numbered world_orderly t xs r (in_world xs inside) (λ i h. ap (λ k. of k xs) (let z : suc i ≡ i + 1 = omega arith in z) ∙ f i h)

  -- a rising list that has of each member all its commands
  pub all_of_each : (xs : List Submission) → Rising xs → Each (λ (x : Submission). IsNumber w.group x.stamp.member) xs
      → ((i : ℕ) → i < length w.nodes → of (i + 1) xs ≡ submissions (get_or w.nodes i nobody).sent) → xs ≡ all_commands w
  all_of_each xs r inside same = same_as_carried sent_of w.nodes world_numbered world_orderly xs r (in_world xs inside) (λ i h. ap (λ k. of k xs) (let z : suc i ≡ i + 1 = omega arith in z) ∙ same i h)

-- so a legal front with these commands is right
pub front_right : (w : World) (v : Node) → IsLawfulWorld w → IsLegalFront (founding_state w.vocabulary) v.history → Each (λ (x : Submission). IsNumber w.group x.stamp.member) (commands_of v.history)
    → ((i : ℕ) → i < length w.nodes → of (i + 1) (commands_of v.history) ≡ up_to submitted_at (last_stamp submitted_at (commands_of v.history)) (submissions (get_or w.nodes i nobody).sent)) → IsRight w v
front_right w v l front inside same = record { delivered = second_step w l (commands_of v.history) front.rising inside same; answered = front.answered }
