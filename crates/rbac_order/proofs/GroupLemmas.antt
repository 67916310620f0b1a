-- The members of a group: what each has heard, what is due, and that each history is right.
use Rattle.std.proofs.Common.{ℕ, zero, suc, Bool, true, false, not, ◌≡◌, ◌≤◌, ◌<◌, ◌+◌, ◌==◌, ◌||◌, ◌&&◌, List, [], ◌∷◌, ◌++◌, length, map, take, get_or, refl, sym, ap, ap₂, subst, ◌∙◌, arith, Option, Some, None}
use Rattle.std.specs.List.{AllByRecursion as Each, filter, list_all}
use Rattle.std.proofs.lemmas.Bool.{or_left, or_right, eq-eqb, ne_eqb}
use Rattle.std.proofs.lemmas.List.{length-map}
use Rattle.std.proofs.lemmas.List.Elements.{filter-append}
use Rattle.rbac_terms.specs.Vocabulary.{Vocabulary}
use Rattle.rbac_words.specs.Group.{Group}
use Rattle.rbac_terms.specs.State.{founding_state}
use Rattle.rbac_terms.specs.Replay.{replies}
use Rattle.rbac_words.specs.Stamp.{IsBefore, is_same_stamp, last_stamp, up_to, has_passed}
use Rattle.rbac_words.specs.Message.{stamp_of, submitted_at, submissions, commands_of, has_later, IsLawful}
use Rattle.rbac_words.specs.Front.{command_of}
use Rattle.rbac_words.specs.World.{World, Node, nobody, heard_of, heard_commands, is_delivered, is_stable, least, if_stable, due}
use Rattle.rbac_words.specs.Right.{all_commands, IsRight, AreHistoriesRight}
use Rattle.rbac_words.specs.Keeping.Member.{Member, node_of, latest_of, known, numbers, is_passed_by_all, if_passed, due_at, IsNumber, IsMember}
use Rattle.rbac_words.specs.Keeping.Members.{HasRead, member_at, AreMembers, world_of, IsLawfulWorld}
use Rattle.rbac_words.specs.declared.message.Message.{Message}
use Rattle.rbac_words.specs.declared.message.Submission.{Submission}
use Rattle.rbac_words.specs.declared.record.Record.{Record}
use Rattle.sorted_keys.proofs.Lists.{Each-left, Each-weaker, filter-all, filter-none}
use Rattle.rbac_order.proofs.StampLemmas.{same_stamp_itself, same_stamp_below, passed_by_one, Rising-left, Rising-across}
use Rattle.rbac_order.proofs.MessageLemmas.{Each-submissions, Rising-submissions, Lawful-left}
use Rattle.rbac_order.proofs.SenderLemmas.{of, Rising, decide}
use Rattle.rbac_order.proofs.HistoryLemmas.{HasFirst, first_own, first_other, up_to_last, numbered_places, Each-places, IsOrderly, same_as_carried, second_step}

-- the place of a member in its world
pub node-of_member : (ms : List Member) (i : ℕ) → get_or (map node_of ms) i nobody ≡ node_of (member_at ms i)
node-of_member [] i = refl
node-of_member (v ∷ vs) zero = refl
node-of_member (v ∷ vs) (suc i) = node-of_member vs i

take-front : {X : Type 0} (xs ys : List X) → take (length xs) (xs ++ ys) ≡ xs
take-front [] ys = refl
take-front (x ∷ xs) ys = ap (λ l. x ∷ l) (take-front xs ys)

-- ---- What was delivered of a rising list

delivered_itself : (rs : List Record) → Each (λ x. is_delivered rs x ≡ true) (commands_of rs)
delivered_itself [] = tt
delivered_itself (r ∷ rs) = (
  or_left _ _ (same_stamp_itself r.stamp),
  Each-weaker (λ x. is_delivered rs x ≡ true) (λ x. is_delivered (r ∷ rs) x ≡ true) (commands_of rs) (λ x e. or_right (is_same_stamp r.stamp x.stamp) _ e) (delivered_itself rs),
)

undelivered : (rs : List Record) (xs : List Submission) → Each (λ x. Each (λ y. IsBefore (submitted_at x) (submitted_at y)) xs) (commands_of rs) → Each (λ y. is_delivered rs y ≡ false) xs
undelivered rs [] a = tt
undelivered rs (y ∷ ys) a = (one rs (Each-weaker _ (λ x. IsBefore (submitted_at x) (submitted_at y)) (commands_of rs) (λ x h. h.0) a), undelivered rs ys (Each-weaker _ _ (commands_of rs) (λ x h. h.1) a))
  where
    one : (rs : List Record) → Each (λ x. IsBefore (submitted_at x) (submitted_at y)) (commands_of rs) → is_delivered rs y ≡ false
    one [] a = refl
    one (r ∷ rs) a = rw (same_stamp_below r.stamp y.stamp a.0) (one rs a.1)

-- what is known and was not delivered is held
pub pending_held : (v : Member) → IsMember v → filter (λ x. not (is_delivered v.history x)) (known v) ≡ v.held
pending_held v k =
    filter-append (λ x. not (is_delivered v.history x)) (commands_of v.history) v.held
    ∙ ap (λ l. l ++ filter (λ x. not (is_delivered v.history x)) v.held)
    (filter-none (λ x. not (is_delivered v.history x)) (commands_of v.history) (Each-weaker _ (λ x. not (is_delivered v.history x) ≡ false) (commands_of v.history) (λ x e. ap not e) (delivered_itself v.history)))
    ∙ filter-all (λ x. not (is_delivered v.history x)) v.held
    (Each-weaker _ (λ x. not (is_delivered v.history x) ≡ true) v.held (λ x e. ap not e) (undelivered v.history v.held (Rising-across submitted_at (commands_of v.history) v.held k.rising)))

-- a test of each place is a test of each number
all_places : (p : Node → Bool) (q : ℕ → Bool) (n j : ℕ) (nodes : List Node) → length nodes ≡ n → ((i : ℕ) → i < length nodes → p (get_or nodes i nobody) ≡ q (suc (j + i))) → list_all p nodes ≡ list_all q (numbers n j)
all_places p q zero j [] e f = refl
all_places p q zero j (v ∷ vs) e f = absurd (let no : ⊥ = omega arith in no)
all_places p q (suc n) j [] e f = absurd (let no : ⊥ = omega arith in no)
all_places p q (suc n) j (v ∷ vs) e f =
    ap₂ (λ a b. a && b) (f 0 (omega arith) ∙ ap q (let z : suc (j + 0) ≡ suc j = omega arith in z))
    (all_places p q n (suc j) vs (omega arith) (λ i h. f (suc i) (omega arith) ∙ ap q (let z : suc (j + suc i) ≡ suc (suc j + i) = omega arith in z)))

module _ (group : Group) (vocabulary : Vocabulary) (ms : List Member) (are : AreMembers group vocabulary ms) where
  abbrev w : World
  w = world_of group vocabulary ms

  abbrev at : ℕ → Member
  at i = member_at ms i

  node_at : (i : ℕ) → get_or w.nodes i nobody ≡ node_of (at i)
  node_at i = node-of_member ms i

  pub inside : (i : ℕ) → i < length w.nodes → i < length ms
  inside i h = let a : length w.nodes ≡ length ms = length-map ms node_of in omega arith

  -- the number of each is one of the group's, as each sees it
  pub is_number : (i j : ℕ) → i < length ms → j < length ms → IsNumber (at i).group (at j).number
  is_number i j hi hj =
      let a : (at j).number ≡ j + 1 = are.numbered j hj in let b : length ms ≡ group.members = are.count in
      let c : (at i).group.members ≡ group.members = ap (λ (g : Group). g.members) (are.same_group i hi) in
      record { low = omega arith; high = omega arith }

  pub apart : (i j : ℕ) → i < length ms → j < length ms → (j ≡ i → ⊥) → (at j).number ≡ (at i).number → ⊥
  apart i j hi hj d e = let a : (at i).number ≡ i + 1 = are.numbered i hi in let b : (at j).number ≡ j + 1 = are.numbered j hj in d (omega arith)

  pub read_by : (i j : ℕ) → i < length ms → j < length ms → (j ≡ i → ⊥) → HasRead (at i) (at j)
  read_by i j hi hj d = are.read i j hi hj (λ e. d (sym e))

  pub lawful_front : (i j : ℕ) → (hi : i < length ms) → (hj : j < length ms) → (d : j ≡ i → ⊥) → IsLawful (at j).number (at j).group ((read_by i j hi hj d).taken ++ (read_by i j hi hj d).unread)
  lawful_front i j hi hj d = subst (IsLawful (at j).number (at j).group) (read_by i j hi hj d).sent (are.kept j hj).lawful

  -- the law's first step, for each two of them
  pub first_at : (i j : ℕ) → i < length ms → j < length ms → HasFirst (commands_of (at i).history) (at j).number (submissions (at j).sent)
  first_at i j hi hj =
      decide (HasFirst (commands_of (at i).history) (at j).number (submissions (at j).sent)) j i
      (λ e. subst (λ n. HasFirst (commands_of (at i).history) (at n).number (submissions (at n).sent)) (sym e) (first_own (at i) (are.kept i hi)))
      (λ d. let r = read_by i j hi hj d in
      subst (λ l. HasFirst (commands_of (at i).history) (at j).number (submissions l)) (sym r.sent)
      (first_other (at i) (at j).number (at j).group r.taken r.unread (are.kept i hi) (is_number i j hi hj) (apart i j hi hj d) r.has_taken (lawful_front i j hi hj d)))

  pub lawful_world : IsLawfulWorld w
  lawful_world = record {
    count = length-map ms node_of ∙ are.count;
    numbered = λ i h. ap (λ (v : Node). v.number) (node_at i) ∙ are.numbered i (inside i h);
    lawful = λ i h. subst (λ (v : Node). IsLawful v.number group v.sent) (sym (node_at i)) (subst (λ g. IsLawful (at i).number g (at i).sent) (are.same_group i (inside i h)) (are.kept i (inside i h)).lawful);
  }

  pub of_group : (i : ℕ) → i < length ms → Each (λ (x : Submission). IsNumber group x.stamp.member) (known (at i))
  of_group i h = subst (λ g. Each (λ (x : Submission). IsNumber g x.stamp.member) (known (at i))) (are.same_group i h) (are.kept i h).others

  Rising-history : (i : ℕ) → i < length ms → Rising (commands_of (at i).history)
  Rising-history i h = Rising-left submitted_at (commands_of (at i).history) (at i).held (are.kept i h).rising

  pub delivered_right : (i : ℕ) → i < length ms → commands_of (at i).history ≡ up_to submitted_at (last_stamp submitted_at (commands_of (at i).history)) (all_commands w)
  delivered_right i h =
      second_step w lawful_world history (Rising-history i h) (Each-left (λ (x : Submission). IsNumber group x.stamp.member) history (at i).held (of_group i h))
      (λ j hj. ap (λ k. of k history) (sym (are.numbered j (inside j hj))) ∙ up_to_last history (at j).number (submissions (at j).sent) (Rising-history i h) (first_at i j h (inside j hj))
      ∙ ap (λ (v : Node). up_to submitted_at (last_stamp submitted_at history) (submissions v.sent)) (sym (node_at j)))
    where
      history : List Submission
      history = commands_of (at i).history

  pub right_at : (i : ℕ) → i < length ms → IsRight w (node_of (at i))
  right_at i h = record {
    delivered = delivered_right i h;
    answered = subst (λ (v : Vocabulary). map (λ (r : Record). r.answer) (at i).history ≡ replies (founding_state v) (map command_of (commands_of (at i).history))) (are.same_vocabulary i h) (are.kept i h).front.answered;
  }

  pub right : AreHistoriesRight w
  right i h = subst (IsRight w) (sym (node_at i)) (right_at i (inside i h))

  -- ---- What a member has heard is what it knows

  heard_own : (i : ℕ) → heard_of (node_of (at i)) (node_of (at i)) ≡ (at i).sent
  heard_own i = rw (eq-eqb (at i).number (at i).number refl) refl

  heard_other : (i j : ℕ) → (hi : i < length ms) → (hj : j < length ms) → (d : j ≡ i → ⊥) → heard_of (node_of (at i)) (node_of (at j)) ≡ (read_by i j hi hj d).taken
  heard_other i j hi hj d =
      let r = read_by i j hi hj d in
      rw (ne_eqb (at j).number (at i).number (apart i j hi hj d)) (ap₂ take r.has_taken.count r.sent ∙ take-front r.taken r.unread)

  -- what holds of all that a member sent itself, and of what it took of each other one, holds of what it heard
  by_heard : (i j : ℕ) → (hi : i < length ms) → (hj : j < length ms) → (P : List Message → Type 0) → (j ≡ i → P (at j).sent) → ((d : j ≡ i → ⊥) → P (read_by i j hi hj d).taken) → P (heard_of (node_of (at i)) (node_of (at j)))
  by_heard i j hi hj P own other =
      decide (P (heard_of (node_of (at i)) (node_of (at j)))) j i
      (λ e. subst P (sym (ap (λ n. heard_of (node_of (at i)) (node_of (at n))) e ∙ heard_own i ∙ ap (λ n. (at n).sent) (sym e))) (own e))
      (λ d. subst P (sym (heard_other i j hi hj d)) (other d))

  abbrev carried : ℕ → Node → List Submission
  carried i other = submissions (heard_of (node_of (at i)) other)

  pub known_heard : (i : ℕ) → i < length ms → known (at i) ≡ heard_commands w (node_of (at i))
  known_heard i h =
      same_as_carried (carried i) w.nodes
      (numbered_places 0 w.nodes (λ j hj. lawful_world.numbered j hj ∙ (let z : j + 1 ≡ suc (0 + j) = omega arith in z)))
      (Each-places (IsOrderly (carried i)) w.nodes nobody (λ j hj. subst (IsOrderly (carried i)) (sym (node_at j)) (orderly j (inside j hj))))
      (known (at i)) (are.kept i h).rising
      (Each-weaker (λ (x : Submission). IsNumber group x.stamp.member) (λ x. (1 ≤ x.stamp.member) × (x.stamp.member ≤ length w.nodes)) (known (at i))
      (λ x n. (n.low, let b : length w.nodes ≡ group.members = lawful_world.count in let c : x.stamp.member ≤ group.members = n.high in omega arith)) (of_group i h))
      (λ j hj. ap (λ k. of k (known (at i))) ((let z : suc j ≡ j + 1 = omega arith in z) ∙ sym (are.numbered j (inside j hj))) ∙ same j (inside j hj) ∙ ap (carried i) (sym (node_at j)))
    where
      lawful_heard : (j : ℕ) → j < length ms → IsLawful (at j).number (at j).group (heard_of (node_of (at i)) (node_of (at j)))
      lawful_heard j hj =
          by_heard i j h hj (IsLawful (at j).number (at j).group) (λ e. (are.kept j hj).lawful) (λ d. Lawful-left (at j).number (at j).group (read_by i j h hj d).taken (read_by i j h hj d).unread (lawful_front i j h hj d))

      orderly : (j : ℕ) → j < length ms → IsOrderly (carried i) (node_of (at j))
      orderly j hj = let l = lawful_heard j hj in record {
        own = Each-submissions (λ s. s.member ≡ (at j).number) (λ s e. e) (heard_of (node_of (at i)) (node_of (at j))) l.own;
        rising = Rising-submissions (at j).number (heard_of (node_of (at i)) (node_of (at j))) l.own l.first l.rising;
      }

      same : (j : ℕ) → j < length ms → of (at j).number (known (at i)) ≡ carried i (node_of (at j))
      same j hj =
          by_heard i j h hj (λ ms. of (at j).number (known (at i)) ≡ submissions ms)
          (λ e. subst (λ n. of (at n).number (known (at i)) ≡ submissions (at n).sent) (sym e) (are.kept i h).own)
          (λ d. (read_by i j h hj d).has_taken.commands)

  -- ---- What is due

  -- stable by what was heard is passed by the latest stamps
  pub stable_passed : (i : ℕ) → i < length ms → (x : Submission) → is_stable w (node_of (at i)) x ≡ is_passed_by_all (at i) x
  stable_passed i h x =
      all_places (λ (other : Node). (other.number == (at i).number || other.number == x.stamp.member) || has_later (heard_of (node_of (at i)) other) x.stamp)
      (λ k. (k == (at i).number || k == x.stamp.member) || has_passed (latest_of (at i) k) x.stamp) (at i).group.members 0 w.nodes
      (lawful_world.count ∙ ap (λ (g : Group). g.members) (sym (are.same_group i h)))
      (λ j hj. ap (λ (v : Node). (v.number == (at i).number || v.number == x.stamp.member) || has_later (heard_of (node_of (at i)) v) x.stamp) (node_at j) ∙ one j (inside j hj)
      ∙ ap (λ k. (k == (at i).number || k == x.stamp.member) || has_passed (latest_of (at i) k) x.stamp) (are.numbered j (inside j hj) ∙ (let z : j + 1 ≡ suc (0 + j) = omega arith in z)))
    where
      test : List Message → ℕ → Bool
      test ms n = (n == (at i).number || n == x.stamp.member) || has_later ms x.stamp

      one : (j : ℕ) → j < length ms
          → ((at j).number == (at i).number || (at j).number == x.stamp.member) || has_later (heard_of (node_of (at i)) (node_of (at j))) x.stamp
          ≡ (((at j).number == (at i).number || (at j).number == x.stamp.member) || has_passed (latest_of (at i) (at j).number) x.stamp)
      one j hj =
          decide _ j i
          (λ e. rw (eq-eqb (at j).number (at i).number (ap (λ n. (at n).number) e)) refl)
          (λ d. let r = read_by i j h hj d in
          ap (λ b. ((at j).number == (at i).number || (at j).number == x.stamp.member) || b)
          (ap (λ ms. has_later ms x.stamp) (heard_other i j h hj d) ∙ sym (passed_by_one stamp_of x.stamp r.taken (Rising-left stamp_of r.taken r.unread (lawful_front i j h hj d).rising)) ∙ ap (λ o. has_passed o x.stamp) (sym r.has_taken.latest)))

  pub due_is_due : (i : ℕ) → i < length ms → due w (node_of (at i)) ≡ due_at (at i)
  due_is_due i h =
      ap (λ xs. if_stable w (node_of (at i)) (least (filter (λ x. not (is_delivered (at i).history x)) xs))) (sym (known_heard i h))
      ∙ ap (λ xs. if_stable w (node_of (at i)) (least xs)) (pending_held (at i) (are.kept i h)) ∙ go (least (at i).held)
    where
      go : (o : Option Submission) → if_stable w (node_of (at i)) o ≡ if_passed (at i) o
      go None = refl
      go (Some x) = rw (stable_passed i h x) refl
