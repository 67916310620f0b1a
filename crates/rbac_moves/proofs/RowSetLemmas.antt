-- Rows that are set message by message stay lawful, and what was told over them stays right.
use Rattle.std.proofs.Common.{ℕ, ◌≡◌, ◌≤◌, ◌<◌, ◌-◌, ◌⊎◌, List, [], ◌∷◌, ◌++◌, length, refl, sym, ap, subst, ◌∙◌, arith, append-nil, append_assoc, get_or-set_same, get_or-set_other}
use Rattle.rbac_terms.specs.Vocabulary.{Vocabulary}
use Rattle.rbac_words.specs.Group.{Group, IsGroup}
use Rattle.rbac_words.specs.World.{World, Node, nobody, node}
use Rattle.rbac_words.specs.Right.{IsRight, founding_world}
use Rattle.rbac_words.specs.Play.{IsPrefixOf}
use Rattle.rbac_words.specs.Keeping.Member.{Member, IsNumber, node_of}
use Rattle.rbac_words.specs.Keeping.Members.{IsLawfulWorld}
use Rattle.rbac_words.specs.declared.message.Message.{Message}
use Rattle.rbac_order.proofs.SenderLemmas.{decide}
use Rattle.rbac_order.proofs.GroupLemmas.{lawful_world}
use Rattle.rbac_order.proofs.StepLemmas.{founding_has}
use Rattle.rbac_words.specs.Keeping.Own.{next_own}
use Rattle.rbac_moves.specs.Moves.{Move}
use Rattle.rbac_moves.specs.Seal.{row}
use Rattle.rbac_moves.specs.Rows.{HasRunInRow, HasGrown, with_message, MaySet, rows_after, AreSet}
use Rattle.rbac_moves.proofs.RowLemmas.{part_right}
use Rattle.rbac_moves.proofs.RowMoveLemmas.{part_of_rows, one_of_parts, run_in_grown, row_grows}

-- ---- Rows grow

grown_same : (w : World) → HasGrown w w
grown_same w = record { same_group = refl; same_vocabulary = refl; rows = λ k n. ([], append-nil (row w k)) }

grown_on : (a b c : World) → HasGrown a b → HasGrown b c → HasGrown a c
grown_on a b c f g = record {
  same_group = f.same_group ∙ g.same_group;
  same_vocabulary = f.same_vocabulary ∙ g.same_vocabulary;
  rows = λ k n. let p = f.rows k n in let q = g.rows k (subst (λ (group : Group). IsNumber group k) f.same_group n) in (p.0 ++ q.0, sym (append_assoc (row a k) p.0 q.0) ∙ ap (λ l. l ++ q.0) p.1 ∙ q.1);
}

grown_with : (w : World) (k : ℕ) (m : Message) → IsLawfulWorld w → IsNumber w.group k → HasGrown w (with_message w k m)
grown_with w k m l n = record { same_group = refl; same_vocabulary = refl; rows = λ j i. decide (IsPrefixOf (row w j) (row (with_message w k m) j)) j k (same j) (apart j i) }
  where
    new : Node
    new = record (node w k) { sent = row w k ++ m ∷ [] }

    place : k - 1 < length w.nodes
    place = let a : length w.nodes ≡ w.group.members = l.count in let b : 1 ≤ k = n.low in let c : k ≤ w.group.members = n.high in omega arith

    same : (j : ℕ) → j ≡ k → IsPrefixOf (row w j) (row (with_message w k m) j)
    same j e = subst (λ i. IsPrefixOf (row w i) (row (with_message w k m) i)) (sym e) (m ∷ [], ap (λ (u : Node). u.sent) (sym (get_or-set_same w.nodes (k - 1) new nobody place)))

    apart : (j : ℕ) → IsNumber w.group j → (j ≡ k → ⊥) → IsPrefixOf (row w j) (row (with_message w k m) j)
    apart j i d =
        let a : 1 ≤ j = i.low in let b : 1 ≤ k = n.low in
        ([], append-nil (row w j) ∙ ap (λ (u : Node). u.sent) (sym (get_or-set_other w.nodes (k - 1) (j - 1) new nobody (λ e. d (omega arith)))))

-- ---- And stay lawful

pub set_lawful : (w : World) (sets : List (ℕ × Message)) → IsGroup w.group → IsLawfulWorld w → AreSet w sets → IsLawfulWorld (rows_after w sets)
set_lawful w [] is l a = l
set_lawful w (s ∷ sets) is l a = let p : MaySet w s.0 s.1 = a.0 in set_lawful (with_message w s.0 s.1) sets is (row_grows w s.0 p.by p.moves (next_own p.by) s.1 is l p.has_run p.has_all p.accepted) a.1

pub set_grown : (w : World) (sets : List (ℕ × Message)) → IsGroup w.group → IsLawfulWorld w → AreSet w sets → HasGrown w (rows_after w sets)
set_grown w [] is l a = grown_same w
set_grown w (s ∷ sets) is l a =
    let p : MaySet w s.0 s.1 = a.0 in
    grown_on w (with_message w s.0 s.1) (rows_after (with_message w s.0 s.1) sets) (grown_with w s.0 s.1 l p.has_run.is_number)
    (set_grown (with_message w s.0 s.1) sets is (row_grows w s.0 p.by p.moves (next_own p.by) s.1 is l p.has_run p.has_all p.accepted) a.1)

-- ---- In turn

after-append : (w : World) (sets later : List (ℕ × Message)) → rows_after w (sets ++ later) ≡ rows_after (rows_after w sets) later
after-append w [] later = refl
after-append w (s ∷ sets) later = after-append (with_message w s.0 s.1) sets later

set_first : (w : World) (sets later : List (ℕ × Message)) → AreSet w (sets ++ later) → AreSet w sets
set_first w [] later a = tt
set_first w (s ∷ sets) later a = (a.0, set_first (with_message w s.0 s.1) sets later a.1)

set_then : (w : World) (sets later : List (ℕ × Message)) → AreSet w (sets ++ later) → AreSet (rows_after w sets) later
set_then w [] later a = a
set_then w (s ∷ sets) later a = set_then (with_message w s.0 s.1) sets later a.1

group_after : (w : World) (sets : List (ℕ × Message)) → (rows_after w sets).group ≡ w.group
group_after w [] = refl
group_after w (s ∷ sets) = group_after (with_message w s.0 s.1) sets

-- ---- From the founding on

founding_lawful : (group : Group) (vocabulary : Vocabulary) → IsGroup group → IsLawfulWorld (founding_world group vocabulary)
founding_lawful group vocabulary is = let f = founding_has group vocabulary is in subst IsLawfulWorld f.same (lawful_world group vocabulary f.members f.are_members)

pub founded_lawful : (group : Group) (vocabulary : Vocabulary) (sets : List (ℕ × Message)) → IsGroup group → AreSet (founding_world group vocabulary) sets → IsLawfulWorld (rows_after (founding_world group vocabulary) sets)
founded_lawful group vocabulary sets is a = set_lawful (founding_world group vocabulary) sets is (founding_lawful group vocabulary is) a

module _ (group : Group) (vocabulary : Vocabulary) (sets later : List (ℕ × Message)) where
  abbrev before : World
  before = rows_after (founding_world group vocabulary) sets

  abbrev now : World
  now = rows_after (founding_world group vocabulary) (sets ++ later)

  still_runs : (i : ℕ) (u : Member) (moves : List Move) → IsGroup group → AreSet (founding_world group vocabulary) (sets ++ later) → HasRunInRow before i u moves → HasRunInRow now i u moves
  still_runs i u moves is a r =
      let first = set_first (founding_world group vocabulary) sets later a in
      subst (λ w. HasRunInRow w i u moves) (sym (after-append (founding_world group vocabulary) sets later))
      (run_in_grown before (rows_after before later) i u moves
      (set_grown before later (subst IsGroup (sym (group_after (founding_world group vocabulary) sets)) is) (founded_lawful group vocabulary sets is first) (set_then (founding_world group vocabulary) sets later a)) r)

  group_now : IsGroup group → IsGroup now.group
  group_now is = subst IsGroup (sym (group_after (founding_world group vocabulary) (sets ++ later))) is

  pub told_right : (i : ℕ) (u : Member) (moves : List Move) → IsGroup group → AreSet (founding_world group vocabulary) (sets ++ later) → HasRunInRow before i u moves → IsRight now (node_of u)
  told_right i u moves is a r = let l = founded_lawful group vocabulary (sets ++ later) is a in part_right now l u (part_of_rows now i u moves (group_now is) l (still_runs i u moves is a r))

  pub told_one : (i j : ℕ) (u v : Member) (moves others : List Move) → IsGroup group → AreSet (founding_world group vocabulary) (sets ++ later) → HasRunInRow before i u moves → HasRunInRow now j v others
      → IsPrefixOf u.history v.history ⊎ IsPrefixOf v.history u.history
  told_one i j u v moves others is a r q =
      let l = founded_lawful group vocabulary (sets ++ later) is a in
      one_of_parts now u v l (part_of_rows now i u moves (group_now is) l (still_runs i u moves is a r)) (part_of_rows now j v others (group_now is) l q)
