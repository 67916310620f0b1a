-- The marks that a node reads by.
use Rattle.std.proofs.Common.{ℕ, ◌≡◌, ◌≤◌, ◌<◌, ◌+◌, ◌-◌, List, [], length, map, set, get_or, length-set, get_or-set_same, get_or-set_other, refl, sym, ap, subst, ◌∙◌, arith}
use Rattle.std.proofs.lemmas.List.{get_or-map, map-set, set-get_or}
use Rattle.rbac_words.specs.Play.{IsPrefixOf}
use Rattle.rbac_words.specs.declared.message.Message.{Message}
use Rattle.rbac_order.proofs.SenderLemmas.{decide}
use Rattle.rbac_board.specs.Known.{Known, IsOf}
use Rattle.rbac_node.specs.Cells.{Cells, sent_cells}
use Rattle.rbac_node.specs.Inside.{AreReads}
use Rattle.rbac_node.specs.Node.{NodeState, SeesMore, seen_of}
use Rattle.rbac_node.proofs.PrefixLemmas.{prefix_self}

-- one mark changed, for another of the same row
pub reads_set : (c : Cells) (members : ℕ) (marks : List (Known Message)) (from : ℕ) (new : Known Message) → AreReads c members marks → 1 ≤ from → from ≤ members → IsOf (sent_cells c from) new → AreReads c members (set marks (from - 1) new)
reads_set c members marks from new are low high of = record {
  count = length-set marks (from - 1) new ∙ are.count;
  rows = λ k d l h.
      decide (IsOf (sent_cells c k) (get_or (set marks (from - 1) new) (k - 1) d)) k from
      (λ e. subst (λ j. IsOf (sent_cells c j) (get_or (set marks (from - 1) new) (j - 1) d)) (sym e)
      (subst (IsOf (sent_cells c from)) (sym (get_or-set_same marks (from - 1) new d (let count : length marks ≡ members = are.count in omega arith))) of))
      (λ apart. subst (IsOf (sent_cells c k)) (sym (get_or-set_other marks (from - 1) (k - 1) new d (λ e. apart (omega arith)))) (are.rows k d l h));
}

-- ---- What a node sees by its marks

abbrev pub known_by : List (Known Message) → List (List Message)
known_by marks = map (λ m. m.values) marks

-- this is the mark of member k
pub record IsMarkOf (marks : List (Known Message)) (k : ℕ) (mark : Known Message) : Type 0 where
  pub low : 1 ≤ k
  pub high : k ≤ length marks
  pub is : mark ≡ get_or marks (k - 1) mark

module _ (n : NodeState) (marks : List (Known Message)) (reads : n.reads ≡ known_by marks) (k : ℕ) (mark : Known Message) (of : IsMarkOf marks k mark) where
  at : k - 1 < length marks
  at = let low : 1 ≤ k = of.low in let high : k ≤ length marks = of.high in omega arith

  pub seen_by : seen_of n k ≡ mark.values
  seen_by =
      ap (λ (l : List (List Message)). get_or l (k - 1) []) reads
      ∙ get_or-map (λ (m : Known Message). m.values) marks (k - 1) mark [] at
      ∙ ap (λ (m : Known Message). m.values) (sym of.is)

  -- the mark is put back as it was
  pub put_back : (same : Known Message) → same ≡ mark → set marks (k - 1) same ≡ marks
  put_back same e = ap (set marks (k - 1)) (e ∙ of.is) ∙ set-get_or marks (k - 1) mark

  -- the mark knows more
  module _ (new : Known Message) where
    abbrev after : NodeState
    after = record n { reads = known_by (set marks (k - 1) new) }

    pub seen_there : seen_of after k ≡ new.values
    seen_there =
        get_or-map (λ (m : Known Message). m.values) (set marks (k - 1) new) (k - 1) mark [] (let l : length (set marks (k - 1) new) ≡ length marks = length-set marks (k - 1) new in omega (arith, at))
        ∙ ap (λ (m : Known Message). m.values) (get_or-set_same marks (k - 1) new mark at)

    pub seen_elsewhere : (j : ℕ) → 1 ≤ j → (j ≡ k → ⊥) → seen_of after j ≡ seen_of n j
    seen_elsewhere j low apart =
        ap (λ (l : List (List Message)). get_or l (j - 1) []) (map-set (λ (m : Known Message). m.values) marks (k - 1) new)
        ∙ get_or-set_other (known_by marks) (k - 1) (j - 1) new.values [] (λ e. apart (let first : 1 ≤ k = of.low in omega arith))
        ∙ ap (λ (l : List (List Message)). get_or l (j - 1) []) (sym reads)

    begins_there : IsPrefixOf mark.values new.values → IsPrefixOf (seen_of n k) (seen_of after k)
    begins_there begins = subst (λ (l : List Message). IsPrefixOf l (seen_of after k)) (sym seen_by) (subst (IsPrefixOf mark.values) (sym seen_there) begins)

    pub sees_more : IsPrefixOf mark.values new.values → length new.values ≤ length mark.values + 1 → SeesMore k n after
    sees_more begins one = record {
      same = refl;
      others = seen_elsewhere;
      more = begins_there begins;
      one = let before : length (seen_of n k) ≡ length mark.values = ap length seen_by in let now : length (seen_of after k) ≡ length new.values = ap length seen_there in omega arith;
    }

    -- of each member it knows what it knew, and more
    pub known_still : IsPrefixOf mark.values new.values → (j : ℕ) → 1 ≤ j → IsPrefixOf (seen_of n j) (seen_of after j)
    known_still begins j low =
        decide (IsPrefixOf (seen_of n j) (seen_of after j)) j k
        (λ e. subst (λ (i : ℕ). IsPrefixOf (seen_of n i) (seen_of after i)) (sym e) (begins_there begins))
        (λ apart. subst (IsPrefixOf (seen_of n j)) (sym (seen_elsewhere j low apart)) (prefix_self (seen_of n j)))
