-- What a process told behind a gate is a first part of what any later rows tell.
use Rattle.std.proofs.Common.{ℕ, ◌≡◌, ◌≢◌, List, [], ◌++◌, refl, sym, ap, subst, ◌∙◌, append-nil, append_assoc}
use Rattle.rbac_terms.specs.Vocabulary.{Vocabulary}
use Rattle.rbac_words.specs.Group.{Group, IsGroup}
use Rattle.rbac_words.specs.World.{World}
use Rattle.rbac_words.specs.Right.{founding_world}
use Rattle.rbac_words.specs.Keeping.Member.{Member, IsMember, IsNumber, founded}
use Rattle.rbac_words.specs.Keeping.Members.{HasReadOf, IsLawfulWorld}
use Rattle.rbac_words.specs.declared.message.Message.{Message}
use Rattle.rbac_moves.specs.Moves.{Move, run}
use Rattle.rbac_moves.specs.Seal.{row, IsGated, HasPartOfRows}
use Rattle.rbac_moves.specs.Rows.{HasGrown, HasRunInRow, rows_after}
use Rattle.rbac_moves.proofs.MoveLemmas.{keeps_made, reads_made, number_run, group_run, vocabulary_run}
use Rattle.rbac_moves.proofs.RowLemmas.{own_gated}
use Rattle.rbac_moves.proofs.RowMoveLemmas.{part_of_rows, run_in_grown}
use Rattle.rbac_moves.proofs.SealMoveLemmas.{reads_longer}
use Rattle.rbac_moves.proofs.RowSetLemmas.{founded_lawful, set_lawful, set_grown}
use Rattle.rbac_embedded_member.specs.Calls.{Call, called, WereTold, WereSet, IsCalledInRow, IsObserved}
use Rattle.rbac_embedded_member.proofs.CallLemmas.{IsMoved, all_moved, are_set, row_moves, run_in_row}
use Rattle.rbac_embedded_member.proofs.ObserverLemmas.{watched_moves, observed_in_row}
use Rattle.rbac_gated.specs.Gate.{IsCalledBehindAGate}

-- a gate stays where the rows go on
gated_on : (w later : World) (v : Member) → HasGrown w later → IsNumber w.group v.number → IsGated w v → IsGated later v
gated_on w later v grown n g =
    let p = grown.rows v.number n in
    record {
      was_set = g.was_set;
      may_be_lost = g.may_be_lost;
      sent = g.sent;
      own = (g.own.0 ++ p.0, sym (append_assoc g.was_set g.own.0 p.0) ∙ ap (λ l. l ++ p.0) g.own.1 ∙ p.1);
      gate = g.gate;
    }

-- ---- One process, and rows that go on from those that it read

module _ (w later : World) (is : IsGroup w.group) (l : IsLawfulWorld later) (grown : HasGrown w later) (number : ℕ) (v : Member) (calls : List Call) (g : IsCalledBehindAGate w number v calls) where
  abbrev start : Member
  start = founded w.group number w.vocabulary

  made : IsMoved start (called start calls) (λ k sent. WereTold k sent calls)
  made = all_moved start calls

  is_run : run start made.moves ≡ v
  is_run = made.is ∙ g.made

  here : v.number ≡ number
  here = ap (λ (u : Member). u.number) (sym is_run) ∙ number_run start made.moves

  kept : IsMember v
  kept = subst IsMember is_run (keeps_made w.group w.vocabulary number made.moves is g.is_number made.allowed)

  same : v.group ≡ later.group
  same = ap (λ (u : Member). u.group) (sym is_run) ∙ group_run start made.moves ∙ grown.same_group

  read_so_far : (k : ℕ) → IsNumber w.group k → (k ≡ number → ⊥) → HasReadOf v k (row w k)
  read_so_far k n other =
      subst (λ u. HasReadOf u k (row w k)) is_run
      (reads_made w.group w.vocabulary number k (row w k) made.moves is g.is_number n.low other made.allowed (made.holds k (row w k) (g.told k n other)))

  read_on : (k : ℕ) → IsNumber later.group k → k ≢ v.number → HasReadOf v k (row later k)
  read_on k n d =
      let before : IsNumber w.group k = subst (λ (group : Group). IsNumber group k) (sym grown.same_group) n in
      let p = grown.rows k before in
      subst (λ sent. HasReadOf v k sent) p.1 (reads_longer v k (row w k) p.0 (read_so_far k before (λ e. d (e ∙ sym here))))

  pub gated_part : HasPartOfRows later v
  gated_part = record {
    kept = kept;
    same_group = same;
    same_vocabulary = ap (λ (u : Member). u.vocabulary) (sym is_run) ∙ vocabulary_run start made.moves ∙ grown.same_vocabulary;
    own = own_gated later l v kept same (gated_on w later v grown (subst (λ n. IsNumber w.group n) (sym here) g.is_number) g.gated);
    read = read_on;
  }

-- ---- From the founding on

module _ (group : Group) (vocabulary : Vocabulary) (sets later : List (ℕ × Message)) (is : IsGroup group) where
  abbrev first : World
  first = founding_world group vocabulary

  abbrev before : World
  before = rows_after first sets

  abbrev now : World
  now = rows_after before later

  module _ (set : WereSet first sets) (then_set : WereSet before later) where
    grown_first : HasGrown first before
    grown_first = set_grown first sets is (founded_lawful group vocabulary [] is tt) (are_set first sets set)

    is_before : IsGroup before.group
    is_before = subst IsGroup grown_first.same_group is

    lawful_before : IsLawfulWorld before
    lawful_before = founded_lawful group vocabulary sets is (are_set first sets set)

    grown_then : HasGrown before now
    grown_then = set_grown before later is_before lawful_before (are_set before later then_set)

    is_now : IsGroup now.group
    is_now = subst IsGroup grown_then.same_group is_before

    pub lawful_now : IsLawfulWorld now
    lawful_now = set_lawful before later is_before lawful_before (are_set before later then_set)

    pub part_before : (i : ℕ) (u : Member) (calls : List Call) → IsCalledBehindAGate before i u calls → HasPartOfRows now u
    part_before i u calls g = gated_part before now is_before lawful_now grown_then i u calls g

    pub part_now : (i : ℕ) (u : Member) (calls : List Call) → IsCalledBehindAGate now i u calls → HasPartOfRows now u
    part_now i u calls g = gated_part now now is_now lawful_now (record { same_group = refl; same_vocabulary = refl; rows = λ k n. ([], append-nil (row now k)) }) i u calls g

    pub part_in_row : (i : ℕ) (u : Member) (calls : List Call) → IsCalledInRow now i u calls → HasPartOfRows now u
    part_in_row i u calls c = part_of_rows now i u (row_moves now i u calls c) is_now lawful_now (run_in_row now i u calls c)

    pub part_observed : (i : ℕ) (u : Member) (calls : List Call) → IsObserved now i u calls → HasPartOfRows now u
    part_observed i u calls c = part_of_rows now i u (watched_moves now i u calls c) is_now lawful_now (observed_in_row now i u calls c)

    -- what stood in the rows before
    stays : (i : ℕ) (u : Member) (moves : List Move) → HasRunInRow before i u moves → HasPartOfRows now u
    stays i u moves r = part_of_rows now i u moves is_now lawful_now (run_in_grown before now i u moves grown_then r)

    pub part_was_in_row : (i : ℕ) (u : Member) (calls : List Call) → IsCalledInRow before i u calls → HasPartOfRows now u
    part_was_in_row i u calls c = stays i u (row_moves before i u calls c) (run_in_row before i u calls c)

    pub part_was_observed : (i : ℕ) (u : Member) (calls : List Call) → IsObserved before i u calls → HasPartOfRows now u
    part_was_observed i u calls c = stays i u (watched_moves before i u calls c) (observed_in_row before i u calls c)
