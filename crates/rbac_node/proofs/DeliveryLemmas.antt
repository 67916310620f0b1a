-- Deliveries, one after the other.
use Rattle.std.proofs.Common.{ℕ, suc, true, ◌≡◌, ◌+◌, length, refl, sym, ap, ◌∙◌, arith, Option, None, Some, is_some}
use Rattle.std.proofs.lemmas.List.{length_push}
use Rattle.rbac_words.specs.World.{place_of}
use Rattle.rbac_words.specs.Keeping.Member.{Member, node_of, due_at, delivery, deliver_due}
use Rattle.rbac_words.specs.declared.message.Submission.{Submission}
use Rattle.rbac_node.specs.Node.{NodeState, with_own_member, AreDeliveries}

-- what so many deliveries left of a node, and how many records they gave
pub record AreDelivered (first n : NodeState) : Type 0 where
  pub same : n ≡ with_own_member first n.member
  pub given : ℕ
  pub deliveries : AreDeliveries given first.member n.member
  pub records : length n.member.history ≡ length first.member.history + given

-- a place is answered where a command is due
due_where_placed : (v : Member) (o : Option Submission) (place : Option ℕ) → place ≡ place_of (node_of v) o → is_some place ≡ true → is_some o ≡ true
due_where_placed v None place e is = let no : ⊥ = cc in absurd no
due_where_placed v (Some x) place e is = refl

one_record : (v : Member) (o : Option Submission) → is_some o ≡ true → length (deliver_due v o).history ≡ length v.history + 1
one_record v None is = let no : ⊥ = cc in absurd no
one_record v (Some x) is = length_push v.history (delivery v x)

pub delivered_more : (first n new : NodeState) (place : Option ℕ) → AreDelivered first n → place ≡ place_of (node_of n.member) (due_at n.member) → is_some place ≡ true → new ≡ with_own_member n (deliver_due n.member (due_at n.member))
    → AreDelivered first new
delivered_more first n new place so_far placed is delivered =
    let v : Member = n.member in
    let due : is_some (due_at v) ≡ true = due_where_placed v (due_at v) place placed is in
    let after : new.member ≡ deliver_due v (due_at v) = ap (λ (m : NodeState). m.member) delivered in
    record {
      same = delivered ∙ ap (λ m. with_own_member m (deliver_due v (due_at v))) so_far.same ∙ ap (with_own_member first) (sym after);
      given = suc so_far.given;
      deliveries = (v, so_far.deliveries, due, after);
      records = let given : length v.history ≡ length first.member.history + so_far.given = so_far.records in
          let one : length new.member.history ≡ length v.history + 1 = ap (λ (w : Member). length w.history) after ∙ one_record v (due_at v) due in omega arith;
    }
