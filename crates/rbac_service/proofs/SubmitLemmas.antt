-- What a node's first refusal of a pass says of the pass.
use Rattle.std.proofs.Common.{Bool, true, false, cond, not, nat_le, ◌≡◌, ◌≢◌, ◌==◌, ◌||◌, Option, Some, None, refl, ap, arith}
use Rattle.std.proofs.lemmas.Bool.{eqb-true}
use Rattle.rbac_terms.specs.Vocabulary.{Vocabulary}
use Rattle.rbac_words.specs.Group.{Group}
use Rattle.rbac_words.specs.World.{submit_refusal}
use Rattle.rbac_words.specs.declared.stamp.Stamp.{Stamp}
use Rattle.rbac_words.specs.Keeping.Member.{IsNumber, node_of}
use Rattle.rbac_node.specs.Node.{NodeState}
use Rattle.rbac_node.specs.Pass.{PassState, pass_refusal}
use Rattle.rbac_node.specs.Told.{if_told}
use Rattle.rbac_node.specs.declared.refusal.ServiceRefusal.{ServiceRefusal}
use Rattle.rbac_node.specs.declared.refusal.ServiceRefusal.TheVariants as refused
use Rattle.rbac_service.specs.Submit.{IsOfFounding, IsSubmitted, IsNotSubmitted}

-- ---- The three tests before the member's own

abbrev first_of_tests : Bool → Bool → Bool → Option ServiceRefusal → Option ServiceRefusal
first_of_tests stopped waiting foreign rest = cond stopped (Some refused.Stopped) (cond waiting (Some refused.Busy) (cond foreign (Some refused.Foreign) rest))

no_test_holds : (stopped waiting foreign : Bool) (rest : Option ServiceRefusal) → first_of_tests stopped waiting foreign rest ≡ None → (waiting ≡ false) × (foreign ≡ false)
no_test_holds true waiting foreign rest e = cc
no_test_holds false true foreign rest e = cc
no_test_holds false false true rest e = cc
no_test_holds false false false rest e = (refl, refl)

another_refusal : (stopped waiting foreign : Bool) (rest : Option ServiceRefusal) (refusal : ServiceRefusal) → first_of_tests stopped waiting foreign rest ≡ Some refusal → refusal ≢ refused.Stopped → refusal ≢ refused.Busy
    → (waiting ≡ false) × (refusal ≢ refused.Foreign → foreign ≡ false)
another_refusal true waiting foreign rest refusal e s b = absurd (s (cc))
another_refusal false true foreign rest refusal e s b = absurd (b (cc))
another_refusal false false true rest refusal e s b = (refl, λ f. absurd (f (cc)))
another_refusal false false false rest refusal e s b = (refl, λ f. refl)

-- whether the pass is of another member or another caller than the node knows
abbrev is_foreign : NodeState → PassState → Bool
is_foreign n p = not (n.member.number == p.member) || nat_le n.next_caller p.caller

abbrev own_refusal : NodeState → PassState → Option ServiceRefusal
own_refusal n p = if_told (submit_refusal n.member.group (node_of n.member) p.caller p.next 1)

first_part : (a b : Bool) → (not a || b) ≡ false → a ≡ true
first_part true b e = refl
first_part false b e = cc

of_a_member : (g : Group) (v : Vocabulary) (n : NodeState) (p : PassState) → IsOfFounding g v n → is_foreign n p ≡ false → IsNumber g p.member
of_a_member g v n p is own =
    let same : n.member.number ≡ p.member = eqb-true n.member.number p.member (first_part (n.member.number == p.member) (nat_le n.next_caller p.caller) own) in
    let members : n.member.group.members ≡ g.members = ap (λ (it : Group). it.members) is.group in
    record { low = omega (arith, is.kept.member.low); high = omega (arith, is.kept.member.high) }

-- ---- What a submit tells of its pass

pub submitted_tells : (g : Group) (v : Vocabulary) (p : PassState) (s : Stamp) → IsSubmitted g v p s → (p.is_waiting ≡ false) × IsNumber g p.member
submitted_tells g v p s h =
    let facts = no_test_holds h.node.is_stopped p.is_waiting (is_foreign h.node p) (own_refusal h.node p) h.accepted in
    (facts.0, of_a_member g v h.node p h.founding facts.1)

first_tells : (g : Group) (v : Vocabulary) (p : PassState) (refusal : ServiceRefusal) (n : NodeState) → IsOfFounding g v n → pass_refusal n p ≡ Some refusal → refusal ≢ refused.Stopped → refusal ≢ refused.Busy
    → (p.is_waiting ≡ false) × (refusal ≢ refused.Foreign → IsNumber g p.member)
first_tells g v p refusal n is e s b =
    let facts = another_refusal n.is_stopped p.is_waiting (is_foreign n p) (own_refusal n p) refusal e s b in
    (facts.0, λ f. of_a_member g v n p is (facts.1 f))

pub refusal_tells : (g : Group) (v : Vocabulary) (p : PassState) (refusal : ServiceRefusal) → IsNotSubmitted g v p refusal → refusal ≢ refused.Stopped → refusal ≢ refused.Busy
    → (p.is_waiting ≡ false) × (refusal ≢ refused.Foreign → IsNumber g p.member)
refusal_tells g v p refused.Stopped h s b = absurd (s refl)
refusal_tells g v p refused.Busy h s b = absurd (b refl)
refusal_tells g v p refused.ClockFull h s b = first_tells g v p refused.ClockFull h.node h.founding (h.first (λ e. cc)) s b
refusal_tells g v p refused.SentFull h s b = first_tells g v p refused.SentFull h.node h.founding (h.first (λ e. cc)) s b
refusal_tells g v p refused.Foreign h s b = first_tells g v p refused.Foreign h.node h.founding (h.first (λ e. cc)) s b
refusal_tells g v p refused.NoMemory h s b =
    let facts = no_test_holds h.node.is_stopped p.is_waiting (is_foreign h.node p) (own_refusal h.node p) (h.memory refl) in
    (facts.0, λ f. of_a_member g v h.node p h.founding facts.1)
