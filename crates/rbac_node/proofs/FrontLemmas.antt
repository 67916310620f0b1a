-- Beginnings of legal fronts, and what stands in them.
use Rattle.std.proofs.Common.{ℕ, zero, suc, Bool, true, false, nat_le, ◌≡◌, ◌≤◌, ◌<◌, ◌+◌, max, List, [], ◌∷◌, ◌++◌, length, map, take, drop, slice_get, Some, refl, sym, ap, subst, ◌∙◌, arith, length-append}
use Rattle.std.specs.List.{filter}
use Rattle.std.proofs.lemmas.List.{map-append, take-append-drop}
use Rattle.std.proofs.lemmas.List.Elements.{filter-append}
use Rattle.std.proofs.lemmas.Bool.Decides.{nat_tests}
use Rattle.rbac_terms.specs.State.{State}
use Rattle.rbac_terms.specs.Effect.{effect, reply}
use Rattle.rbac_terms.specs.Replay.{replies}
use Rattle.rbac_words.specs.Stamp.{IsRising}
use Rattle.rbac_words.specs.Message.{submitted_at, submission_of, commands_of, is_by, CountsFrom}
use Rattle.rbac_words.specs.Front.{IsLegalFront, command_of, is_of}
use Rattle.rbac_words.specs.Play.{IsPrefixOf}
use Rattle.rbac_terms.specs.declared.answer.Answer.{Answer}
use Rattle.rbac_words.specs.declared.record.Record.{Record}
use Rattle.sorted_keys.proofs.Lists.{cons_head, cons_tail, filter-yes}
use Rattle.rbac_order.proofs.StampLemmas.{Rising-left}
use Rattle.rbac_order.proofs.MessageLemmas.{CountsFrom-left, CountsFrom-next}
use Rattle.rbac_order.proofs.SenderLemmas.{is_of-yes}
use Rattle.rbac_board.specs.Known.{Agree}
use Rattle.rbac_board.proofs.AgreementLemmas.{goes_on_where_longer}
use Rattle.rbac_node.proofs.PrefixLemmas.{prefix_trans}
use Rattle.rbac_node.proofs.LearnedLemmas.{whole_beginning, stands_in_whole, agree_at}
use Rattle.rbac_node.specs.Pass.{TicketState, Reaches, calls_of, answered_with}

-- ---- A beginning of a legal front is one

-- the commands of a caller of a member in two parts of a history
calls_of-append : (member caller : ℕ) (xs ys : List Record) → calls_of member caller (xs ++ ys) ≡ calls_of member caller xs ++ calls_of member caller ys
calls_of-append member caller xs ys =
    ap (λ l. filter (is_by caller) (filter (is_of member) l)) (map-append submission_of xs ys)
    ∙ ap (filter (is_by caller)) (filter-append (is_of member) (commands_of xs) (commands_of ys))
    ∙ filter-append (is_by caller) (filter (is_of member) (commands_of xs)) (filter (is_of member) (commands_of ys))

-- the answers of a first part are the replies to its commands
answered-left : (s : State) (xs ys : List Record) → map (λ (r : Record). r.answer) (xs ++ ys) ≡ replies s (map command_of (commands_of (xs ++ ys))) → map (λ (r : Record). r.answer) xs ≡ replies s (map command_of (commands_of xs))
answered-left s [] ys e = refl
answered-left s (x ∷ xs) ys e =
    let first : x.answer ≡ reply x.command s = cons_head x.answer (reply x.command s) _ _ e in
    let rest : map (λ (r : Record). r.answer) xs ≡ replies (effect x.command s) (map command_of (commands_of xs)) = answered-left (effect x.command s) xs ys (cons_tail x.answer (reply x.command s) _ _ e) in
    cc rest

legal-left : (s : State) (xs ys : List Record) → IsLegalFront s (xs ++ ys) → IsLegalFront s xs
legal-left s xs ys legal = record {
  rising = Rising-left submitted_at (commands_of xs) (commands_of ys) (subst (IsRising submitted_at) (map-append submission_of xs ys) legal.rising);
  answered = answered-left s xs ys legal.answered;
  serials = λ member caller. CountsFrom-left 0 (calls_of member caller xs) (calls_of member caller ys) (subst (CountsFrom 0) (calls_of-append member caller xs ys) (legal.serials member caller));
}

pub legal_beginning : (s : State) (xs zs : List Record) → IsPrefixOf xs zs → IsLegalFront s zs → IsLegalFront s xs
legal_beginning s xs zs begins legal = legal-left s xs begins.0 (subst (IsLegalFront s) (sym begins.1) legal)

-- ---- A command that stands in a legal front

-- the commands of a record's caller in that record alone
own_call : (r : Record) → calls_of r.stamp.member r.caller (r ∷ []) ≡ submission_of r ∷ []
own_call r =
    ap (filter (is_by r.caller)) (filter-yes (is_of r.stamp.member) (submission_of r) [] (is_of-yes r.stamp.member (submission_of r) refl))
    ∙ filter-yes (is_by r.caller) (submission_of r) [] (grind (arith, nat_tests))

-- up to a record its caller's commands are as many as the next serial
counted_up_to : (s : State) (xs : List Record) (r : Record) → IsLegalFront s (xs ++ r ∷ []) → length (calls_of r.stamp.member r.caller (xs ++ r ∷ [])) ≡ r.serial + 1
counted_up_to s xs r legal =
    let parts : calls_of r.stamp.member r.caller (xs ++ r ∷ []) ≡ calls_of r.stamp.member r.caller xs ++ submission_of r ∷ [] =
    calls_of-append r.stamp.member r.caller xs (r ∷ []) ∙ ap (λ l. calls_of r.stamp.member r.caller xs ++ l) (own_call r) in
    let next : r.serial ≡ 0 + length (calls_of r.stamp.member r.caller xs) =
    CountsFrom-next 0 (calls_of r.stamp.member r.caller xs) (submission_of r) [] (subst (CountsFrom 0) parts (legal.serials r.stamp.member r.caller)) in
    ap length parts ∙ length-append (calls_of r.stamp.member r.caller xs) (submission_of r ∷ []) ∙ (omega arith)

-- the records up to a place end with the one that stands there
up_to_place : (xs : List Record) (i : ℕ) (r : Record) → slice_get xs i ≡ Some r → take (suc i) xs ≡ take i xs ++ r ∷ []
up_to_place [] i r e = absurd (cc e)
up_to_place (x ∷ xs) zero r e = cc e
up_to_place (x ∷ xs) (suc i) r e = ap (λ l. x ∷ l) (up_to_place xs i r e)

-- ---- A front that goes on by what a node published

-- a front knows what it knew, and so many of the published records
pub record GoesOn (published : List Record) (count : ℕ) (old new : List Record) : Type 0 where
  pub begins : IsPrefixOf old new
  pub long : length new ≡ max (length old) count
  pub agree : Agree new published
  pub within : count ≤ length published

-- where it was legal, and what was published begins a legal front, it is legal
pub legal_on : (s : State) (published : List Record) (count : ℕ) (old new history : List Record) → GoesOn published count old new → IsPrefixOf published history → IsLegalFront s old → IsLegalFront s history → IsLegalFront s new
legal_on s published count old new history on begins was legal = go (nat_le (length new) (length published)) refl
  where
    go : (b : Bool) → nat_le (length new) (length published) ≡ b → IsLegalFront s new
    go true e =
        let short : length new ≤ length published = grind (arith, nat_tests) in
        legal_beginning s new history (prefix_trans new published history (goes_on_where_longer new published on.agree short) begins) legal
    go false e =
        let long : length published < length new = grind (arith, nat_tests) in
        let size : length new ≡ max (length old) count = on.long in
        let within : count ≤ length published = on.within in
        subst (IsLegalFront s) (sym (whole_beginning old new on.begins (omega arith))) was

-- a published record stands in it
pub stands_on : (published : List Record) (count : ℕ) (old new history : List Record) (place : ℕ) (r : Record) → GoesOn published count old new → IsPrefixOf published history → place < count → slice_get history place ≡ Some r → slice_get new place ≡ Some r
stands_on published count old new history place r on begins there e =
    let size : length new ≡ max (length old) count = on.long in
    let within : count ≤ length published = on.within in
    agree_at new published place on.agree (omega arith) (omega arith) ∙ sym (stands_in_whole published history place begins (omega arith)) ∙ e

-- a legal front that goes on to a ticket's call reaches it
pub reaches : (s : State) (old new : List Record) (t : TicketState) (place : ℕ) (answer : Answer) → IsLegalFront s new → IsPrefixOf old new → length new ≡ max (length old) (place + 1)
    → slice_get new place ≡ Some (answered_with t.call answer) → t.seen ≤ place → Reaches old t place answer new
reaches s old new t place answer legal begins long stands later =
    let r : Record = answered_with t.call answer in
    let first : IsLegalFront s (take (place + 1) new) = legal-left s (take (place + 1) new) (drop (place + 1) new) (subst (IsLegalFront s) (sym (take-append-drop (place + 1) new)) legal) in
    let ends : take (place + 1) new ≡ take place new ++ r ∷ [] = ap (λ n. take n new) (let n : place + 1 ≡ suc place = omega arith in n) ∙ up_to_place new place r stands in record {
      begins = begins;
      long = long;
      stands = stands;
      later = later;
      in_order = first.serials t.call.stamp.member t.call.caller;
      all = subst (λ l. length (calls_of t.call.stamp.member t.call.caller l) ≡ t.call.serial + 1) (sym ends) (counted_up_to s (take place new) r (subst (IsLegalFront s) ends first));
    }
