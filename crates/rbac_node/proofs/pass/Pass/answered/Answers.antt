use Rattle.std.proofs.Common.{◌≡◌, ◌≤◌, ◌<◌, ◌+◌, List, Some, slice_get, get_or, refl, sym, ap, subst, ◌∙◌, arith}
use Rattle.std.proofs.lemmas.Option.{get_or_from_slice_get}
use Rattle.rbac_terms.specs.State.{founding_state}
use Rattle.rbac_words.specs.Front.{IsLegalFront}
use Rattle.rbac_terms.specs.declared.answer.Answer.{Answer}
use Rattle.rbac_words.specs.declared.record.Record.{Record}
use Rattle.rbac_board.specs.Known.{IsOf}
use Rattle.rbac_node.specs.Cells.{history_cells}
use Rattle.rbac_node.specs.Pass.{TicketState, answered_with, Reaches}
use Rattle.rbac_node.proofs.FrontLemmas.{GoesOn, legal_on, stands_on, reaches}
use Rattle.rbac_node.proofs.pass.Pass.answered.Goals as goal

goes_on : (g : _) (c : goal.After-result-1 g) → GoesOn c.args.node.now.history (c.in-Some.place + 1) c.self.inside.front.values c.show.new.front.values
goes_on g c = record {
  begins = c.show.ensures.begins;
  long = c.in_ok-show.ensures.long;
  agree = c.show.ensures.agree;
  within = let there : c.in-Some.place < c.published_records-published.result = c.in-Some.ensures.1 in omega arith;
}

is_legal : (g : _) (c : goal.After-result-1 g) → IsLegalFront (founding_state g.G.GroupName.vocabulary) c.show.new.front.values
is_legal g c =
    legal_on (founding_state g.G.GroupName.vocabulary) c.args.node.now.history (c.in-Some.place + 1) c.self.inside.front.values c.show.new.front.values c.args.node.now.member.history
    (goes_on g c) c.invariants.ensures.kept.shown.history c.self.invariant.1
    (subst (λ vocabulary. IsLegalFront (founding_state vocabulary) c.args.node.now.member.history) c.invariants.ensures.vocabulary c.invariants.ensures.kept.member.front)

pub invariant_of-self-2 : goal.invariant_of-self-2
invariant_of-self-2 g c =
    let same : c.args.node.now.member.number ≡ c.self.inside.member = cc in
    (subst (λ number. IsOf (history_cells g.G.GroupName.cells number) c.show.new.front) same c.show.ensures.of, is_legal g c)

pub returns-clause-answered : goal.returns-clause-answered
returns-clause-answered g c =
    let place = c.in-Some.place in
    let history = c.args.node.now.member.history in
    let t : TicketState = record { call = c.ticket.inside.call; seen = c.ticket.inside.seen } in
    let r : Record = c.index-history-place.result in
    let searched : c.history.result.now ≡ history = cc in
    let read : c.history-2.result.now ≡ history = cc in
    let found : slice_get history place ≡ Some (answered_with t.call c.in-Some.ensures.2.0) = subst (λ (l : List Record). slice_get l place ≡ Some (answered_with t.call c.in-Some.ensures.2.0)) searched c.in-Some.ensures.2.1 in
    let same : get_or c.history-2.result.now place r ≡ answered_with t.call c.in-Some.ensures.2.0 =
    get_or_from_slice_get c.history-2.result.now place (answered_with t.call c.in-Some.ensures.2.0) r
    (subst (λ (l : List Record). slice_get l place ≡ Some (answered_with t.call c.in-Some.ensures.2.0)) (sym read) found) in
    let answer : c.in-Some.ensures.2.0 ≡ c.in_ok-answer.answer = ap (λ (x : Record). x.answer) (sym same) ∙ sym c.in_ok-answer.ensures in
    let stands : slice_get history place ≡ Some (answered_with t.call c.in_ok-answer.answer) = subst (λ (a : Answer). slice_get history place ≡ Some (answered_with t.call a)) answer found in
    let later : t.seen ≤ place = let from : c.ticket.inside.searched ≤ place = c.in-Some.ensures.0 in omega arith in
    let on = goes_on g c in
    let all : Reaches c.self.inside.front.values t place c.in_ok-answer.answer c.show.new.front.values =
    reaches (founding_state g.G.GroupName.vocabulary) c.self.inside.front.values c.show.new.front.values t place c.in_ok-answer.answer (is_legal g c) on.begins on.long
    (stands_on c.args.node.now.history (place + 1) c.self.inside.front.values c.show.new.front.values history place (answered_with t.call c.in_ok-answer.answer) on c.invariants.ensures.kept.shown.history (omega arith) stands) later in
    rw (← c.self.view_is, ← c.ticket.view_is) (record { front = all; rest = refl })
