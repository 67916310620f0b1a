use Rattle.std.proofs.Common.{rules, ◌≡◌, ◌≤◌, ◌+◌, ◌-◌, ◌++◌, length, map, take, drop, ap, sym, ◌∙◌, subst, arith}
use Rattle.std.proofs.lemmas.List.{drop-take, length-map}
use Rattle.rbac_board.specs.Seen.{Seen}
use Rattle.rbac_board.specs.Known.{Known, IsOf}
use Rattle.rbac_board.proofs.RowLemmas.{of_more}
use Rattle.rbac_board.proofs.mark.Mark.learn.Goals as goal

pub returns-in_ok-reserve-clause-of : goal.returns-in_ok-reserve-clause-of
returns-in_ok-reserve-clause-of g c =
    λ row of also.
    let mine = c.self.view_is ∙ c.agree.ensures.unchanged in
    let theirs = c.other.view_is ∙ c.agree.ensures.other_unchanged in
    let xs = c.self.inside.sights.items in
    let ys = c.other.inside.sights.items in
    let n = length xs in
    let count = c.args.count in
    let known : c.len-known.result ≡ n = search rules in
    let low : n ≤ count = omega arith in
    let all : length (map (λ (s : Seen g.row.T.Denot). s.value) ys) ≡ length ys = length-map ys (λ (s : Seen g.row.T.Denot). s.value) in
    let given : count ≤ length (map (λ (s : Seen g.row.T.Denot). s.value) ys) = subst (λ (k : Known g.row.T.Denot). count ≤ length k.values) (sym theirs) c.requires.known in
    let high : count ≤ length ys = omega arith in
    let places : n + (count - n) ≡ count = omega arith in
    let more : take (count - n) (drop n ys) ≡ drop n (take count ys) = sym (drop-take n (count - n) ys) ∙ ap (λ k. drop n (take k ys)) places in
    let added : c.add_all.new.sights.items ≡ xs ++ drop n (take count ys) = rw (c.add_all.ensures.added, known, c.deref_mut.ensures.value, c.reserve.ensures.items) (ap (λ l. xs ++ l) more) in
    rw added (of_more row xs ys count low high (subst (IsOf row) (sym mine) of) (subst (IsOf row) (sym theirs) also))
