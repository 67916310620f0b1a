use Rattle.std.proofs.Common.{◌≤◌, length, arith}
use Rattle.rbac_words.specs.Play.{IsPrefixOf}
use Rattle.rbac_board.proofs.AgreementLemmas.{goes_on_where_longer}
use Rattle.rbac_node.proofs.PrefixLemmas.{prefix_trans}
use Rattle.rbac_node.proofs.node.Node.confirms.Goals as goal

pub returns-clause-begins : goal.returns-clause-begins
returns-clause-begins g c =
    λ _.
    let front = c.pass.inside.front.values in
    let published = c.self.inside.history.values in
    let shorter : length front ≤ length published = omega arith in
    let first : IsPrefixOf front published = goes_on_where_longer front published c.agree.ensures.agree shorter in
    let all : IsPrefixOf front c.self.inside.member.history = prefix_trans front published c.self.inside.member.history first c.self.invariant.shown.history in
    rw (← c.self.view_is, ← c.pass.view_is) all
