use Rattle.std.proofs.Common.{◌≤◌, List, length, ap}
use Rattle.std.proofs.lemmas.Result.{on_err_weaker}
use Rattle.rbac_words.specs.declared.record.Record.{Record}
use Rattle.rbac_board.specs.Known.{Known, Agree}
use Rattle.rbac_node.proofs.KeptLemmas.{on_both}
use Rattle.rbac_node.proofs.LearnedLemmas.{learned, learned_agree}
use Rattle.rbac_node.proofs.node.Node.show.Goals as goal

pub returns-clause-agree : goal.returns-clause-agree
returns-clause-agree g c =
    let front = c.args.front.now.values in
    let published = c.self.inside.history.values in
    let within : c.args.count ≤ length published = rw (← c.self.view_is) at c.requires.published in
    let all : Agree c.learn.new.self.values published =
    on_both c.learn.result (λ (known : List Record). Agree known published) front c.learn.new.self.values (learned front published c.args.count) c.learn.ensures.learned
    (on_err_weaker c.learn.result (ap (λ (k : Known Record). k.values)) c.learn.ensures.unchanged) c.learn.ensures.agree (learned_agree front published c.args.count c.learn.ensures.agree within) in
    rw (← c.self.view_is) all
