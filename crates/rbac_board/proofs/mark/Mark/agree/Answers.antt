use Rattle.std.proofs.Common.{rules}
use Rattle.rbac_board.specs.Known.{Agree}
use Rattle.rbac_board.proofs.AgreementLemmas.{begins_where_shorter}
use Rattle.rbac_board.proofs.mark.Mark.agree.Goals as goal

pub returns-clause-beginning : goal.returns-clause-beginning
returns-clause-beginning g c =
    let agree : Agree c.args.self.now.values c.args.other.now.values = search rules in
    begins_where_shorter c.args.self.now.values c.args.other.now.values agree
