use Rattle.rbac_board.proofs.AddressLemmas.{length-addresses}
use Rattle.rbac_board.proofs.row.Row.found.Goals as goal

pub returns : goal.returns
returns g c = length-addresses _ _
