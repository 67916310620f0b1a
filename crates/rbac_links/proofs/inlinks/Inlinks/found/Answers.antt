use Rattle.std.proofs.Common.{◌≤◌, min, None, arith}
use Rattle.std.proofs.lemmas.List.{take-replicate}
use Rattle.rbac_links.proofs.inlinks.Inlinks.found.Goals as goal

pub returns : goal.returns
returns c =
    let members = min c.args.members 8 in
    let few : members ≤ 8 = omega arith in
    rw c.min.ensures (λ i. record { me = c.args.me; read = take-replicate members 8 0 few i; latest = take-replicate members 8 None few i })
