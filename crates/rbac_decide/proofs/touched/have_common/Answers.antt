use Rattle.std.proofs.Common.{List, ap, ◌∙◌}
use Rattle.rbac_decide.proofs.Common.{list_any, has, Name, name_cmp}
use Rattle.rbac_decide.proofs.TouchedLemmas.{in_common}
use Rattle.rbac_decide.proofs.touched.have_common.Goals as goal

pub returns-then-len : goal.returns-then-len
returns-then-len c =
    let names = c.args.names.now in
    c.some_among.ensures
    ∙ ap (λ (sought : List Name). list_any (λ r. has name_cmp r names) sought) c.names.ensures.names
    ∙ in_common c.args.others.now names
