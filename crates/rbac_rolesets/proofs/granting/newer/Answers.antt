use Rattle.std.proofs.Common.{◌≡◌, cond, true, false, ap, sym, ◌∙◌}
use Rattle.std.specs.Ordering.{eq_by_cmp, is_eq}
use Rattle.hashed_keys.specs.Pairs.{seconds}
use Rattle.hashed_keys.proofs.PairSeconds.{seconds-replaced}
use Rattle.rbac_terms.specs.Name.{pair_cmp}
use Rattle.rbac_terms.proofs.NameLemmas.{names_total, names_exact, pairs_total, pairs_exact}
use Rattle.rbac_rolesets.proofs.granting.newer.Goals as goal

pub returns-then-is_eq : goal.returns-then-is_eq
returns-then-is_eq c = λ before sorted same.
    let asked = c.args.asked.now in
    let roles = c.args.roles.now in
    let here : eq_by_cmp pair_cmp asked c.args.permission.now ≡ true = ap is_eq (sym c.cmp.ensures) ∙ sym c.is_eq.ensures ∙ c.if-is_eq.true in
    ap (λ t. cond t roles (seconds pair_cmp asked before.granted)) (sym here)
    ∙ sym (seconds-replaced pairs_total names_total pairs_exact names_exact asked c.args.permission.now roles before.granted sorted c.keys-roles.ensures.in_order)

pub returns-else-is_eq : goal.returns-else-is_eq
returns-else-is_eq c = λ before sorted same.
    let asked = c.args.asked.now in
    let roles = c.args.roles.now in
    let other : eq_by_cmp pair_cmp asked c.args.permission.now ≡ false = ap is_eq (sym c.cmp.ensures) ∙ sym c.is_eq.ensures ∙ c.if-is_eq.false in
    same
    ∙ ap (λ t. cond t roles (seconds pair_cmp asked before.granted)) (sym other)
    ∙ sym (seconds-replaced pairs_total names_total pairs_exact names_exact asked c.args.permission.now roles before.granted sorted c.keys-roles.ensures.in_order)
