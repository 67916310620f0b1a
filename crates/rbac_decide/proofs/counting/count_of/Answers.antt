use Rattle.std.proofs.Common.{◌≡◌, false, sym}
use Rattle.rbac_decide.proofs.Common.{Name, name_cmp, RoleSet, is_broken_by, authorized_by, each_found, none_passes}
use Rattle.rbac_decide.proofs.counting.count_of.Goals as goal

pub count_in-requires : goal.count_in-requires
count_in-requires c =
    let test = authorized_by c.args.tables.now c.args.user.now in
    let sets = c.args.tables.now.static_sets.content in
    each_found name_cmp (λ (x : RoleSet). is_broken_by test x ≡ false) c.args.set.now sets c.in-Some.roles.now (sym c.in-Some.ensures)
    (none_passes (λ (e : Name × RoleSet). is_broken_by test e.1) sets c.requires)
