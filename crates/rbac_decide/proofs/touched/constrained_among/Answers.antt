use Rattle.std.proofs.Common.{◌+◌, ◌∙◌, ◌||◌, ◌&&◌, List, drop, sym, ap}
use Rattle.rbac_decide.proofs.Common.{has, Name, name_cmp, RoleSet, is_constrained}
use Rattle.rbac_decide.proofs.CountingLemmas.{dropped}
use Rattle.rbac_decide.proofs.FreshLemmas.{set_gathered}
use Rattle.rbac_decide.proofs.touched.constrained_among.Goals as goal

pub loop-entry-preserved : goal.loop-entry-preserved
loop-entry-preserved c =
    let sets = c.args.sets.now in
    let among = c.args.among.now in
    let i = c.loop-entry.entry-index in
    let e = c.entry-item.result in
    let names = c.loop-entry.names in
    set_gathered among names c.add_where.new.kept e (drop (i + 1) sets) (λ r. is_constrained r sets && has name_cmp r among)
    (λ r. c.in_ok-add_where.ensures r ∙ ap (λ (x : Name × RoleSet). has name_cmp r names || (has name_cmp r x.1.roles && has name_cmp r among)) c.entry.view_is)
    (λ r. ap (λ (l : List (Name × RoleSet)). has name_cmp r names || (is_constrained r l && has name_cmp r among)) (sym (dropped sets i e c.loop-entry-test.true c.entry-item.is)) ∙ c.loop-entry.invariant r)
