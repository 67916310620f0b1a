use Rattle.std.proofs.Common.{ℕ, ◌≡◌, List, true, subst, arith}
use Rattle.sorted_keys.specs.Keys.{has}
use Rattle.rbac_terms.specs.Name.{Name, name_cmp}
use Rattle.rbac_separation.specs.Numbered.{names_of}
use Rattle.rbac_separation.proofs.PlanLemmas.{still_placed, has_next}
use Rattle.rbac_separation.proofs.counts.Counts.renumber.Goals as goal

pub renumber_user-requires-clause-placed : goal.renumber_user-requires-clause-placed
renumber_user-requires-clause-placed g c = still_placed _ _ _ _ _ c.loop-k.k _ c.deref.ensures.value c.requires.placed c.loop-k.invariant.places (omega (arith, c.loop-k-test.true, c.len-k-end.ensures)) c.index.ensures

pub renumber_user-requires-clause-numbered : goal.renumber_user-requires-clause-numbered
renumber_user-requires-clause-numbered g c = λ set is.
    c.requires.numbered set c.index.result.now.0
    (subst (λ (ss : List (Name × ℕ)). has name_cmp set (names_of ss) ≡ true) c.deref.ensures.value is)
    (has_next c.args.plan.users.items c.loop-k.k c.index.result.now (omega (arith, c.loop-k-test.true, c.len-k-end.ensures)) c.index.ensures)
