use Rattle.std.proofs.Common.{sym, ◌∙◌}
use Rattle.std.proofs.lemmas.List.{nil_from_length}
use Rattle.rbac_hierarchy.proofs.WalkLemmas.{walk_begins, walk_goes_on, walk_shrinks, walk_ends}
use Rattle.rbac_hierarchy.proofs.walk.walk.Goals as goal

pub loop-ascendant-init : goal.loop-ascendant-init
loop-ascendant-init c = rw (c.in_ok-push.ensures.items, c.new-pending.ensures.items, c.in_ok-copy-2.ensures, c.in_ok-add.ensures.added, c.in_ok-copy.ensures, c.new-found.ensures) (walk_begins _ _)

pub loop-ascendant-smaller : goal.loop-ascendant-smaller
loop-ascendant-smaller c =
    let finds = rw c.beginning_with-pairs.ensures at c.in_ok-find_descendants.ensures in
    rw c.in-Some.ensures.items (walk_shrinks _ c.args.role.now _ _ _ _ _ finds)

pub loop-ascendant-preserved : goal.loop-ascendant-preserved
loop-ascendant-preserved c =
    let finds = rw c.beginning_with-pairs.ensures at c.in_ok-find_descendants.ensures in
    walk_goes_on _ _ _ _ _ _ _ finds (rw c.in-Some.ensures.items at c.loop-ascendant.invariant)

pub returns : goal.returns
returns c =
    let none = nil_from_length c.loop-ascendant.pending.items (sym c.loop-ascendant.pending.ok.0 ∙ c.in_default.ensures.cases.0) in
    walk_ends _ _ _ (rw none at c.loop-ascendant.invariant)
