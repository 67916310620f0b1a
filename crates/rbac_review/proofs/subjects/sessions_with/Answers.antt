use Rattle.std.proofs.Common.{rules, ◌<◌, ◌≡◌, ◌||◌, ◌&&◌, ◌∙◌, ap, length, map, slice_get}
use Rattle.std.specs.List.{list_any, filter}
use Rattle.std.specs.Ordering.{eq_by_cmp}
use Rattle.std.specs.FinMap.Entries.{find}
use Rattle.std.proofs.lemmas.List.Kept.{IsStrictlySortedBy-filter}
use Rattle.sorted_keys.specs.Keys.{has}
use Rattle.sorted_keys.proofs.Members.{same_keys}
use Rattle.rbac_terms.specs.Name.{Name, name_cmp}
use Rattle.rbac_terms.specs.Rows.{found_and}
use Rattle.rbac_terms.specs.State.{Session}
use Rattle.rbac_terms.proofs.NameLemmas.{names_total, names_exact}
use Rattle.rbac_hierarchy.proofs.EntryLemmas.{sorted_keys}
use Rattle.rbac_hierarchy.proofs.LoopLemmas.{taken_whole}
use Rattle.rbac_review.specs.Among.{is_at_work}
use Rattle.rbac_review.proofs.SubjectLemmas.{at_place, session_named}
use Rattle.rbac_review.proofs.subjects.sessions_with.Goals as goal

pub loop-place-preserved : goal.loop-place-preserved
loop-place-preserved c = λ q.
    let all = c.args.sessions.now.content in
    let lt : c.loop-place.place < length all = search rules in
    let passes = λ (e : Name × Session). eq_by_cmp name_cmp q e.0 && is_at_work c.args.roles.now.names.keys e.1 in
    c.in_ok-listed.ensures q
    ∙ ap (λ t. t || found_and passes (slice_get all c.loop-place.place)) (c.loop-place.invariant q)
    ∙ at_place passes all c.loop-place.place lt

pub returns : goal.returns
returns c =
    let all = c.args.sessions.now.content in
    let work = is_at_work c.args.roles.now.names.keys in
    let named = λ (name : Name). found_and work (find name_cmp name all) in
    same_keys names_exact names_total c.loop-place.listed (filter named (map (λ e. e.0) all)) c.names-in_order.ensures.in_order
    (IsStrictlySortedBy-filter name_cmp named (map (λ e. e.0) all) (sorted_keys name_cmp all c.invariants.ensures))
    (λ q.
    let passes = λ (e : Name × Session). eq_by_cmp name_cmp q e.0 && work e.1 in
    c.loop-place.invariant q
    ∙ ap (list_any passes) (taken_whole all c.loop-place.place (search rules))
    ∙ session_named work all q c.invariants.ensures)
