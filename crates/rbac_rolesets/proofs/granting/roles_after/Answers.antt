use Rattle.std.proofs.Common.{◌<◌, length, take, ap, sym, ◌∙◌, arith}
use Rattle.std.specs.Option.{option_copied}
use Rattle.std.proofs.lemmas.Option.{get_or_from_slice_get}
use Rattle.staged.specs.Made.{made_all}
use Rattle.staged.proofs.MadeLemmas.{made_more}
use Rattle.hashed_keys.specs.Pairs.{found, seconds}
use Rattle.rbac_terms.specs.Name.{pair_cmp}
use Rattle.rbac_rolesets.specs.Changes.{made}
use Rattle.rbac_rolesets.specs.Sets.{Sets}
use Rattle.rbac_rolesets.proofs.GrantLemmas.{grants_in_order, none_past}
use Rattle.rbac_rolesets.proofs.granting.roles_after.Goals.{in-Some, in_default}
use Rattle.rbac_rolesets.proofs.granting.roles_after.Goals as goal

pub loop-place-preserved : goal.loop-place-preserved
loop-place-preserved c =
    let sets = c.args.sets.now.content in
    let plan = c.args.plan.now in
    let asked = c.args.asked.now in
    let i = c.loop-place.place in
    let lt : i < length plan = omega (arith, c.len-place-end.ensures) in
    elim c.match-get.branch [
      | in-Some w ↦
          let before = made_all made (take i plan) sets in
          let step = w.in-Some.step.now in
          let is = sym c.get.ensures ∙ ap option_copied w.in-Some.is in
          let next = w.roles_next-roles.ensures before (grants_in_order (take i plan) sets c.invariants.ensures.granted) c.loop-place.invariant in
          ap (λ roles. found (option_copied roles)) w.roles-is
          ∙ next
          ∙ ap (λ (s : Sets). seconds pair_cmp asked s.granted) (sym (made_more made plan i step sets lt (sym (get_or_from_slice_get plan i step step is))))
      | in_default w ↦
          let past = none_past plan i (sym c.get.ensures ∙ ap option_copied w.in_default.is) in
          absurd (omega arith)
    ]
