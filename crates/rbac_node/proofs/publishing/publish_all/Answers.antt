use Rattle.std.proofs.Common.{rules, ◌≡◌, ◌++◌, take, drop, ap, ◌∙◌}
use Rattle.std.proofs.lemmas.List.{take-append-drop}
use Rattle.rbac_node.proofs.publishing.publish_all.Goals as goal

pub returns-in_err-publish_one-clause-begins : goal.returns-in_err-publish_one-clause-begins
returns-in_err-publish_one-clause-begins g c =
    let items = c.args.items.now in
    let known : c.publish_one.new.mark.values ≡ take c.loop-place.place items = search rules in
    (drop c.loop-place.place items, ap (λ front. front ++ drop c.loop-place.place items) known ∙ take-append-drop c.loop-place.place items)
