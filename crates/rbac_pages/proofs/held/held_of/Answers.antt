use Rattle.std.proofs.Common.{ap, ◌∙◌, ◌++◌}
use Rattle.std.specs.List.{flat_map}
use Rattle.rbac_words.specs.Stamp.{sort_by_stamp}
use Rattle.rbac_words.specs.Keeping.Member.{node_of}
use Rattle.rbac_pages.specs.TraceText.{held_stamps, held_of_number, member_numbers}
use Rattle.rbac_pages.proofs.HeldLemmas.{sorted_is}
use Rattle.rbac_pages.proofs.held.held_of.Goals as goal

pub returns : goal.returns
unfolding held_stamps
returns c =
    sorted_is c.put_all.new.list.items c.sort.new.self.items c.in_ok-sort.ensures.permutation c.in_ok-sort.ensures.sorted
    ∙ ap (sort_by_stamp (λ s. s)) (c.in_ok-put_all.ensures ∙ ap (λ l. l ++ flat_map (held_of_number c.args.world.now (node_of c.args.member.now)) member_numbers) c.new-held.ensures.items)
