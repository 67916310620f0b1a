use Rattle.std.proofs.Common.{ℕ, subst, ◌≡◌, None, Ok}
use Rattle.rbac_words.specs.Message.{commands_of}
use Rattle.rbac_words.specs.World.{World, node, step_outcome}
use Rattle.rbac_words.specs.Right.{all_commands}
use Rattle.rbac_words.specs.Play.{IsReadToEnd}
use Rattle.rbac_words.specs.Keeping.Members.{member_at}
use Rattle.rbac_words.specs.declared.event.Event.TheVariants.{Deliver}
use Rattle.rbac_words.specs.declared.event.Outcome.TheVariants.{Delivered}
use Rattle.rbac_order.proofs.EndLemmas.{delivery_of_member}
use Rattle.rbac_world.proofs.world.World.all_that_was_read_is_delivered.Goals as goal

pub returns : goal.returns
returns c =
    let ms = c.self.inside.members.items in
    subst (λ (w : World). (at : ℕ) → IsReadToEnd w → step_outcome w (Deliver at) ≡ Ok (Delivered None) → commands_of (node w at).history ≡ all_commands w)
    c.self.view_is (delivery_of_member (member_at ms 0).group (member_at ms 0).vocabulary ms c.self.invariant.are_members)
