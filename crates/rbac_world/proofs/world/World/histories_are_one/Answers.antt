use Rattle.std.proofs.Common.{ℕ, subst, ◌<◌, ◌⊎◌, length, get_or}
use Rattle.rbac_words.specs.World.{World, nobody}
use Rattle.rbac_words.specs.Play.{IsPrefixOf}
use Rattle.rbac_words.specs.Keeping.Members.{member_at}
use Rattle.rbac_order.proofs.PlayLemmas.{one_of_two}
use Rattle.rbac_world.proofs.world.World.histories_are_one.Goals as goal

pub returns : goal.returns
returns c =
    let ms = c.self.inside.members.items in
    subst (λ (w : World). (i j : ℕ) → i < length w.nodes → j < length w.nodes → IsPrefixOf (get_or w.nodes i nobody).history (get_or w.nodes j nobody).history ⊎ IsPrefixOf (get_or w.nodes j nobody).history (get_or w.nodes i nobody).history)
    c.self.view_is (one_of_two (member_at ms 0).group (member_at ms 0).vocabulary ms c.self.invariant.are_members)
