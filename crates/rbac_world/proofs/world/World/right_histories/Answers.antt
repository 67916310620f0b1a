use Rattle.std.proofs.Common.{subst}
use Rattle.rbac_words.specs.Right.{AreHistoriesRight}
use Rattle.rbac_words.specs.Keeping.Members.{member_at}
use Rattle.rbac_order.proofs.GroupLemmas.{right}
use Rattle.rbac_world.proofs.world.World.right_histories.Goals as goal

pub returns : goal.returns
returns c =
    let ms = c.self.inside.members.items in
    subst AreHistoriesRight c.self.view_is (right (member_at ms 0).group (member_at ms 0).vocabulary ms c.self.invariant.are_members)
