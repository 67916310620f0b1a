use Rattle.std.proofs.Common.{◌∙◌, sym, subst, ap, List}
use Rattle.std.specs.List.{list_all}
use Rattle.rbac_words.specs.Play.{IsReadToEnd}
use Rattle.rbac_words.specs.Keeping.Members.{member_at}
use Rattle.rbac_words.specs.Keeping.Member.{Member}
use Rattle.rbac_world.specs.Inside.{has_read}
use Rattle.rbac_world.proofs.WorldLemmas.{end_if, only_if}
use Rattle.rbac_world.proofs.world.World.read_to_end.Goals as goal

pub returns : goal.returns
returns c =
    let ms = c.self.inside.members.items in
    let is = c.have_read_all.ensures ∙ ap (λ (l : List Member). list_all (λ v. list_all (has_read v) l) l) c.deref.ensures.value in (
      λ t. subst IsReadToEnd c.self.view_is (end_if (member_at ms 0).group (member_at ms 0).vocabulary ms c.self.invariant.are_members (sym is ∙ t)),
      λ end. is ∙ only_if (member_at ms 0).group (member_at ms 0).vocabulary ms c.self.invariant.are_members (subst IsReadToEnd (sym c.self.view_is) end),
    )
