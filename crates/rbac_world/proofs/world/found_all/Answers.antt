use Rattle.std.proofs.Common.{sym, ap, ◌∙◌, ◌++◌, ◌∷◌, [], List}
use Rattle.rbac_words.specs.Keeping.Member.{Member}
use Rattle.rbac_world.specs.Inside.{founded_all}
use Rattle.rbac_world.proofs.WorldLemmas.{founded-more}
use Rattle.rbac_world.proofs.world.found_all.Goals as goal

pub loop-place-preserved : goal.loop-place-preserved
loop-place-preserved c =
    c.in_ok-push.ensures.items
    ∙ ap (λ (l : List Member). l ++ c.in_ok-member.member ∷ []) c.loop-place.invariant
    ∙ ap (λ (m : Member). founded_all c.args.group c.args.vocabulary.now c.loop-place.place ++ m ∷ []) c.in_ok-member.ensures
    ∙ sym (founded-more c.args.group c.args.vocabulary.now c.loop-place.place)
