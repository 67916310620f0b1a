-- What holds of a world after any list of events.
use Rattle.std.proofs.Common.{ℕ, suc, ◌≡◌, ◌<◌, ◌⊎◌, List, [], ◌∷◌, ◌++◌, length, map, get_or, refl, sym, ap, subst, None, Ok}
use Rattle.rbac_terms.specs.Vocabulary.{Vocabulary}
use Rattle.rbac_words.specs.Group.{Group, IsGroup}
use Rattle.rbac_words.specs.Message.{commands_of}
use Rattle.rbac_words.specs.World.{World, Node, nobody, node, step, step_outcome}
use Rattle.rbac_words.specs.Right.{all_commands, AreHistoriesRight, founding_world}
use Rattle.rbac_words.specs.Play.{world_after, outcomes, IsReadToEnd, IsPrefixOf}
use Rattle.rbac_words.specs.Keeping.Member.{Member, node_of}
use Rattle.rbac_words.specs.Keeping.Members.{member_at, AreMembers, world_of, HasMembers}
use Rattle.rbac_words.specs.declared.event.Event.{Event}
use Rattle.rbac_words.specs.declared.event.Event.TheVariants.{Deliver}
use Rattle.rbac_words.specs.declared.event.Outcome.TheVariants.{Delivered}
use Rattle.rbac_words.specs.declared.record.Record.{Record}
use Rattle.rbac_order.proofs.GroupLemmas.{node-of_member, inside, right}
use Rattle.rbac_order.proofs.StepLemmas.{always_has}
use Rattle.rbac_order.proofs.EndLemmas.{one_history, delivery_of_member}

pub world_after-append : (w : World) (es fs : List Event) → world_after w (es ++ fs) ≡ world_after (world_after w es) fs
world_after-append w [] fs = refl
world_after-append w (e ∷ es) fs = world_after-append (step w e) es fs

pub outcomes-append : (w : World) (es fs : List Event) → outcomes w (es ++ fs) ≡ outcomes w es ++ outcomes (world_after w es) fs
outcomes-append w [] fs = refl
outcomes-append w (e ∷ es) fs = ap (λ l. step_outcome w e ∷ l) (outcomes-append (step w e) es fs)

pub length-outcomes : (w : World) (es : List Event) → length (outcomes w es) ≡ length es
length-outcomes w [] = refl
length-outcomes w (e ∷ es) = ap suc (length-outcomes (step w e) es)

-- what holds of each world of members of a group holds of each world that has members
of_members : (group : Group) (vocabulary : Vocabulary) (P : World → Type 0) → ((ms : List Member) → AreMembers group vocabulary ms → P (world_of group vocabulary ms)) → (w : World) → HasMembers group vocabulary w → P w
of_members group vocabulary P f w h = subst P h.same (f h.members h.are_members)

pub always_right : (group : Group) (vocabulary : Vocabulary) (es : List Event) → IsGroup group → AreHistoriesRight (world_after (founding_world group vocabulary) es)
always_right group vocabulary es g = of_members group vocabulary AreHistoriesRight (right group vocabulary) (world_after (founding_world group vocabulary) es) (always_has group vocabulary g es)

-- of two histories of a group one is a prefix of the other
pub one_of_two : (group : Group) (vocabulary : Vocabulary) (ms : List Member) → AreMembers group vocabulary ms → (i j : ℕ) → i < length (map node_of ms) → j < length (map node_of ms)
    → IsPrefixOf (get_or (map node_of ms) i nobody).history (get_or (map node_of ms) j nobody).history ⊎ IsPrefixOf (get_or (map node_of ms) j nobody).history (get_or (map node_of ms) i nobody).history
one_of_two group vocabulary ms are i j hi hj =
    subst (λ (h : List Record). IsPrefixOf h (get_or (map node_of ms) j nobody).history ⊎ IsPrefixOf (get_or (map node_of ms) j nobody).history h) (ap (λ (v : Node). v.history) (sym (node-of_member ms i)))
    (subst (λ (h : List Record). IsPrefixOf (member_at ms i).history h ⊎ IsPrefixOf h (member_at ms i).history) (ap (λ (v : Node). v.history) (sym (node-of_member ms j)))
    (one_history group vocabulary ms are i j (inside group vocabulary ms are i hi) (inside group vocabulary ms are j hj)))

pub always_one : (group : Group) (vocabulary : Vocabulary) (es : List Event) (i j : ℕ) → IsGroup group → i < length (world_after (founding_world group vocabulary) es).nodes → j < length (world_after (founding_world group vocabulary) es).nodes
    → IsPrefixOf (get_or (world_after (founding_world group vocabulary) es).nodes i nobody).history (get_or (world_after (founding_world group vocabulary) es).nodes j nobody).history
    ⊎ IsPrefixOf (get_or (world_after (founding_world group vocabulary) es).nodes j nobody).history (get_or (world_after (founding_world group vocabulary) es).nodes i nobody).history
always_one group vocabulary es i j g =
    of_members group vocabulary
    (λ w. i < length w.nodes → j < length w.nodes → IsPrefixOf (get_or w.nodes i nobody).history (get_or w.nodes j nobody).history ⊎ IsPrefixOf (get_or w.nodes j nobody).history (get_or w.nodes i nobody).history)
    (λ ms are. one_of_two group vocabulary ms are i j)
    (world_after (founding_world group vocabulary) es) (always_has group vocabulary g es)

pub always_delivered : (group : Group) (vocabulary : Vocabulary) (es : List Event) (at : ℕ) → IsGroup group → IsReadToEnd (world_after (founding_world group vocabulary) es)
    → step_outcome (world_after (founding_world group vocabulary) es) (Deliver at) ≡ Ok (Delivered None)
    → commands_of (node (world_after (founding_world group vocabulary) es) at).history ≡ all_commands (world_after (founding_world group vocabulary) es)
always_delivered group vocabulary es at g =
    of_members group vocabulary (λ w. IsReadToEnd w → step_outcome w (Deliver at) ≡ Ok (Delivered None) → commands_of (node w at).history ≡ all_commands w)
    (λ ms are end e. delivery_of_member group vocabulary ms are at end e)
    (world_after (founding_world group vocabulary) es) (always_has group vocabulary g es)
