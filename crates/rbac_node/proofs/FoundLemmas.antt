-- A node that was just founded.
use Rattle.std.proofs.Common.{ℕ, ◌≡◌, ◌-◌, ◌<◌, List, [], None, refl, sym, subst, arith}
use Rattle.std.proofs.lemmas.List.{get_or-replicate}
use Rattle.rbac_terms.specs.Vocabulary.{Vocabulary}
use Rattle.rbac_words.specs.Group.{Group}
use Rattle.rbac_words.specs.Keeping.Member.{Member, IsNumber, founded}
use Rattle.rbac_words.specs.Keeping.Members.{HasReadOf}
use Rattle.rbac_words.specs.declared.message.Message.{Message}

-- nothing is taken of any messages of another member
nothing_taken : (group : Group) (number : ℕ) (vocabulary : Vocabulary) (k : ℕ) (messages : List Message) → IsNumber group k → HasReadOf (founded group number vocabulary) k messages
nothing_taken group number vocabulary k messages is =
    let place : k - 1 < group.members = omega (arith, is) in
    record {
      taken = [];
      unread = messages;
      sent = refl;
      has_taken = record { count = get_or-replicate group.members (k - 1) 0 0 place; commands = refl; latest = get_or-replicate group.members (k - 1) None None place };
    }

pub nothing_taken_by : (v : Member) (group : Group) (number : ℕ) (vocabulary : Vocabulary) → v ≡ founded group number vocabulary → (k : ℕ) (messages : List Message) → IsNumber v.group k → HasReadOf v k messages
nothing_taken_by v group number vocabulary same k messages is =
    subst (λ (u : Member). HasReadOf u k messages) (sym same) (nothing_taken group number vocabulary k messages (subst (λ (u : Member). IsNumber u.group k) same is))
