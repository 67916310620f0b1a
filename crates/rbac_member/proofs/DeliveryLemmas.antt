-- What a delivery leaves, in the words of the definitions.
use Rattle.std.proofs.Common.{Bool, true, false, cond, ◌≡◌, List, [], ◌∷◌, ◌++◌, drop, refl, sym, ap, ◌∙◌, Option, Some, None, is_some, true≢false}
use Rattle.rbac_terms.specs.State.{State}
use Rattle.rbac_terms.specs.Rows.{first_denial}
use Rattle.rbac_terms.specs.Change.{change}
use Rattle.rbac_terms.specs.Constraints.{with_sets}
use Rattle.rbac_terms.specs.Separation.{RoleSet}
use Rattle.rbac_terms.specs.Name.{Name}
use Rattle.rbac_terms.specs.declared.separation.Separation.{Separation}
use Rattle.rbac_terms.specs.declared.separation.Separation.TheVariants.{Static, Dynamic}
use Rattle.rbac_terms.specs.Effect.{effect, effect_unless, reply}
use Rattle.rbac_words.specs.World.{least}
use Rattle.rbac_terms.specs.declared.answer.Answer.{Answer}
use Rattle.rbac_terms.specs.declared.answer.Denial.{Denial}
use Rattle.rbac_terms.specs.declared.command.Command.{Command}
use Rattle.rbac_terms.specs.declared.command.Command.TheVariants.{AddUser, DeleteUser, AddRole, DeleteRole, AssignUser, DeassignUser, GrantPermission, RevokePermission, AddInheritance, DeleteInheritance, AddAscendant, AddDescendant, CreateSet, DeleteSet, AddRoleMember, DeleteRoleMember, SetCardinality, CreateSession, DeleteSession, AddActiveRole, DropActiveRole, CheckAccess, Review as ReviewCommand}
use Rattle.rbac_words.specs.declared.message.Submission.{Submission}
use Rattle.rbac_words.specs.declared.record.Record.{Record}
use Rattle.rbac_member.specs.Lists.{TakesOver}
use Rattle.rbac_words.specs.Keeping.Member.{Member, delivery, delivered, due_at, if_passed, is_passed_by_all, is_least_passed}

vocabulary-sets : (kind : Separation) (sets : List (Name × RoleSet)) (s : State) → (with_sets kind sets s).vocabulary ≡ s.vocabulary
vocabulary-sets Static sets s = refl
vocabulary-sets Dynamic sets s = refl

vocabulary-change : (c : Command) (s : State) → (change c s).vocabulary ≡ s.vocabulary
vocabulary-change (AddUser user) s = refl
vocabulary-change (DeleteUser user) s = refl
vocabulary-change (AddRole role) s = refl
vocabulary-change (DeleteRole role) s = refl
vocabulary-change (AssignUser user role) s = refl
vocabulary-change (DeassignUser user role) s = refl
vocabulary-change (GrantPermission operation object role) s = refl
vocabulary-change (RevokePermission operation object role) s = refl
vocabulary-change (AddInheritance ascendant descendant) s = refl
vocabulary-change (DeleteInheritance ascendant descendant) s = refl
vocabulary-change (AddAscendant ascendant descendant) s = refl
vocabulary-change (AddDescendant ascendant descendant) s = refl
vocabulary-change (CreateSet kind set roles n) s = vocabulary-sets kind _ s
vocabulary-change (DeleteSet kind set) s = vocabulary-sets kind _ s
vocabulary-change (AddRoleMember kind set role) s = vocabulary-sets kind _ s
vocabulary-change (DeleteRoleMember kind set role) s = vocabulary-sets kind _ s
vocabulary-change (SetCardinality kind set n) s = vocabulary-sets kind _ s
vocabulary-change (CreateSession user session roles) s = refl
vocabulary-change (DeleteSession user session) s = refl
vocabulary-change (AddActiveRole user session role) s = refl
vocabulary-change (DropActiveRole user session role) s = refl
vocabulary-change (CheckAccess session operation object) s = refl
vocabulary-change (ReviewCommand review) s = refl

-- no command changes the vocabulary
vocabulary-effect : (c : Command) (s : State) → (effect c s).vocabulary ≡ s.vocabulary
vocabulary-effect c s = go (first_denial c s)
  where
    go : (o : Option Denial) → (effect_unless o c s).vocabulary ≡ s.vocabulary
    go None = vocabulary-change c s
    go (Some d) = refl

-- the least of a list is its first
pub same_first : (xs ys : List Submission) (next first : Submission) → least xs ≡ Some next → xs ≡ first ∷ ys → next ≡ first
same_first xs ys next first e f = let g : Some next ≡ Some first = sym e ∙ ap least f in let h : next ≡ first = cc in h

-- the least held command is taken over with its reply
pub delivered_is : (v : Member) (policy : State) (history before : List Record) (held : List Submission) (next : Submission) (answer : Answer) (over : TakesOver answer v.held before held history)
    → before ≡ v.history → next ≡ over.first → policy ≡ effect next.command v.policy → answer ≡ reply next.command v.policy → v.policy.vocabulary ≡ v.vocabulary
    → (let m : Member = record v { vocabulary = policy.vocabulary; held = held; history = history; policy = policy } in m) ≡ delivered v over.first
delivered_is v policy history before held next answer over same first changed replied known =
    let by_policy : policy ≡ effect over.first.command v.policy = changed ∙ ap (λ (x : Submission). effect x.command v.policy) first in
    let by_vocabulary : policy.vocabulary ≡ v.vocabulary = ap (λ (s : State). s.vocabulary) by_policy ∙ vocabulary-effect over.first.command v.policy ∙ known in
    let by_answer : answer ≡ reply over.first.command v.policy = replied ∙ ap (λ (x : Submission). reply x.command v.policy) first in
    let by_history : history ≡ v.history ++ delivery v over.first ∷ [] =
    over.history_is ∙ ap (λ (l : List Record). l ++ (record { stamp = over.first.stamp; caller = over.first.caller; serial = over.first.serial; command = over.first.command; answer = answer }) ∷ []) same
    ∙ ap (λ (a : Answer). v.history ++ (record { stamp = over.first.stamp; caller = over.first.caller; serial = over.first.serial; command = over.first.command; answer = a }) ∷ []) by_answer in
    let by_held : held ≡ drop 1 v.held = ap (drop 1) (sym over.held_before) in
    λ i. record { group = v.group; vocabulary = by_vocabulary i; number = v.number; clock = v.clock; sent = v.sent; read = v.read; latest = v.latest; held = by_held i; history = by_history i; policy = by_policy i }

-- ---- What is due

pub due_is_least : (v : Member) → is_some (due_at v) ≡ is_least_passed v.group.members v.number v.latest v.held
due_is_least v = go v.held
  where
    go : (xs : List Submission) → is_some (if_passed v (least xs)) ≡ is_least_passed v.group.members v.number v.latest xs
    go [] = refl
    go (x ∷ xs) = one (is_passed_by_all v x)
      where
        one : (b : Bool) → is_some (cond {A = Option Submission} b (Some x) None) ≡ b
        one true = refl
        one false = refl

-- where something is due, it is the first that is held
pub due_first : (v : Member) (x : Submission) (rest : List Submission) → v.held ≡ x ∷ rest → is_some (due_at v) ≡ true → (is_passed_by_all v x ≡ true) × (due_at v ≡ Some x)
due_first v x rest e some = go (is_passed_by_all v x) refl
  where
    is : due_at v ≡ (cond {A = Option Submission} (is_passed_by_all v x) (Some x) None)
    is = ap (λ l. if_passed v (least l)) e

    go : (b : Bool) → is_passed_by_all v x ≡ b → (is_passed_by_all v x ≡ true) × (due_at v ≡ Some x)
    go true f = (f, is ∙ ap (λ t. cond {A = Option Submission} t (Some x) None) f)
    go false f = absurd (true≢false (sym some ∙ ap is_some (is ∙ ap (λ t. cond {A = Option Submission} t (Some x) None) f)))
