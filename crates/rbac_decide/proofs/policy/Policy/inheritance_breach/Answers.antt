use Rattle.std.proofs.Common.{◌≡◌, ◌∙◌, ◌&&◌, true, List, Option, Some, None, sym, subst}
use Rattle.rbac_decide.proofs.Common.{first_where, has, is_authorized, Name, name_cmp, IsSound, State, Vocabulary, AddInheritance, Static, Counts, breaks_with}
use Rattle.rbac_decide.proofs.Common.{is_constrained_junior, TellsAfter, touched_sets, authorized_by, AreCountsBy, AreGains, breaks_touched, changes_gathered}
use Rattle.rbac_decide.proofs.Common.{a_breach, state_of, Tables}
use Rattle.rbac_decide.proofs.GainSteps.{named_so}
use Rattle.rbac_decide.proofs.GainLemmas.{breaks_so, tells_inheritance}
use Rattle.rbac_decide.proofs.BreachLemmas.{tells_so, first_with, pair_unbroken, pair_breaks, pair_violated, pair_named}
use Rattle.rbac_decide.proofs.policy.Policy.inheritance_breach.Goals as goal

-- of those that are authorized for the ascendant the first that breaks a set is the same by the tables and by the state
module _ (t : Tables) (v : Vocabulary) (counts : Counts) (sound : IsSound (state_of t v)) (counted : AreCountsBy t counts) (s : State) (view_is : state_of t v ≡ s)
    (a d : Name) (below : List Name) (are : (r : Name) → has name_cmp r below ≡ is_constrained_junior (state_of t v) d r) where
  first_breaking : (found : Option Name) → first_where (λ user. authorized_by t user a && breaks_touched t counts (touched_sets below t.static_sets.content) user) t.sets.content.users ≡ found
      → first_where (λ user. is_authorized s user a && breaks_with s d user) s.users ≡ found
  first_breaking found is =
      subst (λ (seen : State). first_where (λ user. is_authorized seen user a && breaks_with seen d user) seen.users ≡ found) view_is
      (sym (λ i. first_where (λ user. authorized_by t user a && breaks_so t v counts sound counted d below are user i) t.sets.content.users) ∙ is)

pub returns-in-Told : goal.returns-in-Told
returns-in-Told c =
    let t = c.self.inside.tables in
    let v = c.self.inside.vocabulary in
    let counts = c.self.inside.counts in
    let a = c.args.ascendant.now in
    let d = c.args.descendant.now in
    let below = c.in_ok-told.ensures.0 in
    let are = c.in_ok-told.ensures.1 v in
    let is = subst (AreGains t counts (touched_sets below t.static_sets.content) (Some a) t.sets.content.users) c.in-Told.is
    (subst (λ (us : List Name). AreGains t counts (touched_sets below t.static_sets.content) (Some a) us c.in_ok-told.field-0) c.users-users.ensures c.in_ok-told.ensures.2) in
    let none = first_breaking t v counts c.self.invariant.sound c.self.invariant.counted c.args.self.now c.self.view_is a d below are None is.1 in
    record {
      breach = pair_unbroken a d c.args.self.now c.requires.ascendant c.requires.descendant c.invariants.ensures none;
      gathered = subst (λ (seen : State). TellsAfter (AddInheritance a d) (changes_gathered c.in-Told.told) seen) c.self.view_is
          (tells_inheritance t v counts c.self.invariant.sound c.self.invariant.counted d below are a
          (subst (λ (seen : State). has name_cmp a seen.roles ≡ true) (sym c.self.view_is) c.requires.ascendant) (subst (λ (seen : State). has name_cmp d seen.roles ≡ true) (sym c.self.view_is) c.requires.descendant)
          (changes_gathered c.in-Told.told) is.0);
    }

pub returns-in-Broken : goal.returns-in-Broken
returns-in-Broken c =
    let t = c.self.inside.tables in
    let v = c.self.inside.vocabulary in
    let counts = c.self.inside.counts in
    let s = c.args.self.now in
    let a = c.args.ascendant.now in
    let d = c.args.descendant.now in
    let user = c.in-Broken.user.now in
    let below = c.in_ok-told.ensures.0 in
    let are = c.in_ok-told.ensures.1 v in
    let is = subst (AreGains t counts (touched_sets below t.static_sets.content) (Some a) t.sets.content.users) c.in-Broken.is
    (subst (λ (us : List Name). AreGains t counts (touched_sets below t.static_sets.content) (Some a) us c.in_ok-told.field-0) c.users-users.ensures c.in_ok-told.ensures.2) in
    let some = first_breaking t v counts c.self.invariant.sound c.self.invariant.counted s c.self.view_is a d below are (Some user) is in
    record {
      breach = tells_so _ _ _ _ c.breach_with.result (pair_violated a d s c.requires.ascendant c.requires.descendant c.invariants.ensures user some)
          (λ broken. pair_named a d s c.requires.ascendant c.requires.descendant c.invariants.ensures user some) c.breach_with.ensures;
      gathered = named_so (breaks_with s d user) (a_breach Static user (first_with s d user)) c.breach_with.result _
          (pair_breaks a d s c.requires.ascendant c.requires.descendant c.invariants.ensures user some) c.breach_with.ensures;
    }
