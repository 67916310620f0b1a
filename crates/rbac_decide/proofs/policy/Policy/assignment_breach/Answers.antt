use Rattle.std.proofs.Common.{◌≡◌, ◌∙◌, List, [], ◌∷◌, Bool, true, false, cond, Some, None, sym, ap, subst, arith}
use Rattle.rbac_decide.proofs.Common.{first_where, has, Name, name_cmp, IsSound, State, Vocabulary, AssignUser, Static, Counts, breaks_with}
use Rattle.rbac_decide.proofs.Common.{is_constrained_junior, TellsAfter, touched_sets, AreCountsBy, AreGains, breaks_touched, changes_gathered, a_breach}
use Rattle.rbac_decide.proofs.Common.{state_of, Tables, cond_some}
use Rattle.rbac_decide.proofs.GainSteps.{named_so}
use Rattle.rbac_decide.proofs.GainLemmas.{breaks_so, tells_assignment}
use Rattle.rbac_decide.proofs.SeparationLemmas.{assigned_violated}
use Rattle.rbac_decide.proofs.BreachLemmas.{tells_so, first_with, assignment_named}
use Rattle.rbac_decide.proofs.policy.Policy.assignment_breach.Goals as goal

-- of one alone none passes
none_alone : {X : Type 0} (b : Bool) (x : X) → cond b (Some x) None ≡ None → b ≡ false
none_alone b x e = grind arith

pub returns-in-Told : goal.returns-in-Told
returns-in-Told c =
    let t = c.self.inside.tables in
    let v = c.self.inside.vocabulary in
    let counts = c.self.inside.counts in
    let user = c.args.user.now in
    let role = c.args.role.now in
    let below = c.in_ok-told.ensures.0 in
    let are = c.in_ok-told.ensures.1 v in
    let is = subst (AreGains t counts (touched_sets below t.static_sets.content) None (user ∷ [])) c.in-Told.is
    (subst (λ (users : List Name). AreGains t counts (touched_sets below t.static_sets.content) None users c.in_ok-told.field-0) c.from_ref-users.ensures.value c.in_ok-told.ensures.2) in
    let unbroken = subst (λ (seen : State). breaks_with seen role user ≡ false) c.self.view_is (sym (breaks_so t v counts c.self.invariant.sound c.self.invariant.counted role below are user) ∙ none_alone _ user is.1) in
    record {
      breach = assigned_violated user role c.args.self.now c.invariants.ensures c.requires.user ∙ unbroken;
      gathered = subst (λ (seen : State). TellsAfter (AssignUser user role) (changes_gathered c.in-Told.told) seen) c.self.view_is
          (tells_assignment t v counts c.self.invariant.sound c.self.invariant.counted role below are user (changes_gathered c.in-Told.told) is.0);
    }

-- the user that is named is the one that the role is assigned, and it breaks a set
module _ (t : Tables) (v : Vocabulary) (counts : Counts) (sound : IsSound (state_of t v)) (counted : AreCountsBy t counts) (s : State) (view_is : state_of t v ≡ s)
    (role : Name) (below : List Name) (are : (r : Name) → has name_cmp r below ≡ is_constrained_junior (state_of t v) role r) (user named : Name)
    (first : first_where (λ x. breaks_touched t counts (touched_sets below t.static_sets.content) x) (user ∷ []) ≡ Some named) where
  is_named : user ≡ named
  is_named = (cond_some (breaks_touched t counts (touched_sets below t.static_sets.content) user) user named first).1

  breaks_so_named : breaks_with s role user ≡ true
  breaks_so_named =
      subst (λ (seen : State). breaks_with seen role user ≡ true) view_is
      (sym (breaks_so t v counts sound counted role below are user) ∙ (cond_some (breaks_touched t counts (touched_sets below t.static_sets.content) user) user named first).0)

pub returns-in-Broken : goal.returns-in-Broken
returns-in-Broken c =
    let t = c.self.inside.tables in
    let v = c.self.inside.vocabulary in
    let counts = c.self.inside.counts in
    let s = c.args.self.now in
    let user = c.args.user.now in
    let named = c.in-Broken.user.now in
    let role = c.args.role.now in
    let below = c.in_ok-told.ensures.0 in
    let are = c.in_ok-told.ensures.1 v in
    let is = subst (AreGains t counts (touched_sets below t.static_sets.content) None (user ∷ [])) c.in-Broken.is
    (subst (λ (users : List Name). AreGains t counts (touched_sets below t.static_sets.content) None users c.in_ok-told.field-0) c.from_ref-users.ensures.value c.in_ok-told.ensures.2) in
    let same : user ≡ named = is_named t v counts c.self.invariant.sound c.self.invariant.counted s c.self.view_is role below are user named is in
    record {
      breach = tells_so _ _ _ _ c.breach_with.result
          (assigned_violated user role s c.invariants.ensures c.requires.user ∙ ap (breaks_with s role) same)
          (λ broken. sym (ap (λ (x : Name). a_breach Static x (first_with s role x)) same) ∙ assignment_named user role s c.invariants.ensures c.requires.user (ap (breaks_with s role) same ∙ broken))
          c.breach_with.ensures;
      gathered = named_so (breaks_with s role named) (a_breach Static named (first_with s role named)) c.breach_with.result _
          (sym (ap (breaks_with s role) same) ∙ breaks_so_named t v counts c.self.invariant.sound c.self.invariant.counted s c.self.view_is role below are user named is)
          c.breach_with.ensures;
    }
