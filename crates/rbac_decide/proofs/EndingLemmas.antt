-- Which sessions end: where a user loses a role none but the user's own, where a pair goes none but those with a role below it.
use Rattle.std.proofs.Common.{List, [], ◌∷◌, Bool, true, false, not, ◌||◌, ◌&&◌, ◌≡◌, refl, sym, ap, ◌∙◌, ⊎_elim, arith, filter}
use Rattle.rbac_decide.proofs.Common.{list_any, Each, eq_by_cmp, has, with_key, without, IsAuthorized, is_authorized, inherits_in, is_entitled, purge}
use Rattle.rbac_decide.proofs.Common.{end_sessions, Name, name_cmp, pair_cmp, IsSessionSound, State, Session, and_from, false≢true, has-without, member_all}
use Rattle.rbac_decide.proofs.Common.{member_any, ties_flip, ties-pair, names_total, names_exact, pairs_total, is_authorized_iff, chain_end, inherits_iff}
use Rattle.rbac_decide.proofs.Common.{inherits_over, is_false}

-- what two tests leave, one after the other, where the second holds of all that the first is not asked of
module _ {X : Type 0} (asked ends stays : X → Bool) (P : X → Type 0) (others : (x : X) → P x → asked x ≡ false → stays x ≡ true) where
  pub asked_once : (xs : List X) → Each P xs → filter stays (filter (λ x. not (asked x && ends x)) xs) ≡ filter (λ x. not (asked x && (ends x || not (stays x)))) xs
  asked_once [] each = refl
  asked_once (x ∷ xs) each = grind (arith, others x each.0, asked_once xs each.1)

-- what is left where a test is asked of some alone, and the others stay
module _ {X : Type 0} (asked stays : X → Bool) (P : X → Type 0) (others : (x : X) → P x → asked x ≡ false → stays x ≡ true) where
  pub some_asked : (xs : List X) → Each P xs → filter stays xs ≡ filter (λ x. not (asked x && not (stays x))) xs
  some_asked [] each = refl
  some_asked (x ∷ xs) each = grind (arith, others x each.0, some_asked xs each.1)

-- what two tests leave, one after the other
module _ {X : Type 0} (ends stays : X → Bool) where
  pub both_asked : (xs : List X) → filter stays (filter (λ x. not (ends x)) xs) ≡ filter (λ x. not (ends x || not (stays x))) xs
  both_asked [] = refl
  both_asked (x ∷ xs) = grind (arith, both_asked xs)

-- a role's own sessions, and then those that are not entitled
pub ends_active : (role : Name) (s : State) → purge (end_sessions (λ x. has name_cmp role x.active) s) ≡ end_sessions (λ x. has name_cmp role x.active || not (is_entitled s x)) s
ends_active role s =
    ap (λ (sessions : List (Name × Session)). let t : State = record s { sessions = sessions } in t)
    (both_asked (λ (e : Name × Session). has name_cmp role e.1.active) (λ e. is_entitled s e.1) s.sessions)

-- a pair that is no more declared
module _ (a d : Name) (s : State) where
  abbrev pub declared_still : State
  declared_still = record s { declared = with_key pair_cmp (a, d) s.declared }

  authorized_yet : (owner r : Name) → inherits_in s d r ≡ false → IsAuthorized declared_still owner r → IsAuthorized s owner r
  authorized_yet owner r above was = (
    was.0,
    was.1,
    ⊎_elim
        (λ direct. direct)
        (λ over. absurd (false≢true (sym above ∙ (inherits_iff s.roles s.declared d r).1 over.1)))
        (inherits_over s.roles s.declared a d was.0 r was.2),
  )

  entitled_yet : (session : Session) → IsSessionSound declared_still session → list_any (inherits_in s d) session.active ≡ false → is_entitled s session ≡ true
  entitled_yet session sound above = member_all names_total names_exact (λ r. has name_cmp r s.roles && is_authorized s session.owner r) session.active (λ r m.
      let was = sound.authorized r m in
      let not_below : inherits_in s d r ≡ false = is_false _ (λ below. false≢true (sym above ∙ member_any names_total names_exact (inherits_in s d) session.active r m below)) in
      and_from _ _ (chain_end s.roles declared_still.declared was.0 was.2.0 r was.2.1) ((is_authorized_iff s session.owner r).1 (authorized_yet session.owner r not_below was)))

  -- so the sessions with an active role below it are looked at alone
  pub ends_below : Each (λ e. IsSessionSound declared_still e.1) s.sessions
      → purge s ≡ end_sessions (λ x. list_any (inherits_in s d) x.active && not (is_entitled s x)) s
  ends_below each =
      ap (λ (sessions : List (Name × Session)). let t : State = record s { sessions = sessions } in t)
      (some_asked (λ (e : Name × Session). list_any (inherits_in s d) e.1.active) (λ e. is_entitled s e.1) (λ e. IsSessionSound declared_still e.1)
      (λ e. entitled_yet e.1) s.sessions each)

-- a user without an assignment
module _ (user role : Name) (s : State) where
  abbrev pub deassigned : State
  deassigned = record s { assigned = without pair_cmp (user, role) s.assigned }

  others_authorized : (owner r : Name) → eq_by_cmp name_cmp user owner ≡ false → IsAuthorized s owner r → IsAuthorized deassigned owner r
  others_authorized owner r other a =
      let differ : eq_by_cmp pair_cmp (owner, a.0) (user, role) ≡ false =
      ties-pair name_cmp name_cmp (owner, a.0) (user, role) ∙ ap (λ b. b && eq_by_cmp name_cmp a.0 role) (ties_flip names_total names_exact owner user ∙ other) in
      (a.0, has-without pairs_total (user, role) s.assigned (owner, a.0) ∙ and_from _ _ (ap not differ) a.1, a.2)

  others_entitled : (session : Session) → IsSessionSound s session → eq_by_cmp name_cmp user session.owner ≡ false → is_entitled deassigned session ≡ true
  others_entitled session h other = member_all names_total names_exact (λ r. has name_cmp r s.roles && is_authorized deassigned session.owner r) session.active (λ r m.
      let was = h.authorized r m in
      and_from _ _ (chain_end s.roles s.declared was.0 was.2.0 r was.2.1) ((is_authorized_iff deassigned session.owner r).1 (others_authorized session.owner r other was)))

  -- so the user's sessions alone are looked at
  pub ends_own : Each (λ e. IsSessionSound s e.1) s.sessions
      → purge (end_sessions (λ x. eq_by_cmp name_cmp user x.owner && has name_cmp role x.active) deassigned)
      ≡ end_sessions (λ x. eq_by_cmp name_cmp user x.owner && (has name_cmp role x.active || not (is_entitled deassigned x))) deassigned
  ends_own each =
      ap (λ (sessions : List (Name × Session)). let t : State = record deassigned { sessions = sessions } in t)
      (asked_once (λ (e : Name × Session). eq_by_cmp name_cmp user e.1.owner) (λ e. has name_cmp role e.1.active) (λ e. is_entitled deassigned e.1) (λ e. IsSessionSound s e.1)
      (λ e. others_entitled e.1) s.sessions each)
