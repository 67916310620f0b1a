-- What a change of one table is to the state, and tables with the same sets.
use Rattle.std.proofs.Common.{◌≡◌, ap, sym, ◌∙◌}
use Rattle.rbac_decide.proofs.Common.{find, is_authorized, name_cmp, Vocabulary, Sets, Order, Counts, numbers_of, AreCountsBy, count_in, state_of}
use Rattle.rbac_decide.proofs.Common.{state_of_roles, HasSameRoles, HaveSameSets, Tables}

module _ (t other : Tables) (same : HaveSameSets t other) where
  pub same_state : (v : Vocabulary) → state_of t v ≡ state_of other v
  same_state v = cc

  pub roles_stay_same : HasSameRoles other → HasSameRoles t
  roles_stay_same roles = ap (λ (h : Order). h.roles) same.hierarchy ∙ roles ∙ sym (ap (λ (s : Sets). s.roles) same.sets)

  pub counts_stay_right : (counts alike : Counts) → numbers_of alike ≡ numbers_of counts → AreCountsBy other counts → AreCountsBy t alike
  counts_stay_right counts alike numbers right = λ set user.
      (λ i. numbers i set user)
      ∙ right set user
      ∙ sym (λ i. count_in (is_authorized (state_of_roles (same.sets i) (same.hierarchy i)) user) (find name_cmp set (same.static_sets i)))
