use Rattle.std.proofs.Common.{◌≡◌, ◌∙◌, ℕ, List, true, false, not, IfSome, IfNone, map, sym, ap}
use Rattle.rbac_decide.proofs.Common.{list_any, authorized_by, entry_of, number_with, reaches, counts_with, breaks_touched, if_each}
use Rattle.rbac_decide.proofs.GainSteps.{row_is, breaks_are, some_each, none_each}
use Rattle.rbac_decide.proofs.gains.gained_row.Goals as goal

pub returns : goal.returns
returns c =
    let t = c.args.tables.now in
    let counts = c.args.counts.now in
    let user = c.args.user.now in
    let roles = c.args.roles.now in
    let sets = c.args.sets.now in
    let row = c.row.result.now in
    let fresh = c.deref.result.now in
    let are : fresh ≡ map (λ r. not (authorized_by t user r)) roles = c.deref.ensures.value ∙ c.in_ok-fresh.ensures ∙ ap (map (λ r. not (authorized_by t user r))) c.names.ensures.names in
    let breaks = breaks_are t counts user roles row fresh c.row.ensures are sets c.requires in
    record {
      some = if_each c.row_with.result
          (λ gained. IfSome gained (λ (numbers : List ℕ). (numbers ≡ map (number_with row fresh) sets) × (list_any (reaches row fresh) sets ≡ false)))
          (λ gained. IfSome gained (λ (numbers : List ℕ). (numbers ≡ counts_with t counts (map (entry_of roles) sets) user) × (breaks_touched t counts (map (entry_of roles) sets) user ≡ false)))
          (λ gained told. some_each gained _ _
          (λ numbers both. (both.0 ∙ row_is t counts user roles row fresh c.row.ensures are sets c.requires, sym breaks ∙ both.1)) told)
          c.row_with.ensures.some;
      none = if_each c.row_with.result
          (λ gained. IfNone gained (list_any (reaches row fresh) sets ≡ true))
          (λ gained. IfNone gained (breaks_touched t counts (map (entry_of roles) sets) user ≡ true))
          (λ gained told. none_each gained _ _ (λ broken. sym breaks ∙ broken) told)
          c.row_with.ensures.none;
    }
