use Rattle.std.proofs.Common.{ℕ, ◌≡◌, ◌∙◌, ◌++◌, ◌∷◌, ◌+◌, ◌&&◌, List, [], true, false, Option, IfSome, IfNone, map, drop, sym, ap, subst, refl, append-nil, arith, filter}
use Rattle.rbac_decide.proofs.Common.{first_where, option_copied, Name, changes_of, AreGains, entry_of, counts_with, breaks_touched, receives, CountedSet}
use Rattle.rbac_decide.proofs.Common.{and_from, drop_all}
use Rattle.rbac_decide.specs.declared.gains.Gains.TheVariants.{Told}
use Rattle.rbac_decide.proofs.GainSteps.{user_told, user_passed, first_later, first_here, nothing_given, none_first, nothing_in, map_same, names_entries}
use Rattle.rbac_decide.proofs.gains.gains_of.Goals as goal
use Rattle.rbac_decide.proofs.gains.gains_of.Goals.{then-receives+in_ok-row+in-Some+in_ok-add-in-Some, else-receives}

pub returns-then-is_empty : goal.returns-then-is_empty
returns-then-is_empty c =
    let t = c.args.tables.now in
    let counts = c.args.counts.now in
    let ascendant = option_copied c.args.ascendant in
    let users = c.args.users.now in
    let g = c.nothing-gathered.result in
    let none : c.args.sets.now ≡ [] = nothing_in c.args.sets.now (sym c.is_empty.ensures ∙ c.if-is_empty.true) in
    subst (λ (sets : List CountedSet). AreGains t counts (map (entry_of c.args.roles.now) sets) ascendant users (Told g)) (sym none) (
      (λ i. changes_of (c.nothing-gathered.ensures.sets i) g.users.items g.rows.items) ∙ nothing_given g.users.items g.rows.items
          ∙ sym (nothing_given (filter (receives t ascendant) users) (map (counts_with t counts []) (filter (receives t ascendant) users))),
      none_first (receives t ascendant) users,
    )

pub loop-user-init : goal.loop-user-init
loop-user-init c =
    let t = c.args.tables.now in
    let sets = map (entry_of c.args.roles.now) c.args.sets.now in
    let p = receives t (option_copied c.args.ascendant) in
    record {
      users = ap (λ (l : List Name). l ++ map (λ (user : Name). user) (filter p c.args.users.now)) c.nothing-gathered.ensures.users;
      rows = ap (λ (l : List (List ℕ)). l ++ map (counts_with t c.args.counts.now sets) (filter p c.args.users.now)) c.nothing-gathered.ensures.rows;
      first = refl;
    }

pub loop-user-preserved : goal.loop-user-preserved
loop-user-preserved c =
    let t = c.args.tables.now in
    let counts = c.args.counts.now in
    let sets = map (entry_of c.args.roles.now) c.args.sets.now in
    let p = receives t (option_copied c.args.ascendant) in
    let users = c.args.users.now in
    let i = c.loop-user.user-index in
    let user = c.user-item.result in
    let so_far = c.loop-user.invariant in
    let lt = c.loop-user-test.true in
    let is = c.user-item.is in
    let rest = filter p (drop (i + 1) users) in
    elim c.if-receives.branch [
      | then-receives+in_ok-row+in-Some+in_ok-add-in-Some w ↦
          let passes : p user ≡ true = sym c.receives.ensures ∙ w.if-receives.true in
          let gained = subst (λ (o : Option (List ℕ)). IfSome o (λ row. (row ≡ counts_with t counts sets user) × (breaks_touched t counts sets user ≡ false))) w.in-Some.is w.in_ok-row.ensures.some in
          record {
            users = (λ j. (w.gathered-is j).users.items ++ map (λ (x : Name). x) rest)
                ∙ ap (λ (l : List Name). l ++ map (λ (x : Name). x) rest) w.in_ok-add-in-Some.ensures.users
                ∙ user_told p (λ (x : Name). x) users i user lt is c.loop-user.gathered.users.items (map (λ (x : Name). x) (filter p users)) so_far.users passes;
            rows = (λ j. (w.gathered-is j).rows.items ++ map (counts_with t counts sets) rest)
                ∙ ap (λ (l : List (List ℕ)). l ++ map (counts_with t counts sets) rest) (w.in_ok-add-in-Some.ensures.rows ∙ ap (λ (r : List ℕ). c.loop-user.gathered.rows.items ++ r ∷ []) gained.0)
                ∙ user_told p (counts_with t counts sets) users i user lt is c.loop-user.gathered.rows.items (map (counts_with t counts sets) (filter p users)) so_far.rows passes;
            first = so_far.first ∙ first_later (λ x. p x && breaks_touched t counts sets x) users i user lt is (let broken = gained.1 in grind arith);
          }
      | else-receives w ↦
          let fails : p user ≡ false = sym c.receives.ensures ∙ w.if-receives.false in
          record {
            users = (λ j. (w.gathered-is j).users.items ++ map (λ (x : Name). x) rest)
                ∙ user_passed p (λ (x : Name). x) users i user lt is c.loop-user.gathered.users.items (map (λ (x : Name). x) (filter p users)) so_far.users fails;
            rows = (λ j. (w.gathered-is j).rows.items ++ map (counts_with t counts sets) rest)
                ∙ user_passed p (counts_with t counts sets) users i user lt is c.loop-user.gathered.rows.items (map (counts_with t counts sets) (filter p users)) so_far.rows fails;
            first = so_far.first ∙ first_later (λ x. p x && breaks_touched t counts sets x) users i user lt is (grind (arith, fails));
          }
    ]

pub returns-in-None : goal.returns-in-None
returns-in-None c =
    let t = c.args.tables.now in
    let counts = c.args.counts.now in
    let sets = map (entry_of c.args.roles.now) c.args.sets.now in
    let p = receives t (option_copied c.args.ascendant) in
    let user = c.user-item.result in
    let passes : p user ≡ true = sym c.receives.ensures ∙ c.if-receives.true in
    let broken = subst (λ (o : Option (List ℕ)). IfNone o (breaks_touched t counts sets user ≡ true)) c.in-None.is c.in_ok-row.ensures.none in
    c.loop-user.invariant.first
    ∙ first_here (λ x. p x && breaks_touched t counts sets x) c.args.users.now c.loop-user.user-index user c.loop-user-test.true c.user-item.is (and_from (p user) _ passes broken)

pub returns : goal.returns
returns c =
    let t = c.args.tables.now in
    let counts = c.args.counts.now in
    let roles = c.args.roles.now in
    let sets = map (entry_of roles) c.args.sets.now in
    let p = receives t (option_copied c.args.ascendant) in
    let users = c.args.users.now in
    let g = c.loop-user.gathered in
    let so_far = c.loop-user.invariant in
    let none : drop c.loop-user.user-index users ≡ [] = drop_all c.loop-user.user-index users c.loop-user-test.false in
    let are_users : g.users.items ≡ filter p users = sym (append-nil g.users.items) ∙ sym (ap (λ (l : List Name). g.users.items ++ map (λ (x : Name). x) (filter p l)) none) ∙ so_far.users ∙ map_same (filter p users) in
    let are_rows : g.rows.items ≡ map (counts_with t counts sets) (filter p users) = sym (append-nil g.rows.items) ∙ sym (ap (λ (l : List Name). g.rows.items ++ map (counts_with t counts sets) (filter p l)) none) ∙ so_far.rows in
    let are_sets = c.in_ok-gathered.ensures ∙ names_entries roles c.args.sets.now in (
      (λ i. changes_of (are_sets i) (are_users i) (are_rows i)),
      so_far.first ∙ ap (first_where (λ x. p x && breaks_touched t counts sets x)) none,
    )
