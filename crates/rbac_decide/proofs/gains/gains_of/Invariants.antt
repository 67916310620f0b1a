use Rattle.std.proofs.Common.{◌≡◌, ◌++◌, ◌&&◌, drop, map, filter}
use Rattle.rbac_decide.proofs.Common.{first_where, option_copied, Name, entry_of, counts_with, breaks_touched, receives}
use Rattle.rbac_decide.proofs.gains.gains_of.Given as goal

abbrev pub invariant-loop-user : goal.invariant-loop-user
invariant-loop-user l =
    let sets = map (entry_of l.roles) l.sets in
    let p = receives l.tables (option_copied l.ascendant) in
    let rest = drop l.user-index l.users in
    record {
      users : l.gathered.users.items ++ map (λ (user : Name). user) (filter p rest) ≡ map (λ (user : Name). user) (filter p l.users);
      rows : l.gathered.rows.items ++ map (counts_with l.tables l.counts sets) (filter p rest) ≡ map (counts_with l.tables l.counts sets) (filter p l.users);
      first : first_where (λ (user : Name). p user && breaks_touched l.tables l.counts sets user) l.users ≡ first_where (λ (user : Name). p user && breaks_touched l.tables l.counts sets user) rest;
    }
