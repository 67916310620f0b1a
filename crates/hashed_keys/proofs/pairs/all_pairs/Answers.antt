use Rattle.std.proofs.Common.{◌≡◌, ◌++◌, ◌<◌, ◌+◌, List, take, length, ap, sym, ◌∙◌, arith, append-nil}
use Rattle.std.specs.Option.{option_copied}
use Rattle.hashed_keys.specs.Pairs.{pairs_of}
use Rattle.hashed_keys.proofs.PairCalls.{more_pairs, pairs_of_entry}
use Rattle.hashed_keys.proofs.PairRemovals.{of_key}
use Rattle.hashed_keys.proofs.pairs.all_pairs.Goals.{in-Some+in_ok-add_pairs, in_default}
use Rattle.hashed_keys.proofs.pairs.all_pairs.Goals as goal

pub loop-place-preserved : goal.loop-place-preserved
loop-place-preserved g c =
    let es : List (g.row.A.Denot × List g.row.B.Denot) = c.args.sets.now.content in
    let i = c.loop-place.place in
    let lt : i < length es = omega (arith, c.len-place-end.ensures) in
    let next : pairs_of (take i es) ++ pairs_of_entry (option_copied c.at.result) ≡ pairs_of (take (i + 1) es) =
    ap (λ f. pairs_of (take i es) ++ pairs_of_entry f) c.at.ensures ∙ sym (more_pairs es i lt) in
    elim c.match-at.branch [
      | in-Some+in_ok-add_pairs w ↦
          ap (λ v. v.items) w.pairs-is
          ∙ w.in_ok-add_pairs.ensures
          ∙ ap (λ bs. c.loop-place.pairs.items ++ of_key w.in-Some.entry.now.0 bs) w.keys.ensures.keys
          ∙ ap (λ ps. ps ++ of_key w.in-Some.entry.now.0 w.in-Some.entry.now.1) c.loop-place.invariant
          ∙ ap (λ f. pairs_of (take i es) ++ pairs_of_entry (option_copied f)) (sym w.in-Some.is)
          ∙ next
      | in_default w ↦
          ap (λ v. v.items) w.pairs-is
          ∙ c.loop-place.invariant
          ∙ sym (append-nil (pairs_of (take i es)))
          ∙ ap (λ f. pairs_of (take i es) ++ pairs_of_entry (option_copied f)) (sym w.in_default.is)
          ∙ next
    ]
