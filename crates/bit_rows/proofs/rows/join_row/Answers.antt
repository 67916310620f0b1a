use Rattle.std.proofs.Common.{◌≡◌, ◌<◌, ◌+◌, List, ℕ, [], slice_set, get_or, sym, subst, ap, ◌∙◌, arith}
use Rattle.std.proofs.lemmas.List.{length-set}
use Rattle.std.proofs.lemmas.Bool.{ne_eqb}
use Rattle.bit_rows.specs.Room.{unset, unset_of_all}
use Rattle.bit_rows.proofs.BitLemmas.{any_default}
use Rattle.bit_rows.proofs.RowLemmas.{unset_joined, at_above_lent}
use Rattle.bit_rows.proofs.rows.join_row.Goals as goal

-- the row that is joined
abbrev seen : goal.After-drop-rows → List ℕ
seen c = get_or (slice_set c.args.rows.now c.args.below c.replace-added.new.dest) c.args.above c.index-rows-above.result

-- what is left to set in the row that is joined, and in all rows
left : (c : goal.After-drop-rows) → (unset_of_all (slice_set (slice_set (slice_set c.args.rows.now c.args.below c.replace-added.new.dest) c.args.above c.join-grown.new.self) c.args.below c.replace-added.result) + unset (seen c)
    ≡ unset_of_all c.args.rows.now + unset c.join-grown.new.self)
left c =
    let old = c.args.rows.now in
    let above = c.args.above in
    let below = c.args.below in
    let row = c.join-grown.new.self in
    let apart = ne_eqb above below c.if-above-below.false in
    let empty : c.replace-added.new.dest ≡ [] = c.replace-added.ensures.after ∙ c.without_words-lent.ensures in
    let back : c.replace-added.result ≡ get_or old below [] = c.replace-added.ensures.value ∙ any_default old below _ [] c.requires.below in
    let was : seen c ≡ get_or old above [] = any_default _ above _ [] (subst (λ n. above < n) (sym (length-set old below c.replace-added.new.dest)) c.requires.above) ∙ ap (λ r. get_or (slice_set old below r) above []) empty ∙ at_above_lent old above below row c.requires.above c.requires.below apart in
    (λ i. unset_of_all (slice_set (slice_set (slice_set old below (empty i)) above row) below (back i)) + unset (was i))
    ∙ unset_joined old above below row c.requires.above c.requires.below apart

pub returns-clause-fewer : goal.returns-clause-fewer
returns-clause-fewer c = λ e. omega (arith, left c, c.join-grown.ensures.fewer e)

pub returns-clause-not_more : goal.returns-clause-not_more
returns-clause-not_more c = omega (arith, left c, c.join-grown.ensures.not_more)
