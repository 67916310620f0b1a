use Rattle.std.proofs.Common.{◌++◌}
use Rattle.rbac_words.specs.Right.{founding_world}
use Rattle.rbac_moves.specs.Rows.{rows_after}
use Rattle.rbac_moves.proofs.RowSetLemmas.{founded_lawful, told_right, told_one}
use Rattle.rbac_embedded_member.proofs.CallLemmas.{row_moves, run_in_row, are_set}
use Rattle.rbac_embedded_member.proofs.laws.what_was_told_by_rows_stays_right.Goals as goal

pub returns : goal.returns
returns c = record {
  lawful = λ group vocabulary sets is set. founded_lawful group vocabulary sets is (are_set (founding_world group vocabulary) sets set);
  right = λ group vocabulary sets later i u calls is set made.
      let before = rows_after (founding_world group vocabulary) sets in
      told_right group vocabulary sets later i u (row_moves before i u calls made) is (are_set (founding_world group vocabulary) (sets ++ later) set) (run_in_row before i u calls made);
  one = λ group vocabulary sets later i j u v calls others is set made other.
      let before = rows_after (founding_world group vocabulary) sets in
      let now = rows_after (founding_world group vocabulary) (sets ++ later) in
      told_one group vocabulary sets later i j u v (row_moves before i u calls made) (row_moves now j v others other) is
      (are_set (founding_world group vocabulary) (sets ++ later) set) (run_in_row before i u calls made) (run_in_row now j v others other);
}
