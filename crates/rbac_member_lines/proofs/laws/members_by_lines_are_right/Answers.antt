use Rattle.rbac_member_lines.proofs.CarriedLemmas.{run_right, run_one}
use Rattle.rbac_member_lines.proofs.laws.members_by_lines_are_right.Goals as goal

pub returns : goal.returns
returns c = record {
  right = λ group vocabulary members inputs is are. run_right group vocabulary members inputs are is;
  one = λ group vocabulary members inputs i j is are. run_one group vocabulary members inputs are is i j;
}
