use Rattle.rbac_words.specs.Right.{founding_world}
use Rattle.rbac_moves.specs.Rows.{rows_after}
use Rattle.rbac_moves.proofs.RowLemmas.{part_right}
use Rattle.rbac_moves.proofs.RowMoveLemmas.{one_of_parts}
use Rattle.rbac_gated.proofs.GateLemmas.{lawful_now, part_before, part_now, part_in_row, part_observed, part_was_in_row, part_was_observed}
use Rattle.rbac_gated.proofs.laws.what_was_told_behind_a_gate_stays_right.Goals as goal

pub returns : goal.returns
returns c = record {
  part = λ group vocabulary sets later i u calls is set then_set g. part_before group vocabulary sets later is set then_set i u calls g;
  right = λ group vocabulary sets later i u calls is set then_set g.
      part_right (rows_after (rows_after (founding_world group vocabulary) sets) later) (lawful_now group vocabulary sets later is set then_set) u (part_before group vocabulary sets later is set then_set i u calls g);
  one = λ group vocabulary sets later i j u v calls others is set then_set g other.
      one_of_parts (rows_after (rows_after (founding_world group vocabulary) sets) later) u v (lawful_now group vocabulary sets later is set then_set)
      (part_before group vocabulary sets later is set then_set i u calls g) (part_now group vocabulary sets later is set then_set j v others other);
  before_member = λ group vocabulary sets later i j u v calls others is set then_set g other.
      one_of_parts (rows_after (rows_after (founding_world group vocabulary) sets) later) u v (lawful_now group vocabulary sets later is set then_set)
      (part_before group vocabulary sets later is set then_set i u calls g) (part_in_row group vocabulary sets later is set then_set j v others other);
  after_member = λ group vocabulary sets later i j u v calls others is set then_set g other.
      one_of_parts (rows_after (rows_after (founding_world group vocabulary) sets) later) u v (lawful_now group vocabulary sets later is set then_set)
      (part_was_in_row group vocabulary sets later is set then_set i u calls g) (part_now group vocabulary sets later is set then_set j v others other);
  before_observer = λ group vocabulary sets later i j u v calls others is set then_set g other.
      one_of_parts (rows_after (rows_after (founding_world group vocabulary) sets) later) u v (lawful_now group vocabulary sets later is set then_set)
      (part_before group vocabulary sets later is set then_set i u calls g) (part_observed group vocabulary sets later is set then_set j v others other);
  after_observer = λ group vocabulary sets later i j u v calls others is set then_set g other.
      one_of_parts (rows_after (rows_after (founding_world group vocabulary) sets) later) u v (lawful_now group vocabulary sets later is set then_set)
      (part_was_observed group vocabulary sets later is set then_set i u calls g) (part_now group vocabulary sets later is set then_set j v others other);
}
