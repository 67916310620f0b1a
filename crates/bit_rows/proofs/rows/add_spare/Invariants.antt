use Rattle.std.proofs.Common.{◌≤◌, ◌*◌, ◌-◌, length}
use Rattle.bit_rows.specs.Bits.{AreWide}
use Rattle.bit_rows.proofs.rows.add_spare.Given as goal

abbrev pub invariant-loop-alloc : goal.invariant-loop-alloc
invariant-loop-alloc l = record {
  wide : AreWide l.spare.items (64 * l.words);
  not_fewer : length l.fn.spare.items ≤ length l.spare.items;
}

abbrev pub decreases-loop-alloc : goal.decreases-loop-alloc
decreases-loop-alloc l = l.many - length l.spare.items
