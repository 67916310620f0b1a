use Rattle.bit_rows.proofs.BitLemmas.{IsJoined}
use Rattle.bit_rows.proofs.row.BitRow.join.Given as goal

abbrev pub invariant-loop-k : goal.invariant-loop-k
invariant-loop-k l = IsJoined l.initial.self-inside.words.items l.other-inside.words.items l.k l.grown l.self-inside.words.items
