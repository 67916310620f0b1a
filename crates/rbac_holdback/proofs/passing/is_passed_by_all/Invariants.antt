use Rattle.std.proofs.Common.{◌≡◌, length}
use Rattle.rbac_words.specs.Keeping.Member.{is_passed}
use Rattle.rbac_holdback.proofs.PassedLemmas.{passed_from}
use Rattle.rbac_holdback.proofs.passing.is_passed_by_all.Given as goal

abbrev pub invariant-loop-place : goal.invariant-loop-place
invariant-loop-place l = passed_from l.me l.latest l.held.stamp l.place ≡ is_passed (length l.latest) l.me l.latest l.held
