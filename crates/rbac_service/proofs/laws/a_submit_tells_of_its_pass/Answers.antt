use Rattle.rbac_service.proofs.SubmitLemmas.{submitted_tells, refusal_tells}
use Rattle.rbac_service.proofs.laws.a_submit_tells_of_its_pass.Goals as goal

pub returns : goal.returns
returns c = record {
  submitted = submitted_tells;
  idle = λ group vocabulary p refusal h s b. (refusal_tells group vocabulary p refusal h s b).0;
  member = λ group vocabulary p refusal h s b f. (refusal_tells group vocabulary p refusal h s b).1 f;
}
