use Rattle.rbac_dump.proofs.DumpLemmas.{dump_leads}
use Rattle.rbac_dump.proofs.Sizes.{dump_fits}
use Rattle.rbac_dump.proofs.laws.a_dump_makes_its_state.Goals as goal

pub returns : goal.returns
returns c = record { made = λ room s h. (dump_leads room s h).0; done = λ room s h. (dump_leads room s h).1; sets = λ room s h. (dump_leads room s h).2; fits = dump_fits }
