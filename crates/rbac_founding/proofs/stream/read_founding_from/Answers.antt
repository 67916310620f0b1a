use Rattle.std.proofs.Common.{◌≡◌, ◌∙◌, ap, Ok, Err, rules}
use Rattle.rbac_founding.specs.declared.refusal.StreamRefusal.TheVariants.{Founding}
use Rattle.rbac_founding.proofs.StreamLemmas.{known_file}
use Rattle.rbac_founding.proofs.stream.read_founding_from.Goals as goal

pub returns-in_ok-read_founding-in-Ok-clause-founding_read : goal.returns-in_ok-read_founding-in-Ok-clause-founding_read
returns-in_ok-read_founding-in-Ok-clause-founding_read g c =
    known_file (g.R.Read.remaining c.args.reader) c.in-Ok.bytes.items c.deref.result.now (Ok c.in_ok-read_founding-in-Ok.field-0) c.in-Ok.ensures c.deref.ensures.value
    c.in_ok-read_founding-in-Ok.ensures.founding_read

pub returns-in_err-read_founding-in-Ok-clause-first_refusal : goal.returns-in_err-read_founding-in-Ok-clause-first_refusal
returns-in_err-read_founding-in-Ok-clause-first_refusal g c = λ refusal is other.
    let found = c.in_err-read_founding-in-Ok.field-0.0 in
    let answered : c.from_residual.result ≡ Err (Founding found) = search rules in
    let same : found ≡ refusal = cc in
    known_file (g.R.Read.remaining c.args.reader) c.in-Ok.bytes.items c.deref.result.now (Err refusal) c.in-Ok.ensures c.deref.ensures.value
    (c.in_err-read_founding-in-Ok.ensures.first_refusal (λ memory. other (cc)) ∙ ap Err same)
