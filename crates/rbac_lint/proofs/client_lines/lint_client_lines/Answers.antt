use Rattle.std.proofs.Common.{◌≡◌, IfOk, IfSome, subst}
use Rattle.line_engine.specs.Lines.{lines}
use Rattle.rbac_lines.proofs.EventLemmas.{client_clip}
use Rattle.rbac_lines.proofs.RunLemmas.{whole_taking}
use Rattle.rbac_text.specs.Client.{client}
use Rattle.rbac_lint.specs.Clean.{AreRead}
use Rattle.rbac_lint.proofs.CleanLemmas.{all_read}
use Rattle.rbac_lint.proofs.client_lines.lint_client_lines.Goals as goal

pub returns : goal.returns
returns g c =
    let o = c.run_lines.ensures.outcome in
    subst (λ reader. IfOk c.run_lines.result (λ summary. IfSome (g.R.Read.remaining reader) (λ input. summary.refused ≡ 0 → AreRead client (lines input))))
    c.watch.ensures.inner
    (whole_taking _ _ _ _ _ _ _ _ c.run_lines.result o.0 _ o.1 c.run_lines.ensures.at_end c.run_lines.ensures.ended o.2
    (λ summary all took. all_read client client_clip 1 _ _ (lines all) took.text summary.refused took.all))
