use Rattle.std.proofs.Common.{◌∙◌}
use Rattle.toml.specs.View.{table_view}
use Rattle.rbac_founding.proofs.FoundingLemmas.{of_version}
use Rattle.rbac_founding.proofs.document.right_keys.Goals as goal

pub returns-in-First : goal.returns-in-First
returns-in-First c = c.check_keys.ensures ∙ of_version (table_view c.args.document.now) _ _ c.in_ok-version_of.ensures c.in-First.is

pub returns-in-Second : goal.returns-in-Second
returns-in-Second c = c.check_keys-in-Second.ensures ∙ of_version (table_view c.args.document.now) _ _ c.in_ok-version_of.ensures c.in-Second.is
