use Rattle.rbac_lines.proofs.EventLemmas.{client_clip}
use Rattle.rbac_lines.proofs.reading.client.kept_line_asks_the_same.Goals as goal

pub returns : goal.returns
returns c = client_clip
