use Rattle.rbac_founding.proofs.StreamLemmas.{front_read}
use Rattle.rbac_founding.proofs.stream.bytes_of.Goals as goal

pub returns : goal.returns
returns g c =
    front_read g.R.Read.remaining c.take.result c.args.reader 1048577 c.new-bytes.result.items c.read_to_end.new.buf.items c.take.ensures.limit c.take.ensures.inner c.new-bytes.ensures.items
    c.in_ok-read_to_end.ensures.bytes
