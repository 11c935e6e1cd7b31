use Rattle.cbrowse.proofs.Process.{read_all}
use Rattle.cbrowse.proofs.execute.process.read_whole.Goals as goal

pub returns : goal.returns
returns g c =
    read_all g.F.Read.remaining c.take.result c.args.file c.in_ok-bytes.bytes.items
    c.read_to_end.new.buf.items c.args.most c.take.ensures.limit c.take.ensures.inner
    c.in_ok-bytes.ensures.items
    c.in_ok-read_to_end.ensures.bytes
