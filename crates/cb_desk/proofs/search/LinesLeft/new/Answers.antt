use Rattle.std.proofs.Common.{ap, length, arith}
use Rattle.bstr.proofs.lemmas.LengthLemmas.{length-lines}
use Rattle.cb_desk.proofs.search.LinesLeft.new.Goals as goal

pub returns-clause-len : goal.returns-clause-len
returns-clause-len c =
    omega (arith, length-lines c.args.source.now, ap length c.bytes.ensures.value)
