use Rattle.cb_tags.proofs.Prefixes.{Puts-after, Puts-fault, PutsPrefix-more}
use Rattle.cb_wire.proofs.list.put_behind.Goals as goal

pub returns-in_err-put_text : goal.returns-in_err-put_text
returns-in_err-put_text g c =
    Puts-fault _ _ _ _ _ c.from_residual.ensures.1
    (PutsPrefix-more _ _ _ _ c.in_err-put_text.ensures)

pub returns : goal.returns
returns g c = Puts-after _ _ _ _ _ _ c.in_ok-put_text.ensures c.put.ensures
