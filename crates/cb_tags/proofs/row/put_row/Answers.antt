use Rattle.cb_tags.proofs.Prefixes.{Puts-fault, Puts-after, PutsPrefix-more, PutsPrefix-after}
use Rattle.cb_tags.proofs.row.put_row.Goals as goal

pub returns-in_err-put_texts : goal.returns-in_err-put_texts
returns-in_err-put_texts g c =
    Puts-fault _ _ _ _ _ c.from_residual.ensures.1
    (PutsPrefix-more _ _ _ _ c.in_err-put_texts.ensures)

pub returns-in_err-put_address : goal.returns-in_err-put_address
returns-in_err-put_address g c =
    Puts-fault _ _ _ _ _ c.from_residual-in_err-put_address.ensures.1
    (PutsPrefix-after _ _ _ _ _ c.in_ok-put_texts.ensures
    (PutsPrefix-more _ _ _ _ c.in_err-put_address.ensures))

pub returns : goal.returns
returns g c =
    Puts-after _ _ _ _ _ _ c.in_ok-put_texts.ensures
    (Puts-after _ _ _ _ _ _ c.in_ok-put_address.ensures c.put_fields.ensures)
