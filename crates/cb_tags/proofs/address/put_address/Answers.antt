use Rattle.cb_tags.specs.Addresses.{address}
use Rattle.cb_tags.proofs.Prefixes.{Puts-fault, Puts-after, PutsPrefix-more, PutsPrefix-after}
use Rattle.cb_tags.proofs.address.put_address.Goals as goal

pub returns-in_err-put_text : goal.returns-in_err-put_text
unfolding address
returns-in_err-put_text g c =
    Puts-fault _ _ _ _ _ c.from_residual.ensures.1
    (PutsPrefix-more _ _ _ _ c.in_err-put_text.ensures)

pub returns-in_err-put_escaped : goal.returns-in_err-put_escaped
unfolding address
returns-in_err-put_escaped g c =
    Puts-fault _ _ _ _ _ c.from_residual-in_err-put_escaped.ensures.1
    (PutsPrefix-after _ _ _ _ _ c.in_ok-put_text.ensures
    (PutsPrefix-more _ _ _ _ c.in_err-put_escaped.ensures))

pub returns : goal.returns
unfolding address
returns g c =
    Puts-after _ _ _ _ _ _ c.in_ok-put_text.ensures
    (Puts-after _ _ _ _ _ _ c.in_ok-put_escaped.ensures c.put_text-2.ensures)
