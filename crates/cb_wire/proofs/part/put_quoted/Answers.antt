use Rattle.cb_tags.proofs.Prefixes.{Puts-fault, Puts-after, PutsPrefix-more, PutsPrefix-after}
use Rattle.cb_wire.proofs.part.put_quoted.Goals as goal

pub returns-in_err-put_text : goal.returns-in_err-put_text
returns-in_err-put_text g c =
    Puts-fault _ _ _ _ _ c.from_residual.ensures.1
    (PutsPrefix-more _ _ _ _ c.in_err-put_text.ensures)

pub returns-in_err-put_json : goal.returns-in_err-put_json
returns-in_err-put_json g c =
    Puts-fault _ _ _ _ _ c.from_residual-in_err-put_json.ensures.1
    (PutsPrefix-after _ _ _ _ _ c.in_ok-put_text.ensures
    (PutsPrefix-more _ _ _ _ c.in_err-put_json.ensures))

pub returns : goal.returns
returns g c =
    Puts-after _ _ _ _ _ _ c.in_ok-put_text.ensures
    (Puts-after _ _ _ _ _ _ c.in_ok-put_json.ensures c.put_text-2.ensures)
