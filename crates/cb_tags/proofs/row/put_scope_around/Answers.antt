use Rattle.cb_tags.proofs.Prefixes.{Puts-fault, Puts-after, PutsPrefix-more, PutsPrefix-after}
use Rattle.cb_tags.proofs.row.put_scope_around.Goals as goal

pub returns-in_err-put_texts : goal.returns-in_err-put_texts
returns-in_err-put_texts g c =
    Puts-fault _ _ _ _ _ c.from_residual.ensures.1
    (PutsPrefix-more _ _ _ _ c.in_err-put_texts.ensures)

pub returns-in_err-put_scope : goal.returns-in_err-put_scope
returns-in_err-put_scope g c =
    Puts-fault _ _ _ _ _ c.from_residual-in_err-put_scope.ensures.1
    (PutsPrefix-after _ _ _ _ _ c.in_ok-put_texts.ensures
    (PutsPrefix-more _ _ _ _ c.in_err-put_scope.ensures))

pub returns : goal.returns
returns g c =
    Puts-after _ _ _ _ _ _ c.in_ok-put_texts.ensures
    (Puts-after _ _ _ _ _ _ c.in_ok-put_scope.ensures c.put_texts-2.ensures)
