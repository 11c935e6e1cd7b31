use Rattle.cb_session.proofs.Puts.{Puts-after, Puts-unfinished}
use Rattle.cb_session.proofs.tags.put_tags_file.Goals as goal

pub returns-in_err-put_heads_of : goal.returns-in_err-put_heads_of
returns-in_err-put_heads_of g c =
    let k = c.in_err-put_heads_of.ensures in
    Puts-unfinished _ _ _ _ _ _ c.from_residual.ensures.1 k.1 k.0

pub returns : goal.returns
returns g c = Puts-after _ _ _ _ _ _ c.in_ok-put_heads_of.ensures.0 c.put_tags.ensures
