use Rattle.std.proofs.Common.{subst, ap, ◌∙◌, ◌++◌, append_assoc, []}
use Rattle.cb_tags.specs.Writing.{Puts}
use Rattle.cb_tags.proofs.Prefixes.{Puts-after, Puts-fault, PutsPrefix-more}
use Rattle.cb_wire.specs.Uris.{escaped}
use Rattle.cb_wire.proofs.root.Root.put_uri.Goals as goal

pub returns : goal.returns
returns g c =
    let path = escaped c.args.name.now in
    let slash = c.front-size.result.2.now in
    let front = c.front-size.result.0.now in
    subst (Puts c.args.out.now c.put_escaped.new.out c.put_escaped.result)
    (append_assoc front (slash ++ []) path
    ∙ ap (λ l. front ++ l) (append_assoc slash [] path) ∙ c.front-size.ensures.uri)
    (Puts-after _ _ _ _ _ _ c.in_ok-put_texts.ensures c.put_escaped.ensures)

pub returns-in_err-put_texts : goal.returns-in_err-put_texts
returns-in_err-put_texts g c =
    let path = escaped c.args.name.now in
    let slash = c.front-size.result.2.now in
    let front = c.front-size.result.0.now in
    subst (Puts c.args.out.now c.put_texts.new.out c.from_residual.result)
    (append_assoc front (slash ++ []) path
    ∙ ap (λ l. front ++ l) (append_assoc slash [] path) ∙ c.front-size.ensures.uri)
    (Puts-fault _ _ _ _ _ c.from_residual.ensures.1
    (PutsPrefix-more _ _ _ _ c.in_err-put_texts.ensures))
