use Rattle.std.proofs.Common.{subst, sym}
use Rattle.cb_tags.specs.Writing.{Puts}
use Rattle.cb_tags.proofs.Prefixes.{Puts-after, Puts-fault, PutsPrefix-after, PutsPrefix-more}
use Rattle.cb_wire.proofs.Plain.{escape-uri}
use Rattle.cb_wire.proofs.root.Root.put_uri_inside.Goals as goal

pub returns-in_err-put_sized : goal.returns-in_err-put_sized
returns-in_err-put_sized g c =
    subst (Puts c.args.out.now c.put_sized.new.out c.from_residual.result)
    (sym (escape-uri _ _ c.args.name.now _ c.front-size.ensures.uri))
    (Puts-fault _ _ _ _ _ c.from_residual.ensures.1
    (PutsPrefix-more _ _ _ _ c.in_err-put_sized.ensures))

pub returns-in_err-put_json : goal.returns-in_err-put_json
returns-in_err-put_json g c =
    subst (Puts c.args.out.now c.put_json.new.out c.from_residual-in_err-put_json.result)
    (sym (escape-uri _ _ c.args.name.now _ c.front-size.ensures.uri))
    (Puts-fault _ _ _ _ _ c.from_residual-in_err-put_json.ensures.1
    (PutsPrefix-after _ _ _ _ _ c.in_ok-put_sized.ensures
    (PutsPrefix-more _ _ _ _ c.in_err-put_json.ensures)))

pub returns : goal.returns
returns g c =
    subst (Puts c.args.out.now c.put_escaped.new.out c.put_escaped.result)
    (sym (escape-uri _ _ c.args.name.now _ c.front-size.ensures.uri))
    (Puts-after _ _ _ _ _ _ c.in_ok-put_sized.ensures
    (Puts-after _ _ _ _ _ _ c.in_ok-put_json.ensures c.put_escaped.ensures))
