use Rattle.std.proofs.Common.{subst, ap, ◌∙◌, length}
use Rattle.cb_tags.specs.Writing.{Puts}
use Rattle.cb_tags.proofs.Prefixes.{Puts-after, Puts-fault, PutsPrefix-after, PutsPrefix-more}
use Rattle.cb_wire.specs.Lists.{list_text}
use Rattle.cb_wire.specs.Texts.{parts_text}
use Rattle.cb_wire.proofs.Lists.{result-framed}
use Rattle.cb_wire.proofs.list.put_list_result.Goals as goal

pub returns-in_err-put_result_front : goal.returns-in_err-put_result_front
returns-in_err-put_result_front g c =
    let counted =
    c.list_length-length.ensures.value
    ∙ ap (λ ts. length (list_text c.args.head.now c.args.between.now
    (parts_text c.args.tail.now) ts)) c.again.ensures in
    subst (Puts c.args.out.now c.put_result_front.new.out c.from_residual.result)
    (result-framed c.args.id _ c.list_length-length.result counted)
    (Puts-fault _ _ _ _ _ c.from_residual.ensures.1
    (PutsPrefix-more _ _ _ _ c.in_err-put_result_front.ensures))

pub returns-in_err-put_list : goal.returns-in_err-put_list
returns-in_err-put_list g c =
    let counted =
    c.list_length-length.ensures.value
    ∙ ap (λ ts. length (list_text c.args.head.now c.args.between.now
    (parts_text c.args.tail.now) ts)) c.again.ensures in
    subst (Puts c.args.out.now c.put_list.new.out c.from_residual-in_err-put_list.result)
    (result-framed c.args.id _ c.list_length-length.result counted)
    (Puts-fault _ _ _ _ _ c.from_residual-in_err-put_list.ensures.1
    (PutsPrefix-after _ _ _ _ _ c.in_ok-put_result_front.ensures
    (PutsPrefix-more _ _ _ _ c.in_err-put_list.ensures)))

pub returns : goal.returns
returns g c =
    let counted =
    c.list_length-length.ensures.value
    ∙ ap (λ ts. length (list_text c.args.head.now c.args.between.now
    (parts_text c.args.tail.now) ts)) c.again.ensures in
    subst (Puts c.args.out.now c.put_result_end.new.out c.put_result_end.result)
    (result-framed c.args.id _ c.list_length-length.result counted)
    (Puts-after _ _ _ _ _ _ c.in_ok-put_result_front.ensures
    (Puts-after _ _ _ _ _ _ c.in_ok-put_list.ensures c.put_result_end.ensures))
