use Rattle.std.proofs.Common.{◌∙◌, ◌++◌, ap, codes, map, subst, sym}
use Rattle.cb_tags.specs.Writing.{Puts}
use Rattle.cb_tags.proofs.Prefixes.{Puts-after, Puts-fault, PutsPrefix-after, PutsPrefix-more}
use Rattle.cb_wire.specs.Calls.{call_item_tree, range_text}
use Rattle.cb_wire.specs.Lists.{list_text}
use Rattle.cb_wire.specs.Values.{value_text}
use Rattle.cb_wire.proofs.CallItems.{calls-text}
use Rattle.cb_wire.proofs.calls.CallsElement.put.Goals as goal

pub returns-in_err-put_text : goal.returns-in_err-put_text
returns-in_err-put_text g c =
    let e = c.args.self.now in
    let rs = map g.R.Ranged.range e.calls.now in
    let behind = value_text (call_item_tree e.item) ++ list_text (codes ",\"fromRanges\":[")
    (codes ",") (codes "]}") (map range_text rs) in
    subst (Puts c.args.out.now c.put_text.new.out c.from_residual.result)
    (ap (λ t. t ++ behind) c.side_front.ensures.value ∙ sym (calls-text e.side (call_item_tree e.item) rs))
    (Puts-fault _ _ _ _ _ c.from_residual.ensures.1
    (PutsPrefix-more _ _ _ _ c.in_err-put_text.ensures))

pub returns-in_err-put : goal.returns-in_err-put
returns-in_err-put g c =
    let e = c.args.self.now in
    let rs = map g.R.Ranged.range e.calls.now in
    let behind = value_text (call_item_tree e.item) ++ list_text (codes ",\"fromRanges\":[")
    (codes ",") (codes "]}") (map range_text rs) in
    subst (Puts c.args.out.now c.put.new.out c.from_residual-in_err-put.result)
    (ap (λ t. t ++ behind) c.side_front.ensures.value ∙ sym (calls-text e.side (call_item_tree e.item) rs))
    (Puts-fault _ _ _ _ _ c.from_residual-in_err-put.ensures.1
    (PutsPrefix-after _ _ _ _ _ c.in_ok-put_text.ensures
    (PutsPrefix-more _ _ _ _ c.in_err-put.ensures)))

pub returns : goal.returns
returns g c =
    let e = c.args.self.now in
    let rs = map g.R.Ranged.range e.calls.now in
    let behind = value_text (call_item_tree e.item) ++ list_text (codes ",\"fromRanges\":[")
    (codes ",") (codes "]}") (map range_text rs) in
    subst (Puts c.args.out.now c.put_list.new.out c.put_list.result)
    (ap (λ t. t ++ behind) c.side_front.ensures.value ∙ sym (calls-text e.side (call_item_tree e.item) rs))
    (Puts-after _ _ _ _ _ _ c.in_ok-put_text.ensures
    (Puts-after _ _ _ _ _ _ c.in_ok-put.ensures c.put_list.ensures))
