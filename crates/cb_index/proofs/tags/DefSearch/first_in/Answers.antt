use Rattle.std.proofs.Common.{◌≡◌, ◌∙◌, sym, ap, drop_of_length-le, map}
use Rattle.cb_index.specs.Held.{entry_of}
use Rattle.cb_index.specs.Kinds.{def_kind, lister_of}
use Rattle.cb_index.specs.Orders.{numbered, prefixed}
use Rattle.cb_index.specs.steps.DefSearch.{first_among}
use Rattle.cb_index.proofs.DefSearchLemmas.{listed_defs}
use Rattle.cb_index.proofs.tags.DefSearch.first_in.Goals as goal

pub returns : goal.returns
returns c =
    let s = c.args.self.now in
    let by = s.by_tag_name in
    let one = c.args.shown in
    let text = c.in-Some.version.now in
    let bytes = c.bytes-text.result.now in
    let defs = c.defs_of-defs.result.now in
    let same : bytes ≡ text.bytes = c.bytes-text.ensures.value ∙ c.source.ensures in
    ap (λ ds. first_among s c.loop-i.first
    (map (entry_of one) (numbered c.loop-i.i (map (prefixed by bytes) ds))))
    (sym (drop_of_length-le defs c.loop-i-test.false))
    ∙ c.loop-i.invariant
    ∙ (λ i. first_among s c.args.before
    (map (entry_of one) (numbered 0 (map (prefixed by (same i)) (c.defs_of-defs.ensures.value i)))))
    ∙ ap (λ items. first_among s c.args.before (map (entry_of one) items))
    (listed_defs by text ∙ ap (lister_of (def_kind by)) c.in-Some.ensures)
