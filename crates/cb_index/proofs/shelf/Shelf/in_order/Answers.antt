use Rattle.std.proofs.Common.{◌∙◌, None, refl, sym, ap, filter, length, map, subst, arith}
use Rattle.cb_index.specs.Files.{count_for}
use Rattle.cb_index.specs.Held.{all_entries}
use Rattle.cb_index.specs.Kinds.{def_kind, lister_of}
use Rattle.cb_index.specs.Shelved.{IsIndex, Shelved}
use Rattle.cb_index.specs.steps.Found.{tag_at}
use Rattle.cb_index.specs.steps.ToCome.{asked_tags, is_asked, to_come}
use Rattle.cb_index.proofs.DefSearchLemmas.{asked_first}
use Rattle.cb_index.proofs.FewerLemmas.{fewer_of}
use Rattle.cb_index.proofs.IndexLemmas.{length_all}
use Rattle.cb_index.proofs.KeptLemmas.{all_held, defs_fit, in_its_order}
use Rattle.cb_index.proofs.shelf.Shelf.in_order.Goals as goal

-- there is a number for the definitions of all that is shown
pub new-requires-clause-few : goal.new-requires-clause-few
new-requires-clause-few c =
    let s = c.self.inside in
    let kind = def_kind c.args.by_tag_name in
    let all =
    length_all (lister_of kind) (count_for kind) (fewer_of kind) s.archive s.shown.items in
    let within =
    defs_fit c.args.by_tag_name s.archive s.shown.items _ s.totals s.room s.indexes
    c.self.invariant.1 c.self.invariant.2 in
    let same =
    ap (λ l. length (all_entries (lister_of kind) s.archive l)) c.files-shown.ensures in
    omega (arith, all, within, same, c.read_room.ensures.defs)

pub returns-then-not-is_flushed-clause-tags : goal.returns-then-not-is_flushed-clause-tags
returns-then-not-is_flushed-clause-tags c =
    let s = c.self.inside in
    let kind = def_kind c.args.by_tag_name in
    let asked = c.args.asked in
    ap (map (tag_at s.archive))
    (c.new.ensures ∙ ap (λ l. to_come kind s.archive asked None
    (all_entries (lister_of kind) s.archive l)) c.files-shown.ensures
    ∙ asked_first kind s.archive asked (all_entries (lister_of kind) s.archive s.shown.items))
    ∙ ap (λ (v : Shelved). asked_tags kind v.archive asked v.shown) c.self.view_is

pub asked-requires : goal.asked-requires
asked-requires c =
    let x = c.index-index.result.now in
    let is =
    subst (λ (s : Shelved). IsIndex s.archive s.shown x)
    (sym c.self.view_is) c.index-index.ensures.index in
    in_its_order x.kind c.self.inside.archive c.self.inside.shown.items x refl is

pub returns-clause-tags : goal.returns-clause-tags
returns-clause-tags c =
    let s = c.self.inside in
    let kind = def_kind c.args.by_tag_name in
    let asked = c.args.asked in
    let x = c.index-index.result.now in
    let same = c.index-index.ensures.kind in
    let is =
    subst (λ (s : Shelved). IsIndex s.archive s.shown x)
    (sym c.self.view_is) c.index-index.ensures.index in
    let held =
    all_held kind s.archive s.shown.items x same
    (c.is_flushed.ensures c.if-not-is_flushed.false) is in
    ap (map (tag_at s.archive))
    (c.asked.ensures ∙ (λ i. filter (is_asked (same i) s.archive asked) (held i)))
    ∙ ap (λ (v : Shelved). asked_tags kind v.archive asked v.shown) c.self.view_is
