use Rattle.std.proofs.Common.{◌∙◌, sym, ap}
use Rattle.cb_index.specs.Held.{all_entries, entries_of}
use Rattle.cb_index.specs.Kinds.{def_kind, lister_of}
use Rattle.cb_index.specs.steps.DefSearch.{first_among}
use Rattle.cb_index.specs.steps.ShownIn.{shown_in}
use Rattle.cb_index.proofs.DefSearchLemmas.{among_all, among_both}
use Rattle.cb_index.proofs.tags.DefSearch.first.Goals as goal

pub loop-one-preserved : goal.loop-one-preserved
loop-one-preserved c =
    let s = c.args.self.now in
    let a = s.archive.now in
    let lister = lister_of (def_kind s.by_tag_name) in
    let rest = all_entries lister a (shown_in c.in-Some.rest) in
    ap (λ o. first_among s o rest) c.first_in-first.ensures
    ∙ sym (among_both s c.loop-one.first (entries_of lister a c.in-Some.one) rest)
    ∙ ap (λ l. first_among s c.loop-one.first (all_entries lister a l)) (sym c.in-Some.ensures)
    ∙ c.loop-one.invariant

pub returns : goal.returns
returns c =
    let s = c.args.self.now in
    let a = s.archive.now in
    let lister = lister_of (def_kind s.by_tag_name) in
    ap (λ l. first_among s c.loop-one.first (all_entries lister a l)) (sym c.in_default.ensures)
    ∙ c.loop-one.invariant
    ∙ among_all s (all_entries lister a (shown_in s.shown))
