use Rattle.std.proofs.Common.{◌≤◌, length, subst}
use Rattle.cb_lsp.specs.steps.LineMarks.{IsLineMark}
use Rattle.cb_lsp.proofs.LineMarks.{mark-put}
use Rattle.cb_lsp.proofs.edited.Edited.put.Goals as goal

pub invariant_of-self : goal.invariant_of-self
invariant_of-self c =
    let is = c.as_slice.ensures.value in
    let places = c.places_of-start.result in
    let found = c.places_of-start.ensures in
    mark-put c.self.inside.text.items places.2.place places.2.feeds
    (subst (λ t. IsLineMark t places.2.place places.2.feeds) is found.mark) places.0 c.max.result
    c.args.new.now found.before (subst (λ t. places.0 ≤ length t) is found.within.0)
    c.replace.result _ c.replace.ensures.ok c.replace.ensures.err
