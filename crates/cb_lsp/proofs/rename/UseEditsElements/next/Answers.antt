use Rattle.cb_index.specs.steps.Left.{fact_of_spot}
use Rattle.cb_wire.specs.Locations.{location_tree}
use Rattle.cb_lsp.specs.steps.Same.{spots_left}
use Rattle.cb_lsp.proofs.RenameSteps.{next-edit, no-edit, no-more-edits, one-less}
use Rattle.cb_lsp.proofs.rename.UseEditsElements.next.Goals as goal

pub returns-then-self-eq0 : goal.returns-then-self-eq0
returns-then-self-eq0 c =
    let e = c.args.self.now in
    no-more-edits e.places.client e.places.files e.new_name.now e.opens e.most
    (spots_left e.rest) c.if-self-eq0.true

pub returns-in_default : goal.returns-in_default
returns-in_default c =
    let e = c.args.self.now in
    no-edit e.places.client e.places.files e.new_name.now e.opens e.most (spots_left e.rest)
    c.in_default.ensures.steps.0

pub returns : goal.returns
returns c =
    let e = c.args.self.now in
    next-edit e.places c.use_place.new.self e.new_name.now e.opens c.is_last_of-closes.result
    e.most _ (spots_left e.rest) (spots_left c.next.new.self)
    (fact_of_spot c.in-Some.spot) (location_tree c.use_place.result) c.use_place.ensures.same
    (one-less e.most c.if-self-eq0.false) c.in-Some.ensures.steps c.use_place.ensures.place
    c.is_last_of-closes.ensures
