use Rattle.std.proofs.Common.{◌∙◌, None, Some, ap, refl, subst}
use Rattle.cb_index.specs.steps.Left.{fact_of_spot}
use Rattle.cb_lsp.specs.Documents.{Oracle}
use Rattle.cb_lsp.specs.Renames.{are_open, checks, files_of}
use Rattle.cb_lsp.specs.steps.Located.{client_in}
use Rattle.cb_lsp.specs.steps.Same.{spots_left}
use Rattle.cb_lsp.specs.steps.Renames.{ComesTo, reason_of, work_in}
use Rattle.cb_lsp.proofs.Unedited.{so-begun, so-edited, so-ends, so-stays}
use Rattle.cb_lsp.proofs.rename.Renaming.first_unedited.Goals as goal

pub uses-init : goal.uses-init
uses-init g c =
    let f = c.args.self.now in
    so-begun (g.D.Disk.finds c.args.disk.now) (client_in f.asked.forms) (work_in f)
    c.are_open-all_open.result (spots_left c.args.uses)

pub returns-in-Some-unedited_if : goal.returns-in-Some-unedited_if
returns-in-Some-unedited_if g c =
    let f = c.args.self.now in
    let finds = g.D.Disk.finds c.args.disk.now in
    let told = c.in-Some-unedited_if.ensures in
    let why = reason_of c.in-Some-unedited_if.why in
    let us = spots_left c.args.uses in
    let are = c.are_open-all_open.ensures
    ∙ ap (are_open (work_in f).documents) c.again.ensures in
    subst (λ b. (o : Oracle) × ComesTo finds (checks o (client_in f.asked.forms) (work_in f) b
    (files_of us)) (Some c.in-Some-unedited_if.why)) are
    (so-stays finds (client_in f.asked.forms) (work_in f) c.are_open-all_open.result us
    (spots_left c.uses.left) (spots_left c.next.new.self) (fact_of_spot c.in-Some.spot)
    c.uses.opens told.0 told.1 (Some c.in-Some-unedited_if.why) why c.uses.invariant c.requires
    c.in-Some.ensures.steps told.2.0 told.2.1 refl)

pub uses-preserved : goal.uses-preserved
uses-preserved g c =
    let f = c.args.self.now in
    let told = c.in-None.ensures in
    so-edited (g.D.Disk.finds c.args.disk.now) (client_in f.asked.forms) (work_in f)
    c.are_open-all_open.result (spots_left c.args.uses) (spots_left c.uses.left)
    (spots_left c.next.new.self) (fact_of_spot c.in-Some.spot) c.uses.opens
    c.is_last_of-opens.result told.0 told.1 c.uses.invariant c.in-Some.ensures.steps told.2.0
    told.2.1 c.is_last_of-opens.ensures

pub returns : goal.returns
returns g c =
    let f = c.args.self.now in
    let finds = g.D.Disk.finds c.args.disk.now in
    let us = spots_left c.args.uses in
    let are = c.are_open-all_open.ensures
    ∙ ap (are_open (work_in f).documents) c.again.ensures in
    subst (λ b. (o : Oracle) × ComesTo finds (checks o (client_in f.asked.forms) (work_in f) b
    (files_of us)) None) are
    (so-ends finds (client_in f.asked.forms) (work_in f) c.are_open-all_open.result us
    (spots_left c.uses.left) c.uses.opens c.uses.invariant c.requires
    c.in_default.ensures.steps.0)
