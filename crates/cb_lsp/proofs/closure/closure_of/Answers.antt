use Rattle.std.proofs.Common.{◌∙◌, refl, subst, sym}
use Rattle.cb_lsp.specs.Closures.{includes}
use Rattle.cb_lsp.specs.steps.Closures.{Finds, names_of}
use Rattle.cb_lsp.proofs.ClosureSearch.{closes_all, closes_first, closes_more, no_items}
use Rattle.cb_lsp.proofs.closure.closure_of.Goals as goal

pub files-init : goal.files-init
files-init c =
    closes_first c.args.desk.now.timeline.present c.args.from.now
    (record { found = c.new-2.result; left = c.new-3.result }) c.add.new.self
    c.new-2.ensures.empty c.new-3.ensures.items c.in_ok-add.ensures

pub files-preserved : goal.files-preserved
files-preserved c =
    closes_more c.args.desk.now.timeline.present c.args.from.now c.in-Some.name c.files.search
    (record { found = c.files.search.found; left = c.pop.new.self }) c.add_includes.new.self
    c.files.invariant refl c.in-Some.ensures.items
    (subst (λ d. Finds (names_of d.now.timeline.present.files)
    (includes d.now.timeline.present c.in-Some.name.now)
    (record { found = c.files.search.found; left = c.pop.new.self }) c.add_includes.new.self)
    c.in_ok-names.ensures c.in_ok-add_includes.ensures)

pub returns : goal.returns
returns c = λ name.
    let left = c.files.search.left in
    closes_all c.args.desk.now.timeline.present c.args.from.now name c.files.search
    c.files.invariant (no_items left.items (sym left.ok.0 ∙ c.in_default.ensures.cases.0))
