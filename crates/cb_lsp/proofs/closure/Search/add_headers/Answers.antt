use Rattle.std.proofs.Common.{◌∙◌, ◌||◌, ◌+◌, ap, false, sym, take, List, ℕ}
use Rattle.std.specs.List.{list_any}
use Rattle.std.specs.Option.{option_map_or}
use Rattle.std.specs.Str.{bytes_eq}
use Rattle.std.proofs.lemmas.List.Folds.{list_any_more}
use Rattle.cb_lsp.specs.Closures.{meant, means}
use Rattle.cb_lsp.specs.steps.Closures.{names_of}
use Rattle.cb_lsp.proofs.ClosureSearch.{finds_same, finds_then}
use Rattle.cb_lsp.proofs.closure.Search.add_headers.Goals as goal

pub loop-include-preserved : goal.loop-include-preserved
loop-include-preserved c =
    let fs = c.args.names.now.desk.now.timeline.present.files in
    let from = c.args.from.now in
    let is = c.args.includes.now in
    let i = c.loop-include.include-index in
    let before = λ (name : List ℕ). list_any (means fs from c.args.source.now name) (take i is) in
    let header = c.bytes_of.result.now in
    let here = λ (name : List ℕ). option_map_or (bytes_eq name) (meant fs from header) false in
    finds_same (names_of fs) (λ name. before name || here name)
    (λ name. list_any (means fs from c.args.source.now name) (take (i + 1) is))
    c.args.self.now c.add_header.new.self
    (λ name. ap (λ h. before name || option_map_or (bytes_eq name) (meant fs from h) false)
    c.bytes_of.ensures
    ∙ sym (list_any_more (means fs from c.args.source.now name) is i _ c.loop-include-test.true))
    (finds_then (names_of fs) before here c.args.self.now c.loop-include.self c.add_header.new.self
    c.loop-include.invariant c.in_ok-add_header.ensures)
