use Rattle.std.proofs.Common.{ap, false, sym}
use Rattle.std.specs.Option.{option_map_or}
use Rattle.std.specs.Str.{bytes_eq}
use Rattle.cb_lsp.specs.Closures.{meant}
use Rattle.cb_lsp.specs.steps.Closures.{names_of}
use Rattle.cb_lsp.proofs.ClosureHeaders.{meant_is_one}
use Rattle.cb_lsp.proofs.ClosureSearch.{finds_same}
use Rattle.cb_lsp.proofs.closure.Search.add_header.Goals as goal

pub returns-in_ok-add : goal.returns-in_ok-add
returns-in_ok-add c =
    let fs = c.args.names.now.desk.now.timeline.present.files in
    let from = c.args.from.now in
    let header = c.args.header.now in
    let name = c.in-Some.name.now in
    finds_same (names_of fs) (λ other. bytes_eq other name)
    (λ other. option_map_or (bytes_eq other) (meant fs from header) false)
    c.args.self.now c.add.new.self
    (λ other. ap (λ o. option_map_or (bytes_eq other) o false) c.in-Some.ensures)
    (c.in_ok-add.ensures (names_of fs)
    (meant_is_one fs from header name (sym c.in-Some.ensures)))
