use Rattle.std.proofs.Common.{take}
use Rattle.std.specs.List.{list_any}
use Rattle.cb_lsp.specs.Closures.{means}
use Rattle.cb_lsp.specs.steps.Closures.{Finds, names_of}
use Rattle.cb_lsp.proofs.closure.Search.add_headers.Given as goal

abbrev pub invariant-loop-include : goal.invariant-loop-include
invariant-loop-include l =
    let fs = l.names.desk.now.timeline.present.files in
    Finds (names_of fs)
    (λ name. list_any (means fs l.from l.source name) (take l.include-index l.includes))
    l.fn.self l.self
