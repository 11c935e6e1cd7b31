use Rattle.std.proofs.Common.{◌≡◌, ◌++◌, drop, map, take}
use Rattle.cb_lsp.specs.Documents.{as_lost}
use Rattle.cb_lsp.proofs.documents.Documents.lose_all.Given as goal

abbrev pub invariant-loop-document : goal.invariant-loop-document
invariant-loop-document l =
    l.document-items ≡ map as_lost (take l.document-index l.initial.document-items)
    ++ drop l.document-index l.initial.document-items
