use Rattle.std.proofs.Common.{ap, slice_index_or}
use Rattle.std.proofs.lemmas.List.Edits.{map_over_more}
use Rattle.cb_lsp.specs.Documents.{as_lost}
use Rattle.cb_lsp.proofs.documents.Documents.lose_all.Goals as goal

pub loop-document-preserved : goal.loop-document-preserved
loop-document-preserved c =
    let ds = c.loop-document.document-items in
    let i = c.loop-document.document-index in
    rw c.lose.ensures
    (map_over_more as_lost c.deref_mut-document-items.result.now ds i
    (slice_index_or ds i c.document-item.result) c.loop-document-test.true
    c.loop-document.invariant (ap (λ d. slice_index_or ds i d) c.document-item.is))
