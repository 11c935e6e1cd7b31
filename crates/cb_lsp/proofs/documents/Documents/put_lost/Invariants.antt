use Rattle.std.proofs.Common.{flat_map, take}
use Rattle.cb_tags.specs.Writing.{PutsAll}
use Rattle.cb_lsp.specs.steps.Told.{lost_text}
use Rattle.cb_lsp.proofs.documents.Documents.put_lost.Given as goal

abbrev pub invariant-loop-document : goal.invariant-loop-document
invariant-loop-document g l =
    PutsAll l.fn.out l.out (flat_map lost_text (take l.document-index l.document-items))
