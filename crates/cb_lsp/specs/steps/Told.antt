-- What the client is told of one document where all are lost.
use Rattle.std.specs.Prelude.{ℕ, List}
use Rattle.cb_lsp.specs.Bodies.{written_text}
use Rattle.cb_lsp.specs.Documents.{Document, told_unless}
use Rattle.cb_lsp.specs.Messages.{dropped_text, show_if}

abbrev pub lost_text : Document → List ℕ
lost_text d = written_text (show_if d.name (told_unless d.lost dropped_text))
