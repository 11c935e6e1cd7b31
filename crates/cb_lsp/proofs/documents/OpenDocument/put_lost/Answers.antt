use Rattle.std.proofs.Common.{subst}
use Rattle.cb_tags.specs.Writing.{Puts}
use Rattle.cb_lsp.specs.Bodies.{written_text}
use Rattle.cb_lsp.specs.Documents.{Document, told_unless}
use Rattle.cb_lsp.specs.Messages.{dropped_text, show_if}
use Rattle.cb_lsp.specs.steps.Told.{lost_text}
use Rattle.cb_lsp.proofs.documents.OpenDocument.put_lost.Goals as goal

pub returns : goal.returns
returns g c =
    let put = Puts c.args.out.now c.put_told.new.out c.put_told.result in
    subst (λ (d : Document). put (lost_text d)) c.self.view_is
    (subst (λ n. put (written_text (show_if n (told_unless c.self.inside.lost dropped_text))))
    c.as_slice.ensures.value
    (subst (λ t. put (written_text (show_if c.as_slice.result.now t))) c.told_unless.ensures
    c.put_told.ensures))
