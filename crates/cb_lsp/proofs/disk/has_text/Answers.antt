use Rattle.std.proofs.Common.{◌∙◌, ap, sym}
use Rattle.std.specs.Str.{bytes_eq}
use Rattle.cb_lsp.proofs.NoText.{empty-text, no-file}
use Rattle.cb_lsp.proofs.disk.has_text.Goals as goal

pub returns-in-None : goal.returns-in-None
returns-in-None c =
    c.is_empty.ensures ∙ empty-text c.args.text.now
    ∙ ap (bytes_eq c.args.text.now)
    (sym (no-file c.args.desk.now.timeline.present.files c.args.file.now
    c.in-None.ensures))
