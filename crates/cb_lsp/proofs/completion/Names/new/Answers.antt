use Rattle.std.proofs.Common.{None, ap, ◌∙◌}
use Rattle.cb_lsp.specs.steps.Completions.{names_behind}
use Rattle.cb_lsp.proofs.Completed.{names-are}
use Rattle.cb_lsp.proofs.completion.Names.new.Goals as goal

pub returns : goal.returns
returns c =
    let w = c.args.desk.now.timeline.present in
    ap (names_behind c.args.word.now None) c.tag_rows_from.ensures
    ∙ names-are c.args.word.now w.profile w.files
