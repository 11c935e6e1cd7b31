use Rattle.std.proofs.Common.{◌∙◌, ap, filter, subst}
use Rattle.std.specs.Prelude.{◌&&◌}
use Rattle.std.specs.Str.{bytes_eq}
use Rattle.cb_scan.specs.declared.facts.Use.{Use}
use Rattle.cb_scan.specs.lex.Tokens.{bytes_of}
use Rattle.cb_lsp.specs.Same.{is_same_at, listed}
use Rattle.cb_lsp.specs.steps.Same.{AreStarts}
use Rattle.cb_lsp.proofs.same.same_in.Goals as goal

pub returns-in-Ok : goal.returns-in-Ok
returns-in-Ok c =
    let text = c.args.source.now in
    let name = c.args.name.now in
    let sort = c.args.sort in
    let ss = listed sort c.args.facts.now.defs text name in
    c.in-Ok.ensures ss
    (subst (λ ds. AreStarts (listed sort ds text name) c.in_ok-starts.starts) c.defs.ensures.value
    c.in_ok-starts.ensures)
    ∙ ap (filter (λ (u : Use). bytes_eq (bytes_of text u.name) name && is_same_at sort ss u.name.start))
    c.uses.ensures.value
