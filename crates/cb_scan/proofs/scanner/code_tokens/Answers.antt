use Rattle.std.proofs.Common.{◌∙◌, sym, ap}
use Rattle.cb_scan.specs.CodeTokens.{code_by, code_of}
use Rattle.cb_scan.proofs.PieceLists.{pieces-only}
use Rattle.cb_scan.proofs.scanner.code_tokens.Goals as goal

-- a text has one list of pieces
pub returns-in-Ok-clause-exact : goal.returns-in-Ok-clause-exact
returns-in-Ok-clause-exact c ps are =
    let text = c.args.source.now in
    c.in-Ok.ensures.value ∙ ap code_of c.bytes.ensures.value
    ∙ ap (code_by text) (sym (pieces-only text ps are))
