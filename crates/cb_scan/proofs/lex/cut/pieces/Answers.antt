use Rattle.std.proofs.Common.{◌∙◌, ap, subst, sym}
use Rattle.cb_scan.specs.lex.Pieces.{IsPieces}
use Rattle.cb_scan.specs.steps.Cut.{pieces}
use Rattle.cb_scan.proofs.PieceLists.{pieces-are}
use Rattle.cb_scan.proofs.lex.cut.pieces.Goals as goal

pub returns-clause-are : goal.returns-clause-are
returns-clause-are c =
    let text = c.args.source.now in
    subst (IsPieces text) (sym (c.new.ensures.value ∙ ap pieces c.bytes.ensures.value)) (pieces-are text)
