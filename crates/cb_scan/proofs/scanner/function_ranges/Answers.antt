use Rattle.std.proofs.Common.{◌∙◌, sym, ap}
use Rattle.cb_scan.specs.Profiles.{ranges_by, ranges_in}
use Rattle.cb_scan.proofs.PieceLists.{pieces-only}
use Rattle.cb_scan.proofs.scanner.function_ranges.Goals as goal

-- a text has one list of pieces
pub returns-in-Ok-clause-exact : goal.returns-in-Ok-clause-exact
returns-in-Ok-clause-exact c ps are =
    let text = c.args.source.now in
    c.in-Ok.ensures ∙ ap (ranges_in c.args.rules) c.bytes.ensures.value
    ∙ ap (ranges_by c.args.rules text) (sym (pieces-only text ps are))

pub returns-in-Ok-clause-ranges : goal.returns-in-Ok-clause-ranges
returns-in-Ok-clause-ranges c =
    c.in-Ok.ensures ∙ ap (ranges_in c.args.rules) c.bytes.ensures.value
