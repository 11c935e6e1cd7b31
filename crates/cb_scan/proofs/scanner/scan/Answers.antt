use Rattle.std.proofs.Common.{◌≡◌, ◌∙◌, sym, ap, subst}
use Rattle.cb_scan.specs.Definitions.{AreWithin}
use Rattle.cb_scan.specs.Profiles.{facts_by, facts_in}
use Rattle.cb_scan.proofs.FactsWithin.{facts_lie}
use Rattle.cb_scan.proofs.PieceLists.{pieces-only}
use Rattle.cb_scan.proofs.scanner.scan.Goals as goal

-- the pieces lie in the text, and so does what is found in it
pub returns-in-Ok-clause-within : goal.returns-in-Ok-clause-within
returns-in-Ok-clause-within c =
    let text = c.args.source.now in
    let found : c.in-Ok.found ≡ facts_in c.args.profile text =
    c.in-Ok.ensures ∙ ap (facts_in c.args.profile) c.bytes-text.ensures.value in
    subst (AreWithin text) (sym found) (facts_lie c.args.profile text)

-- a text has one list of pieces
pub returns-in-Ok-clause-exact : goal.returns-in-Ok-clause-exact
returns-in-Ok-clause-exact c ps are =
    let text = c.args.source.now in
    c.in-Ok.ensures ∙ ap (facts_in c.args.profile) c.bytes-text.ensures.value
    ∙ ap (facts_by c.args.profile text) (sym (pieces-only text ps are))

pub returns-in-Ok-clause-facts : goal.returns-in-Ok-clause-facts
returns-in-Ok-clause-facts c =
    c.in-Ok.ensures ∙ ap (facts_in c.args.profile) c.bytes-text.ensures.value
