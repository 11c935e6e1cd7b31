use Rattle.std.proofs.Common.{◌∙◌, sym, subst}
use Rattle.cb_index.specs.Columns.{HasNone, column_of}
use Rattle.cb_index.specs.Scanned.{Scanned}
use Rattle.cb_index.proofs.SignatureLemmas.{none_has}
use Rattle.cb_index.proofs.archive.Version.may_have.Goals as goal

pub returns : goal.returns
returns c = λ sort clear.
    subst (λ (t : Scanned). HasNone c.args.hash (column_of sort t)) c.self.view_is
    (none_has sort c.self.inside.text c.self.inside.columns c.args.hash c.self.invariant
    (sym c.may_have.ensures ∙ clear))
