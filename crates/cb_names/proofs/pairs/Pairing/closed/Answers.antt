use Rattle.std.proofs.Common.{◌∙◌, sym}
use Rattle.cb_names.specs.steps.Pairing.{nearest_by}
use Rattle.cb_names.proofs.PairingLemmas.{closed_bracket, closed_paren, nearest_bracket, nearest_paren}
use Rattle.cb_names.proofs.pairs.Pairing.closed.Goals as goal

pub returns-in-41 : goal.returns-in-41
returns-in-41 c =
    let xs = c.args.items.now in
    let k = c.args.at in
    c.nearest_by.ensures
    ∙ (λ i. nearest_by 40 xs (c.as_slice.ensures.value i) (c.requires.top i))
    ∙ nearest_paren xs k _ c.requires.others
    ∙ closed_paren xs k (sym c.sign.ensures ∙ c.in-41.is)

pub returns-in-93 : goal.returns-in-93
returns-in-93 c =
    let xs = c.args.items.now in
    let k = c.args.at in
    c.nearest_by-in-93.ensures
    ∙ (λ i. nearest_by 91 xs (c.as_slice-in-93.ensures.value i) (c.requires.top i))
    ∙ nearest_bracket xs k _ c.requires.others
    ∙ closed_bracket xs k (sym c.sign.ensures ∙ c.in-93.is)
