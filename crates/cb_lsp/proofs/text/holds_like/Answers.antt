use Rattle.std.proofs.Common.{◌∙◌, sym}
use Rattle.cb_lsp.proofs.Likes.{holds-begun}
use Rattle.cb_lsp.proofs.text.holds_like.Goals as goal

pub returns : goal.returns
returns c =
    sym (holds-begun c.args.part.now c.places.rest.now
    (sym c.begins_like.ensures ∙ c.places-test.false))
    ∙ c.places.invariant
