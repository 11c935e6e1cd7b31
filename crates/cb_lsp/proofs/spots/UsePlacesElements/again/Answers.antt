use Rattle.std.proofs.Common.{map}
use Rattle.cb_wire.specs.Values.{value_text}
use Rattle.cb_lsp.specs.Symbols.{place_of_use}
use Rattle.cb_lsp.proofs.spots.UsePlacesElements.again.Goals as goal

pub returns : goal.returns
returns c =
    λ i. map (λ u. value_text (place_of_use (c.again.ensures i).client (c.again.ensures i).files u))
    (c.again-2.ensures i)
