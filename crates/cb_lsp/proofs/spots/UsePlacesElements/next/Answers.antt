use Rattle.std.proofs.Common.{rules, ◌≡◌, ◌∙◌, ◌∷◌, ap, map, sym}
use Rattle.cb_wire.specs.Locations.{location_text}
use Rattle.cb_wire.specs.Values.{value_text}
use Rattle.cb_lsp.specs.Symbols.{place_of_use}
use Rattle.cb_lsp.specs.steps.Elements.{uses_left}
use Rattle.cb_lsp.specs.steps.Located.{Locating}
use Rattle.cb_lsp.specs.steps.Same.{spots_left}
use Rattle.cb_lsp.proofs.spots.UsePlacesElements.next.Goals as goal

pub returns : goal.returns
returns c =
    let front : uses_left c.args.self.now ≡ location_text c.use_place.result
    ∷ uses_left (record { places = c.args.self.now.places; rest = c.next.new.self }) =
    search rules in
    front ∙ ap (λ (l : Locating). location_text c.use_place.result
    ∷ map (λ u. value_text (place_of_use l.client l.files u)) (spots_left c.next.new.self))
    (sym c.use_place.ensures.same)
