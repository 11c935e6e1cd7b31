use Rattle.std.proofs.Common.{◌∙◌, ◌++◌, ap, map, List, ℕ, None}
use Rattle.std.specs.Borrow.{Bor}
use Rattle.std.specs.Option.{option_map_or}
use Rattle.cb_lsp.specs.Headers.{without_dots}
use Rattle.cb_lsp.specs.steps.Closures.{if_among}
use Rattle.cb_lsp.proofs.closure.beside.Goals as goal

pub returns : goal.returns
returns c =
    let names = map (λ (name : Bor (List ℕ)). name.now) c.args.names.now in
    let header = c.args.header.now in
    c.named_in.ensures
    ∙ ap (λ rest. if_among names (c.in_ok-base.base.now ++ rest)) c.without_dots.ensures
    ∙ ap (λ o. option_map_or (λ (b : List ℕ). if_among names (b ++ without_dots header)) o None)
    c.in_ok-base.ensures
