use Rattle.std.proofs.Common.{◌≡◌, drop, filter, map}
use Rattle.std.specs.Option.{option_map}
use Rattle.cb_desk.specs.Answer.{is_header}
use Rattle.cb_lsp.specs.Closures.{nearest_of}
use Rattle.cb_lsp.specs.steps.Closures.{nearest_with}
use Rattle.cb_lsp.proofs.closure.nearest_named.Given as goal

abbrev pub invariant-loop-name : goal.invariant-loop-name
invariant-loop-name l =
    nearest_with l.from (option_map (λ name. name.now) l.best)
    (filter (is_header l.header) (map (λ name. name.now) (drop l.name-index l.names)))
    ≡ nearest_of l.from (filter (is_header l.header) (map (λ name. name.now) l.names))
