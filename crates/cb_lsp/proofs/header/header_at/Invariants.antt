use Rattle.std.proofs.Common.{◌≡◌, drop}
use Rattle.cb_lsp.specs.Headers.{header_at}
use Rattle.cb_lsp.proofs.header.header_at.Given as goal

abbrev pub invariant-includes : goal.invariant-includes
invariant-includes l =
    header_at (drop l.include-index l.includes) l.place ≡ header_at l.includes l.place
