use Rattle.std.proofs.Common.{◌≡◌}
use Rattle.cb_scan.specs.steps.Cut.{pieces}
use Rattle.cb_names.specs.Directives.{line_begin}
use Rattle.cb_names.proofs.directive.line_start.Given as goal

abbrev pub invariant-pieces : goal.invariant-pieces
invariant-pieces l =
    line_begin l.start l.place l.piece-iterator ≡ line_begin 0 l.place (pieces l.source)
