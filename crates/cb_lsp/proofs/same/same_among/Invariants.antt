-- The first uses are looked at.
use Rattle.std.proofs.Common.{◌≡◌, List, filter, take}
use Rattle.std.specs.Prelude.{◌&&◌}
use Rattle.std.specs.Str.{bytes_eq}
use Rattle.cb_scan.specs.declared.facts.Use.{Use}
use Rattle.cb_scan.specs.declared.lex.piece.Span.{Span}
use Rattle.cb_scan.specs.lex.Tokens.{bytes_of}
use Rattle.cb_lsp.specs.Same.{is_same_at}
use Rattle.cb_lsp.specs.steps.Same.{AreStarts}
use Rattle.cb_lsp.proofs.same.same_among.Given as goal

abbrev pub invariant-loop-i : goal.invariant-loop-i
invariant-loop-i l = (ss : List Span) → AreStarts ss l.starts
    → l.found.items
    ≡ filter (λ (u : Use). bytes_eq (bytes_of l.source u.name) l.name
    && is_same_at l.sort ss u.name.start) (take l.i l.uses)
