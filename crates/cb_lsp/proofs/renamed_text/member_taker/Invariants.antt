-- What is left decides.
use Rattle.std.proofs.Common.{◌≡◌, map}
use Rattle.std.specs.Prelude.{drop, find}
use Rattle.cb_names.specs.Macros.{takes_member}
use Rattle.cb_scan.specs.lex.Tokens.{bytes_of}
use Rattle.cb_lsp.proofs.renamed_text.member_taker.Given as goal

abbrev pub invariant-loop-i : goal.invariant-loop-i
invariant-loop-i l =
    find takes_member (map (bytes_of l.source) (drop l.i l.names))
    ≡ find takes_member (map (bytes_of l.source) l.names)
