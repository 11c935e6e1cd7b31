use Rattle.std.proofs.Common.{◌≡◌, take}
use Rattle.std.specs.Str.{str_eq_ignore_ascii_case}
use Rattle.cb_lsp.proofs.text.all_alike.Given as goal

abbrev pub invariant-bytes : goal.invariant-bytes
invariant-bytes l =
    l.alike ≡ str_eq_ignore_ascii_case (take l.i l.text) (take l.i l.part)
