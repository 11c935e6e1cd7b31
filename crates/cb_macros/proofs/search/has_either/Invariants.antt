-- None of the first names is one of the two.
use Rattle.std.proofs.Common.{◌≡◌, false}
use Rattle.std.specs.Prelude.{◌&&◌, ◌||◌, take}
use Rattle.std.specs.List.{list_any}
use Rattle.std.specs.Str.{bytes_eq}
use Rattle.cb_names.specs.declared.macros.MacroName.{MacroName}
use Rattle.cb_scan.specs.lex.Tokens.{bytes_of}
use Rattle.cb_macros.proofs.search.has_either.Given as goal

abbrev pub invariant-loop-i : goal.invariant-loop-i
invariant-loop-i l =
    list_any (λ (n : MacroName). n.free && (bytes_eq (bytes_of l.rest n.name) l.one
    || bytes_eq (bytes_of l.rest n.name) l.other)) (take l.i l.names) ≡ false
