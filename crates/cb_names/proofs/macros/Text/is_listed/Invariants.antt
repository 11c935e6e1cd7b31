-- None of the first tokens is a parameter with these bytes.
use Rattle.std.proofs.Common.{◌≡◌, false}
use Rattle.std.specs.Prelude.{◌&&◌, take}
use Rattle.std.specs.List.{list_any}
use Rattle.std.specs.Str.{bytes_eq}
use Rattle.cb_scan.specs.declared.lex.token.Token.{Token}
use Rattle.cb_scan.specs.lex.Tokens.{bytes_of, is_name_token}
use Rattle.cb_names.proofs.macros.Text.is_listed.Given as goal

abbrev pub invariant-loop-i : goal.invariant-loop-i
invariant-loop-i l =
    list_any (λ (t : Token). is_name_token t.role && bytes_eq (bytes_of l.self.bytes.now t.span) l.name)
    (take l.i l.self.listed.now) ≡ false
