-- The name of a pointer, a token at a time.
use Rattle.std.specs.Prelude.{Bool, ◌&&◌, not, List, if◌then◌else◌}
use Rattle.cb_scan.specs.declared.rules.wide.pointer.Pointer.{Pointer}
use Rattle.cb_scan.specs.declared.rules.wide.pointer.Pointer.TheVariants.{Nothing, Sought, Found}
use Rattle.cb_scan.specs.declared.rules.wide.token.WideToken.{WideToken}
use Rattle.cb_scan.specs.rules.wide.Words.{is_sign, is_wide_name}
use Rattle.cb_scan.specs.steps.wide.Ahead.{second_is, second_is_word}
use Rattle.cb_scan.specs.Bytes.{open_paren, star}

-- after the first token
abbrev pub next_pointer : Pointer → Bool → List WideToken → WideToken → Pointer
next_pointer Nothing outer xs x =
    if outer && is_sign open_paren x.role && second_is star xs then Sought else Nothing
next_pointer Sought outer xs x =
    if is_wide_name x.role && not (second_is_word xs) then Found x (second_is open_paren xs)
    else Sought
next_pointer (Found name called) outer xs x = Found name called
