-- The enumerators of the body of an enumeration, a token at a time.
use Rattle.std.specs.Prelude.{Bool, true, false, ◌&&◌, ◌==◌, not, List, [], ◌∷◌, ◌++◌}
use Rattle.std.specs.Prelude.{if◌then◌else◌}
use Rattle.cb_scan.specs.declared.lex.token.Token.{Token}
use Rattle.cb_scan.specs.declared.rules.wide.enumeration.Enumeration.{Enumeration}
use Rattle.cb_scan.specs.declared.rules.wide.token.WideToken.{WideToken}
use Rattle.cb_scan.specs.rules.Typedefs.{nesting_after}
use Rattle.cb_scan.specs.rules.wide.Words.{is_sign, is_wide_name}
use Rattle.cb_scan.specs.steps.wide.Ahead.{second_is}
use Rattle.cb_scan.specs.Bytes.{comma, open_paren}

-- the beginning of a body
abbrev pub enumeration_start : Enumeration
enumeration_start = record { count = 0; expects = true }

-- the first token is an enumerator
abbrev pub is_enumerator : Enumeration → List WideToken → Bool
is_enumerator e [] = false
is_enumerator e (x ∷ xs) =
    e.expects && is_wide_name x.role && not (second_is open_paren (x ∷ xs))

-- the state after a token
abbrev pub next_enumeration : Enumeration → WideToken → Enumeration
next_enumeration e x = record {
  count = nesting_after x.token e.count;
  expects = e.count == 0 && is_sign comma x.role;
}

-- the enumerators from a state on
unfoldable pub enumerators_from : Enumeration → List WideToken → List Token
enumerators_from e [] = []
enumerators_from e (x ∷ xs) =
    (if is_enumerator e (x ∷ xs) then x.token ∷ [] else [])
    ++ enumerators_from (next_enumeration e x) xs
