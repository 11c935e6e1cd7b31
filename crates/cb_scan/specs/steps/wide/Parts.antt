-- A part of a declaration, a token at a time.
use Rattle.std.specs.Prelude.{Bool, false, true, ◌&&◌, ◌||◌, not, List, Option, None, Some}
use Rattle.std.specs.Prelude.{if◌then◌else◌}
use Rattle.cb_scan.specs.declared.rules.wide.called.CalledName.{CalledName}
use Rattle.cb_scan.specs.declared.rules.wide.part.Part.{Part}
use Rattle.cb_scan.specs.declared.rules.wide.pointer.Pointer.{Pointer}
use Rattle.cb_scan.specs.declared.rules.wide.pointer.Pointer.TheVariants.{Nothing, Sought, Found}
use Rattle.cb_scan.specs.declared.rules.wide.token.WideToken.{WideToken}
use Rattle.cb_scan.specs.rules.wide.Words.{is_sign, is_statement_word, is_text, is_wide_word}
use Rattle.cb_scan.specs.steps.wide.Called.{next_calls, no_calls}
use Rattle.cb_scan.specs.steps.wide.Pointers.{next_pointer}
use Rattle.cb_scan.specs.steps.wide.Tails.{next_tail, tail_start}
use Rattle.cb_scan.specs.Bytes.{close_bracket, close_paren, colon, equals, open_bracket, open_paren}
use Rattle.cb_scan.specs.Bytes.{star}

-- the beginning of a part
abbrev pub part_start : Bool → Part
part_start first = record {
  calls = no_calls;
  pointer = Nothing;
  tail = tail_start first;
  has_value = false;
  is_stray = false;
}

-- the `=` or `:` with which a value begins
abbrev pub begins_value : Bool → WideToken → Bool
begins_value outer x = outer && (is_sign equals x.role || is_sign colon x.role)

-- a word, a string, a brace, `*`, or one of the parentheses and brackets
abbrev pub may_declare : WideToken → Bool
may_declare x =
    is_wide_word x.role || is_text x.role || x.counted || is_sign star x.role
    || is_sign open_paren x.role || is_sign close_paren x.role || is_sign open_bracket x.role
    || is_sign close_bracket x.role

-- a token that no declaration has outside parentheses and brackets
abbrev pub is_stray : Bool → WideToken → Bool
is_stray outer x = outer && (is_statement_word x.role || not (may_declare x))

-- after a token before the value
abbrev pub grown_part : Part → Bool → List WideToken → WideToken → Part
grown_part p outer xs x = record p {
  calls = next_calls p.calls outer xs x;
  pointer = next_pointer p.pointer outer xs x;
  tail = next_tail p.tail outer xs x;
  is_stray = p.is_stray || is_stray outer x;
}

-- after the first token
abbrev pub next_part : Part → Bool → List WideToken → WideToken → Part
next_part p outer xs x =
    if p.has_value then p
    else (if begins_value outer x then record p { has_value = true } else grown_part p outer xs x)

-- the name where none is called
abbrev pub uncalled : Pointer → Option WideToken → Option WideToken
uncalled Nothing name = name
uncalled Sought name = None
uncalled (Found x called) name = Some x

-- the name of the part
abbrev pub name_of : Option CalledName → Option WideToken → Option WideToken
name_of (Some called) name = Some called.name
name_of None name = name

abbrev pub named : Part → Option WideToken
named p = name_of p.calls.found (uncalled p.pointer p.tail.name)

-- the function where no name is called
abbrev pub uncalled_function : Pointer → Option WideToken → Option WideToken
uncalled_function Nothing name = name
uncalled_function Sought name = name
uncalled_function (Found x called) name = if called then Some x else None

-- the name of the function that the part declares
abbrev pub function_of : Option CalledName → Option WideToken → Option WideToken
function_of (Some called) name = if called.starred then None else Some called.name
function_of None name = name

abbrev pub function : Part → Option WideToken
function p =
    if p.has_value then None
    else function_of p.calls.found (uncalled_function p.pointer p.tail.prototype)
