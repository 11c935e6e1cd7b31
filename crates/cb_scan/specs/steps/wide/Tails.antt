-- The names of the tail of a part, a token at a time.
use Rattle.std.specs.Prelude.{Bool, true, false, ◌&&◌, ◌||◌, not, List, [], ◌∷◌, Option, None, Some}
use Rattle.std.specs.Prelude.{if◌then◌else◌}
use Rattle.cb_scan.specs.declared.rules.wide.tail.Tail.{Tail}
use Rattle.cb_scan.specs.declared.rules.wide.token.WideToken.{WideToken}
use Rattle.cb_scan.specs.rules.wide.Words.{is_keyword, is_sign, is_specifier, is_text}
use Rattle.cb_scan.specs.rules.wide.Words.{is_underscored, is_wide_name, is_wide_word}
use Rattle.cb_scan.specs.steps.wide.Ahead.{encloses_name, opens_twice, rest_encloses_name}
use Rattle.cb_scan.specs.steps.wide.Ahead.{second_is}
use Rattle.cb_scan.specs.Bytes.{close_bracket, open_paren, star}

-- the beginning of a part
abbrev pub tail_start : Bool → Tail
tail_start first = record {
  typed = not first;
  last = None;
  trailed = false;
  name = None;
  prototype = None;
}

-- a token passes a test, if there is one
abbrev pub passes : (WideToken → Bool) → Option WideToken → Bool
passes test None = false
passes test (Some x) = test x

-- the token before bars a candidate
abbrev pub is_barred : Tail → Bool
is_barred t = passes (λ x. is_keyword x.role || is_sign close_bracket x.role) t.last

-- the token before may be the end of a type, or the part begins
abbrev pub type_before : Option WideToken → Bool
type_before None = true
type_before (Some x) = is_sign star x.role || (is_wide_word x.role && not (is_specifier x.role))

abbrev pub follows_type : Tail → Bool
follows_type t = type_before t.last

-- the token is a trailing word
abbrev pub trails : Tail → WideToken → Bool
trails t x = is_underscored x.role && t.trailed

-- the first token is a candidate
abbrev pub is_candidate : Tail → List WideToken → Bool
is_candidate t [] = false
is_candidate t (x ∷ xs) =
    is_wide_name x.role && t.typed && not (second_is open_paren (x ∷ xs)) && not (is_barred t)

-- the first token is a called name that may be a prototype's
abbrev pub is_called : Tail → List WideToken → Bool
is_called t [] = false
is_called t (x ∷ xs) =
    is_wide_name x.role && t.typed && second_is open_paren (x ∷ xs) && not (trails t x)
    && not (rest_encloses_name (x ∷ xs)) && follows_type t

-- the function that a called name declares
abbrev pub name_before : Option WideToken → Bool → WideToken → WideToken
name_before None doubled x = x
name_before (Some y) doubled x = if is_wide_name y.role && doubled then y else x

abbrev pub declared_by : Tail → List WideToken → WideToken → WideToken
declared_by t xs x = name_before t.last (opens_twice xs) x

-- the function that is declared at the first token
abbrev pub prototype_at : Tail → List WideToken → Option WideToken
prototype_at t [] = None
prototype_at t (x ∷ []) = if is_called t (x ∷ []) then Some (declared_by t (x ∷ []) x) else None
prototype_at t (x ∷ y ∷ xs) =
    if t.typed && encloses_name (x ∷ y ∷ xs) then Some y
    else (if is_called t (x ∷ y ∷ xs) then Some (declared_by t (x ∷ y ∷ xs) x) else None)

-- the first one
abbrev pub or_first : Option WideToken → Option WideToken → Option WideToken
or_first (Some x) o = Some x
or_first None o = o

abbrev pub prototype_of : Tail → List WideToken → Option WideToken
prototype_of t xs = or_first t.prototype (prototype_at t xs)

-- the name after the token
abbrev pub named_after : Tail → List WideToken → WideToken → Option WideToken
named_after t xs x = if is_candidate t xs && not (trails t x) then Some x else t.name

-- after a token outside parentheses and brackets
abbrev pub outer_tail : Tail → List WideToken → WideToken → Tail
outer_tail t xs x = record t {
  trailed = trails t x || (is_candidate t xs && not (is_underscored x.role));
  name = named_after t xs x;
  prototype = prototype_of t xs;
}

-- the tail begins after the token
abbrev pub is_end : Bool → WideToken → Bool
is_end outer x = x.counted || (outer && is_sign star x.role)

-- the tail after a token, its type and last token aside
abbrev pub tail_after : Tail → Bool → List WideToken → WideToken → Tail
tail_after t outer xs x =
    if is_end outer x then record t { trailed = x.counted; name = None; prototype = None }
    else (if outer then outer_tail t xs x else record t { trailed = false })

-- after the first token
abbrev pub next_tail : Tail → Bool → List WideToken → WideToken → Tail
next_tail t outer xs x = record (tail_after t outer xs x) {
  typed = t.typed || not (is_specifier x.role || is_text x.role);
  last = Some x;
}
