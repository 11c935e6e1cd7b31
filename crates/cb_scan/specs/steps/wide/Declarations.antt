-- A declaration, a token at a time.
use Rattle.std.specs.Prelude.{Bool, false, true, ◌&&◌, ◌||◌, ◌==◌, not, List, [], ◌∷◌, ◌++◌}
use Rattle.std.specs.Prelude.{Option, if◌then◌else◌}
use Rattle.cb_scan.specs.declared.rules.wide.declaration.Declaration.{Declaration}
use Rattle.cb_scan.specs.declared.rules.wide.token.WideToken.{WideToken}
use Rattle.cb_scan.specs.rules.Typedefs.{nesting_after}
use Rattle.cb_scan.specs.rules.wide.Bodies.{Body, opens_body}
use Rattle.cb_scan.specs.rules.wide.Words.{is_extern_word, is_sign, is_static_word, is_typedef_word}
use Rattle.cb_scan.specs.steps.wide.Parts.{function, named, next_part, part_start}
use Rattle.cb_scan.specs.Bytes.{close_brace, close_paren, comma, equals, open_brace}
use Rattle.cb_scan.specs.Bytes.{semicolon}

-- the beginning of a declaration
abbrev pub declaration_start : Declaration
declaration_start = record {
  count = 0;
  has_equals = false;
  has_static = false;
  has_extern = false;
  has_typedef = false;
  is_stray = false;
  closes = false;
  part = part_start true;
}

-- a `)` or a brace
abbrev pub closes : WideToken → Bool
closes x = is_sign close_paren x.role || x.counted

-- the token begins a declaration of the file anew
abbrev pub is_over : Declaration → WideToken → Bool
is_over d x = d.count == 0 && d.closes && (is_static_word x.role || is_extern_word x.role)

-- the token ends a part
abbrev pub ends_part : Declaration → WideToken → Bool
ends_part d x = is_sign semicolon x.role || (d.count == 0 && is_sign comma x.role)

-- the part that is open can name something
abbrev pub may_name : Declaration → Bool
may_name d = not d.is_stray && not d.part.is_stray

-- after a token that ends a part
abbrev pub next_part_of : Declaration → WideToken → Declaration
next_part_of d x = record d {
  count = nesting_after x.token d.count;
  is_stray = d.is_stray || d.part.is_stray;
  closes = closes x;
  part = part_start false;
}

-- after a token outside parentheses and brackets, what it tells of the whole declaration
abbrev pub noted : Declaration → WideToken → Declaration
noted d x = record d {
  has_equals = d.has_equals || is_sign equals x.role;
  has_static = d.has_static || is_static_word x.role;
  has_extern = d.has_extern || is_extern_word x.role;
  has_typedef = d.has_typedef || is_typedef_word x.role;
}

-- after the first token, which ends no part
abbrev pub grown : Declaration → List WideToken → WideToken → Declaration
grown d xs x = record (if d.count == 0 then noted d x else d) {
  part = next_part d.part (d.count == 0) xs x;
  closes = closes x;
  count = nesting_after x.token d.count;
}

-- what a part gives: its name, the function that it declares, whether its declaration has
-- `typedef`, `static` or `extern` up to its end, and whether it has a value
pub record Given : Type 0 where
  pub name : Option WideToken
  pub function : Option WideToken
  pub of_type : Bool
  pub of_static : Bool
  pub of_extern : Bool
  pub valued : Bool

-- what the part gives that ends here
abbrev pub given : Declaration → Given
given d = record {
  name = named d.part;
  function = function d.part;
  of_type = d.has_typedef;
  of_static = d.has_static;
  of_extern = d.has_extern;
  valued = d.part.has_value;
}

-- what the parts give that end in the tokens of one declaration, from a state on
unfoldable pub given_from : Declaration → List WideToken → List Given
given_from d [] = []
given_from d (x ∷ xs) =
    if ends_part d x
    then (if may_name d then given d ∷ [] else []) ++ given_from (next_part_of d x) xs
    else given_from (grown d (x ∷ xs) x) xs

-- after a token that ends a part on the level of a structure or union: a `;` ends the declaration
abbrev pub next_member : Declaration → WideToken → Declaration
next_member d x = if is_sign semicolon x.role then declaration_start else next_part_of d x

-- what the parts give that end on that level, from a state on
unfoldable pub members_from : Declaration → List WideToken → List Given
members_from d [] = []
members_from d (x ∷ xs) =
    if ends_part d x
    then (if may_name d then given d ∷ [] else []) ++ members_from (next_member d x) xs
    else members_from (grown d (x ∷ xs) x) xs

-- ---- the level of the file

-- a `{` that does not count
abbrev pub is_linkage : WideToken → Bool
is_linkage x = is_sign open_brace x.role && not x.counted

-- a brace that is no body of a structure, union or enumeration: a block
abbrev pub is_block : List Body → WideToken → Bool
is_block bs x = x.counted && not (opens_body bs x.token.span.start)

-- a declaration of the file ends with the token that leaves it in this state: a `;`, a `{` that
-- does not count, or where it has no value, a `}` or a block
abbrev pub is_end : Declaration → Bool → WideToken → Bool
is_end d block x =
    is_sign semicolon x.role || is_linkage x
    || (not d.has_equals && (is_sign close_brace x.role || block))

-- the state in which a token of the file is read: a declaration begins with it if it begins anew
abbrev pub before_in_file : Declaration → WideToken → Declaration
before_in_file d x = if is_over d x then declaration_start else d

-- after a token that leaves a declaration of the file in this state, and is a block or none: if it
-- ends the declaration, the next one begins
abbrev pub next_in_file : Declaration → Bool → WideToken → Declaration
next_in_file d block x = if is_end d block x then declaration_start else d

-- what the parts give that end on the level of the file, from a state on, where these are the
-- bodies
unfoldable pub file_from : List Body → Declaration → List WideToken → List Given
file_from bs d [] = []
file_from bs d (x ∷ xs) =
    let e = before_in_file d x in
    if ends_part e x
    then (if may_name e then given e ∷ [] else [])
    ++ file_from bs (next_in_file (next_part_of e x) (is_block bs x) x) xs
    else file_from bs (next_in_file (grown e (x ∷ xs) x) (is_block bs x) x) xs
