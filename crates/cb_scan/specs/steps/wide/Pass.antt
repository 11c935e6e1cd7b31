-- The pass of the wide profile over the tokens that are of no attribute.
use Rattle.std.specs.Prelude.{ℕ, ◌+◌, ◌-◌, Bool, ◌&&◌, ◌||◌, ◌==◌, List, [], ◌∷◌, ◌++◌, drop}
use Rattle.std.specs.Prelude.{max, Option}
use Rattle.std.specs.Prelude.{None, if◌then◌else◌}
use Rattle.std.specs.List.{flat_map}
use Rattle.std.specs.Option.{is_none, option_map, option_to_list}
use Rattle.cb_scan.specs.declared.facts.Def.{Def}
use Rattle.cb_scan.specs.declared.lex.piece.Span.{Span}
use Rattle.cb_scan.specs.declared.rules.scope.Range.{Range}
use Rattle.cb_scan.specs.declared.rules.wide.declaration.Declaration.{Declaration}
use Rattle.cb_scan.specs.declared.rules.wide.level.Level.TheVariants.{Block}
use Rattle.cb_scan.specs.declared.rules.wide.pass.Pass.{Pass}
use Rattle.cb_scan.specs.declared.rules.wide.token.WideToken.{WideToken}
use Rattle.cb_scan.specs.rules.wide.Words.{is_sign}
use Rattle.cb_scan.specs.steps.Functions.{range_to}
use Rattle.cb_scan.specs.steps.wide.Contents.{defined_by, most_open, next_levels}
use Rattle.cb_scan.specs.steps.wide.Declarations.{Given, before_in_file, declaration_start}
use Rattle.cb_scan.specs.steps.wide.Declarations.{ends_part, given, grown}
use Rattle.cb_scan.specs.steps.wide.Declarations.{may_name, next_in_file, next_part_of}
use Rattle.cb_scan.specs.steps.wide.Functions.{found, next, next_depth, next_inside, start}
use Rattle.cb_scan.specs.steps.wide.Lists.{Lists}
use Rattle.cb_scan.specs.steps.wide.Givens.{object_given, typedef_given}
use Rattle.cb_scan.specs.steps.wide.Openings.{next_opening, tag_out}
use Rattle.cb_scan.specs.lex.Tokens.{is_mark}
use Rattle.cb_scan.specs.Bytes.{close_brace, open_brace}

-- ---- the level of the file

-- the part that ends at a token, if one does that can name something
abbrev pub part_at : Declaration → WideToken → List Given
part_at d x = if ends_part d x && may_name d then given d ∷ [] else []

-- a declaration of the file after the first of these tokens, which is a block or none
abbrev pub next_of_file : Declaration → Bool → List WideToken → WideToken → Declaration
next_of_file d block xs x =
    next_in_file (if ends_part d x then next_part_of d x else grown d xs x) block x

-- ---- the state

-- the beginning of the code
abbrev pub pass_start : Pass
pass_start = record {
  opening = None;
  machine = start;
  file = declaration_start;
  body = None;
  levels = [];
}

-- the token is a brace that opens no body
abbrev pub is_block : Pass → WideToken → Bool
is_block p x = x.counted && is_none p.opening

-- no brace is open
abbrev pub is_in_file : Pass → Bool
is_in_file p = p.machine.depth == 0

-- the function whose `{` is the token, if one is
abbrev pub function_found : Pass → WideToken → Option Def
function_found p x = found p.machine (is_block p x)

-- the parts of the file that end at the token
abbrev pub parts_here : Pass → WideToken → List Given
parts_here p x = if is_in_file p then part_at (before_in_file p.file x) x else []

-- the declaration of the file after the first of these tokens
abbrev pub next_file : Pass → List WideToken → WideToken → Declaration
next_file p xs x =
    if is_in_file p then next_of_file (before_in_file p.file x) (is_block p x) xs x else p.file

-- the name of the function whose body the next token is in
abbrev pub next_body : Pass → WideToken → Option Span
next_body p x =
    if is_in_file p then option_map (λ (d : Def). d.name) (function_found p x)
    else (if next_depth p.machine x == 0 then None else p.body)

-- the range of the function whose body the token ends, if it ends one
abbrev pub range_closed : Pass → WideToken → Option Range
range_closed p x =
    if is_sign close_brace x.role && next_depth p.machine x == 0
    then option_map (range_to x.token.span.end) p.body
    else None

-- the state after the first of these tokens
abbrev pub next_pass : Pass → List WideToken → WideToken → Pass
next_pass p xs x = record {
  opening = next_opening p.opening x;
  machine = next p.machine xs x;
  file = next_file p xs x;
  body = next_body p x;
  levels = next_levels p.opening p.levels xs x;
}

-- the state after a token deeper in braces, which is of no head and of no declaration of the file
abbrev pub pass_inside : Pass → List WideToken → WideToken → Pass
pass_inside p xs x = record p {
  opening = next_opening p.opening x;
  machine = next_inside p.machine x;
  body = if next_depth p.machine x == 0 then None else p.body;
  levels = next_levels p.opening p.levels xs x;
}

-- the state after a `{` that opens a block in a block, and after a `}` of a block in braces
abbrev pub entered : Pass → Pass
entered p = record p {
  opening = None;
  machine = record p.machine { depth = p.machine.depth + 1 };
  levels = Block ∷ p.levels;
}

abbrev pub left : Pass → Pass
left p = record p {
  opening = None;
  machine = record p.machine { depth = p.machine.depth - 1 };
  levels = drop 1 p.levels;
}

-- a brace, by its role or by its token
abbrev pub is_brace : WideToken → Bool
is_brace x =
    x.counted || is_sign open_brace x.role || is_sign close_brace x.role
    || is_mark close_brace x.token.role

-- how many braces, parentheses and brackets are open at most
abbrev pub most_in : Pass → ℕ
most_in p =
    max (max p.machine.depth p.machine.parts.count) (max p.file.count (most_open p.levels))

-- ---- what is found

-- what is found with the first of these tokens
abbrev pub next_lists : Lists → Pass → List WideToken → WideToken → Lists
next_lists l p xs x = record {
  functions = l.functions ++ option_to_list (function_found p x);
  ranges = l.ranges ++ option_to_list (range_closed p x);
  defs = ((l.defs ++ flat_map typedef_given (parts_here p x)) ++ tag_out p.opening x)
      ++ defined_by p.levels xs x;
  objects = l.objects ++ flat_map object_given (parts_here p x);
}

-- what is found with it deeper in braces
abbrev pub lists_inside : Lists → Pass → List WideToken → WideToken → Lists
lists_inside l p xs x = record l {
  ranges = l.ranges ++ option_to_list (range_closed p x);
  defs = (l.defs ++ tag_out p.opening x) ++ defined_by p.levels xs x;
}

-- ---- both

-- a state, and what is found so far
pub record Taken : Type 0 where
  pub pass : Pass
  pub lists : Lists

-- after the first of these tokens
abbrev pub take_first : Taken → List WideToken → WideToken → Taken
take_first t xs x = record {
  pass = next_pass t.pass xs x;
  lists = next_lists t.lists t.pass xs x;
}

-- after all of them
unfoldable pub take_all : Taken → List WideToken → Taken
take_all t [] = t
take_all t (x ∷ xs) = take_all (take_first t (x ∷ xs) x) xs
