-- The definitions of the wide profile: of each part of a declaration its kind, and all of a text.
-- This is the project's profile.
use Rattle.std.specs.Prelude.{ℕ, Bool, false, ◌&&◌, List, [], ◌∷◌, ◌++◌, map, filter, Option}
use Rattle.std.specs.Prelude.{None, not, if◌then◌else◌}
use Rattle.std.specs.List.{flat_map}
use Rattle.std.specs.Option.{is_none, option_map_or, option_or}
use Rattle.cb_scan.specs.declared.facts.Kind.{Kind}
use Rattle.cb_scan.specs.declared.facts.Kind.TheVariants as kind
use Rattle.cb_scan.specs.declared.lex.piece.Piece.{Piece}
use Rattle.cb_scan.specs.declared.lex.token.Token.{Token}
use Rattle.cb_scan.specs.declared.rules.scope.Range.{Range}
use Rattle.cb_scan.specs.declared.facts.Tag.{Tag}
use Rattle.cb_scan.specs.declared.facts.Def.{Def}
use Rattle.cb_scan.specs.declared.rules.wide.token.WideToken.{WideToken}
use Rattle.cb_scan.specs.rules.Code.{code}
use Rattle.cb_scan.specs.rules.Functions.{Function}
use Rattle.cb_scan.specs.rules.Macros.{macro_names}
use Rattle.cb_scan.specs.rules.Scope.{name_around, ranges_of}
use Rattle.cb_scan.specs.rules.wide.Attributes.{without_attributes}
use Rattle.cb_scan.specs.rules.wide.Bodies.{Body, bodies, enumerators, is_enumeration, tag_around}
use Rattle.cb_scan.specs.rules.wide.Bodies.{tag_of}
use Rattle.cb_scan.specs.rules.wide.Declarations.{Part, body_declarations, defines_type}
use Rattle.cb_scan.specs.rules.wide.Declarations.{file_declarations, has_value, is_extern_part}
use Rattle.cb_scan.specs.rules.wide.Declarations.{is_static_part, naming_parts}
use Rattle.cb_scan.specs.rules.wide.Functions.{wide_functions}
use Rattle.cb_scan.specs.rules.wide.Levels.{Placed, file_level, level_inside, placed}
use Rattle.cb_scan.specs.rules.wide.Levels.{wide_tokens}
use Rattle.cb_scan.specs.rules.wide.Names.{part_name}
use Rattle.cb_scan.specs.rules.wide.Prototypes.{prototype_name}

-- the definition of a name, without the tag around it
abbrev pub def_of : Kind → Bool → Token → Def
def_of kind local t =
    record { name = t.span; kind = kind; line = t.line; local = local; tag = None }

-- the same with a tag
abbrev pub def_in : Kind → Option Tag → Token → Def
def_in kind tag t = record (def_of kind false t) { tag = tag }

-- the name, if there is one, as a definition
abbrev pub def_if : Kind → Bool → Option WideToken → List Def
def_if kind local name =
    option_map_or (λ (x : WideToken). def_of kind local x.token ∷ []) name []

-- ---- in bodies

-- the kind of a tag
abbrev pub kind_of_tag : Kind → Kind
kind_of_tag kind.Union = kind.Union
kind_of_tag kind.Enum = kind.Enum
kind_of_tag _ = kind.Struct

-- the tag of a body
abbrev pub tag_defs : Body → List Def
tag_defs b = option_map_or (λ t. def_of (kind_of_tag b.kind) false t ∷ []) b.tag []

-- the enumerators of a body, with its tag
abbrev pub enumerator_defs : List Placed → Body → List Def
enumerator_defs ps b =
    map (def_in kind.Enumerator (tag_of b)) (enumerators (level_inside b.place ps))

-- the member that a part names
abbrev pub member_of : Option Tag → Part → List Def
member_of tag p =
    if defines_type p then []
    else option_map_or (λ (x : WideToken). def_in kind.Member tag x.token ∷ []) (part_name p) []

-- the members of a body, with the tag around them
abbrev pub member_defs : List Body → List Placed → Body → List Def
member_defs bs ps b =
    flat_map (member_of (tag_around bs (b.place ∷ b.around)))
    (flat_map naming_parts (body_declarations (level_inside b.place ps)))

-- what a body defines: its enumerators or its members
abbrev pub content_defs : List Body → List Placed → Body → List Def
content_defs bs ps b =
    if is_enumeration b.kind then enumerator_defs ps b else member_defs bs ps b

-- ---- on the level of the file

-- the parts of the declarations of the file
abbrev pub file_parts : List Body → List Placed → List Part
file_parts bs ps = flat_map naming_parts (file_declarations bs (file_level ps))

-- the type that a part names: by the name of its prototype, or else by its own
abbrev pub typedef_of : Part → List Def
typedef_of p =
    if defines_type p then def_if kind.Typedef false (option_or (prototype_name p) (part_name p))
    else []

-- a variable, or an external declaration: of `extern` and without a value
abbrev pub variable_kind : Part → Kind
variable_kind p = if is_extern_part p && not (has_value p.tokens) then kind.External
    else kind.Variable

-- the variable that a part names
abbrev pub variable_of : Part → List Def
variable_of p = def_if (variable_kind p) (is_static_part p) (part_name p)

-- the prototype that a part is, or else the variable that it names
abbrev pub object_of : Part → List Def
object_of p =
    if defines_type p then []
    else option_map_or (λ (x : WideToken). def_of kind.Prototype (is_static_part p) x.token ∷ [])
    (prototype_name p) (variable_of p)

-- the definition is in none of the ranges
abbrev pub is_beside : List Range → Def → Bool
is_beside ranges d = is_none (name_around ranges d.name.start)

-- variables, external declarations and prototypes: what lies in the range of a function is its
-- parameter
abbrev pub object_defs : List Range → List Part → List Def
object_defs ranges parts = filter (is_beside ranges) (flat_map object_of parts)

-- ---- all

-- the function as a definition; the name of a macro
abbrev pub wide_function_def : Function → Def
wide_function_def f = def_of kind.Function f.local f.name

abbrev pub wide_macro_def : Token → Def
wide_macro_def t = def_of kind.Macro false t

-- the tokens of the code without attributes, with the braces around them
abbrev pub bare_tokens : List ℕ → List Token → List Placed
bare_tokens text ts = placed [] (without_attributes (wide_tokens text ts))

-- the functions of a text with these pieces, by the wide profile
abbrev pub functions_of : List ℕ → List Piece → List Function
functions_of text ps =
    let ts = code text ps in
    wide_functions ts (wide_tokens text ts) (bodies (bare_tokens text ts))

-- what the tokens of the code define besides functions, where functions have these ranges
abbrev pub code_defs : List Range → List Placed → List Body → List Def
code_defs ranges xs bs =
    flat_map typedef_of (file_parts bs xs) ++ flat_map tag_defs bs
    ++ flat_map (content_defs bs xs) bs ++ object_defs ranges (file_parts bs xs)

-- the definitions of a text with these pieces, kind by kind
abbrev pub wide_found : List ℕ → List Piece → List Def
wide_found text ps =
    let fs = functions_of text ps in
    let xs = bare_tokens text (code text ps) in
    map wide_function_def fs ++ map wide_macro_def (macro_names text ps)
    ++ code_defs (ranges_of text ps fs) xs (bodies xs)
