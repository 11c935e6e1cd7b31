-- What the pass of the wide profile gathers of a text, and what of it stays.
use Rattle.std.specs.Prelude.{ℕ, Bool, true, false, ◌&&◌, ◌||◌, not, List, [], ◌∷◌, ◌++◌}
use Rattle.std.specs.Prelude.{if◌then◌else◌}
use Rattle.std.specs.List.{flat_map}
use Rattle.std.specs.Option.{is_none}
use Rattle.cb_scan.specs.declared.facts.Def.{Def}
use Rattle.cb_scan.specs.declared.lex.piece.Piece.{Piece}
use Rattle.cb_scan.specs.declared.profile.Rules.{Rules}
use Rattle.cb_scan.specs.declared.profile.Rules.TheVariants.{Prototypes, Wide}
use Rattle.cb_scan.specs.declared.rules.scope.Range.{Range}
use Rattle.cb_scan.specs.Profiles.{is_declaration, is_object}
use Rattle.cb_scan.specs.rules.Code.{code}
use Rattle.cb_scan.specs.rules.wide.Bodies.{bodies}
use Rattle.cb_scan.specs.rules.wide.Kinds.{bare_tokens, content_defs, file_parts, object_of, tag_defs}
use Rattle.cb_scan.specs.rules.wide.Kinds.{typedef_of}
use Rattle.cb_scan.specs.steps.Scopes.{first_around, reached}

-- types, tags, enumerators and members
abbrev pub declared_in : List ℕ → List Piece → List Def
declared_in text ps =
    let xs = bare_tokens text (code text ps) in
    flat_map typedef_of (file_parts (bodies xs) xs)
    ++ (flat_map tag_defs (bodies xs) ++ flat_map (content_defs (bodies xs) xs) (bodies xs))

-- variables, external declarations and prototypes, also those of the heads of functions
abbrev pub objects_in : List ℕ → List Piece → List Def
objects_in text ps =
    let xs = bare_tokens text (code text ps) in
    flat_map object_of (file_parts (bodies xs) xs)

-- ---- what stays

-- the wide rules, with or without external declarations and prototypes
abbrev pub rules_with : Bool → Rules
rules_with true = Prototypes
rules_with false = Wide

-- a definition is of a kind that is asked for, and the first of these ranges does not make it a
-- parameter
abbrev pub stays_first : Bool → List Range → Def → Bool
stays_first prototypes rs d =
    (prototypes || not (is_declaration d.kind))
    && (not (is_object d.kind) || is_none (first_around d.name.start rs))

-- those that stay of definitions in order, range by range
abbrev pub staying : Bool → List Range → List Def → List Def
staying prototypes rs [] = []
staying prototypes rs (d ∷ ds) =
    let left = reached d.name.start rs in
    if stays_first prototypes left d then d ∷ staying prototypes left ds
    else staying prototypes left ds
