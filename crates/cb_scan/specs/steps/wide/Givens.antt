-- What the parts of the declarations of the file define.
use Rattle.std.specs.Prelude.{false, not, List, [], ◌∷◌, if◌then◌else◌, ◌&&◌}
use Rattle.std.specs.Option.{option_map_or, option_or}
use Rattle.cb_scan.specs.declared.facts.Def.{Def}
use Rattle.cb_scan.specs.declared.facts.Kind.{Kind}
use Rattle.cb_scan.specs.declared.facts.Kind.TheVariants as kind
use Rattle.cb_scan.specs.declared.rules.wide.token.WideToken.{WideToken}
use Rattle.cb_scan.specs.rules.wide.Kinds.{def_if, def_of}
use Rattle.cb_scan.specs.steps.wide.Declarations.{Given}

-- the type that a part gives: by the name of its prototype, or else by its own
abbrev pub typedef_given : Given → List Def
typedef_given g =
    if g.of_type then def_if kind.Typedef false (option_or g.function g.name) else []

-- a variable, or an external declaration: of `extern` and without a value
abbrev pub variable_kind : Given → Kind
variable_kind g = if g.of_extern && not g.valued then kind.External else kind.Variable

-- the prototype that a part gives, or else the variable that it names
abbrev pub object_given : Given → List Def
object_given g =
    if g.of_type then []
    else option_map_or (λ (x : WideToken). def_of kind.Prototype g.of_static x.token ∷ [])
    g.function (def_if (variable_kind g) g.of_static g.name)
