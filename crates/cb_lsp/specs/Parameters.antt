-- The parameter of a macro that stands at a place of a file, where its definitions are known.
use Rattle.std.specs.Prelude.{ℕ, Bool, true, false, ◌&&◌, nat_le, List, [], ◌∷◌, Option, None, Some}
use Rattle.std.specs.Prelude.{if◌then◌else◌}
use Rattle.std.specs.Option.{option_map_or, option_or}
use Rattle.cb_names.specs.Parameters.{ParameterName, parameter_at}
use Rattle.cb_scan.specs.declared.facts.Def.{Def}
use Rattle.cb_scan.specs.declared.facts.Kind.{Kind}
use Rattle.cb_scan.specs.declared.facts.Kind.TheVariants as kind

abbrev pub is_macro : Kind → Bool
is_macro kind.Macro = true
is_macro _ = false

-- a macro whose name begins by a place
abbrev pub is_macro_by : ℕ → Def → Bool
is_macro_by at d = is_macro d.kind && nat_le d.name.start at

-- where the name of the last such macro begins: no other macro has a line that goes on to the place
unfoldable pub macro_by : ℕ → List Def → Option ℕ
macro_by at [] = None
macro_by at (d ∷ ds) =
    option_or (macro_by at ds) (if is_macro_by at d then Some d.name.start else None)

-- the parameter at a place, if one is named there
abbrev pub parameter_there : List Def → (text : List ℕ) → (at : ℕ) → Option ParameterName
parameter_there ds text at =
    option_map_or (λ n. parameter_at text n at) (macro_by at ds) None
