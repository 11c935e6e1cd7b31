-- The macros that are met from some names on: in each round those that the texts of the last round
-- name, each once. This is the project's profile.
use Rattle.std.specs.Prelude.{ℕ, zero, suc, Bool, true, false, ◌&&◌, ◌||◌, not, List, [], ◌∷◌, ◌++◌}
use Rattle.std.specs.Prelude.{drop, find, map, Option, None, Some, if◌then◌else◌}
use Rattle.std.specs.List.{flat_map, list_any}
use Rattle.std.specs.Option.{option_map, option_or}
use Rattle.std.specs.Str.{bytes_eq}
use Rattle.cb_desk.specs.World.{World, has_file, text_of_file}
use Rattle.cb_index.specs.Rows.{tags_named}
use Rattle.cb_names.specs.Macros.{macro_parts}
use Rattle.cb_names.specs.declared.macros.MacroName.{MacroName}
use Rattle.cb_scan.specs.declared.facts.Kind.{Kind}
use Rattle.cb_scan.specs.declared.facts.Kind.TheVariants.{Macro}
use Rattle.cb_scan.specs.lex.Tokens.{bytes_of}
use Rattle.cb_tags.specs.TagLines.{Tag}

-- ---- macros of a world

abbrev pub is_macro_kind : Kind → Bool
is_macro_kind Macro = true
is_macro_kind _ = false

-- a macro has that name
abbrev pub is_macro : World → List ℕ → Bool
is_macro w name = list_any (λ (t : Tag). is_macro_kind t.kind) (tags_named w.profile name w.files)

-- the rest of the file of a tag, from its name on; the same of a tag of a macro
abbrev pub rest_of : World → Tag → List (List ℕ)
rest_of w t = if has_file w.files t.file then drop t.place (text_of_file w.files t.file) ∷ [] else []

abbrev pub rest_if : World → Tag → List (List ℕ)
rest_if w t = if is_macro_kind t.kind then rest_of w t else []

-- of each macro of that name
abbrev pub texts : World → List ℕ → List (List ℕ)
texts w name = flat_map (rest_if w) (tags_named w.profile name w.files)

-- the names that the text of a macro has, which these bytes begin with
abbrev pub names_in : List ℕ → List (List ℕ)
names_in rest = map (λ (n : MacroName). bytes_of rest n.name) (macro_parts rest).names

-- ---- meeting them

-- a macro that was met, and the name through which it was met first
pub record Met : Type 0 where
  pub name : List ℕ
  pub through : List ℕ

-- all that were met, and those of the last round
pub record Seen : Type 0 where
  pub all : List Met
  pub fresh : List Met

abbrev pub has_met : List Met → List ℕ → Bool
has_met ms name = list_any (λ (m : Met). bytes_eq m.name name) ms

-- one more is met, unless it is no macro or was met before
abbrev pub meet : World → Seen → Met → Seen
meet w s m =
    if is_macro w m.name && not (has_met s.all m.name)
    then record { all = s.all ++ m ∷ []; fresh = s.fresh ++ m ∷ [] } else s

-- one after the other
unfoldable pub meet_all : World → Seen → List Met → Seen
meet_all w s [] = s
meet_all w s (m ∷ ms) = meet_all w (meet w s m) ms

-- names, met through one
abbrev pub met_through : List ℕ → List (List ℕ) → List Met
met_through through names = map (λ name. record { name = name; through = through }) names

-- what some texts name
abbrev pub met_by : List ℕ → List (List ℕ) → List Met
met_by through rests = flat_map (λ rest. met_through through (names_in rest)) rests

-- what the texts of a macro name
abbrev pub named_by : World → Met → List Met
named_by w m = met_by m.through (texts w m.name)

-- one more round
abbrev pub round : World → Seen → Seen
round w s = meet_all w (record { all = s.all; fresh = [] }) (flat_map (named_by w) s.fresh)

-- so many rounds
unfoldable pub rounds : World → ℕ → Seen → Seen
rounds w zero s = s
rounds w (suc n) s = rounds w n (round w s)

-- names that are met by themselves
abbrev pub met_first : List (List ℕ) → List Met
met_first names = map (λ name. record { name = name; through = name }) names

-- the macros that are met from these names on, in sixteen rounds
abbrev pub met_from : World → List (List ℕ) → Seen
met_from w names =
    rounds w 16 (meet_all w (record { all = []; fresh = [] }) (met_first names))

-- ---- what is sought

-- the name through which the first macro was met that has a text with what is sought; else, where the
-- sixteenth round still met one, the name through which that was
abbrev pub through_of : Option Met → Option (List ℕ)
through_of m = option_map (λ (m : Met). m.through) m

abbrev pub first_of : List Met → Option Met
first_of [] = None
first_of (m ∷ ms) = Some m

abbrev pub found_in : World → (List ℕ → Bool) → Seen → Option Met
found_in w sought s =
    option_or (find (λ (m : Met). list_any sought (texts w m.name)) s.all) (first_of s.fresh)

abbrev pub first_through : World → (List ℕ → Bool) → List (List ℕ) → Option (List ℕ)
first_through w sought names = through_of (found_in w sought (met_from w names))

-- the text of a macro has one of two names, neither as a parameter nor as a member or tag
abbrev pub has_either : (one other : List ℕ) → (rest : List ℕ) → Bool
has_either one other rest =
    list_any (λ (n : MacroName). n.free && (bytes_eq (bytes_of rest n.name) one
    || bytes_eq (bytes_of rest n.name) other)) (macro_parts rest).names

-- it takes arguments
abbrev pub takes_arguments : (rest : List ℕ) → Bool
takes_arguments rest = (macro_parts rest).takes

-- the macro of a name does
abbrev pub has_parameters : World → List ℕ → Bool
has_parameters w name = list_any takes_arguments (texts w name)

-- it calls an argument, which may be the name of a macro
abbrev pub calls_argument : (rest : List ℕ) → Bool
calls_argument rest = (macro_parts rest).calls

-- it may make something else of its arguments
abbrev pub makes_other : (rest : List ℕ) → Bool
makes_other rest = (macro_parts rest).odd
