-- How a name that means something in its function alone is renamed, or a parameter of a macro, or why
-- it is not.
use Rattle.std.specs.Prelude.{ℕ, ◌+◌, ◌-◌, Bool, true, false, ◌&&◌, ◌||◌, ◌==◌, nat_eq, nat_le, nat_lt}
use Rattle.std.specs.Prelude.{not, List, [], ◌∷◌, codes, count_by, filter, find, map, slice_index_or, take}
use Rattle.std.specs.Prelude.{Option, None, Some, Err, if◌then◌else◌}
use Rattle.std.specs.List.{list_any, starts_with}
use Rattle.std.specs.Option.{option_map, option_map_or, option_or}
use Rattle.std.specs.Str.{bytes_eq}
use Rattle.json.specs.Json.{Json}
use Rattle.cb_desk.specs.World.{World}
use Rattle.cb_index.specs.Rows.{tags_named}
use Rattle.cb_macros.specs.Meeting.{calls_argument, first_through, has_either, has_parameters}
use Rattle.cb_macros.specs.Meeting.{makes_other}
use Rattle.cb_names.specs.FunctionNames.{FunctionNames}
use Rattle.cb_names.specs.Locals.{LocalName}
use Rattle.cb_names.specs.Macros.{takes_member}
use Rattle.cb_names.specs.Parameters.{ParameterName}
use Rattle.cb_names.specs.declared.local.LocalUse.{LocalUse}
use Rattle.cb_names.specs.declared.names.Arguments.{Arguments}
use Rattle.cb_scan.specs.Lines.{line_of}
use Rattle.cb_scan.specs.Profiles.{facts_in}
use Rattle.cb_scan.specs.TextFacts.{TextFacts}
use Rattle.cb_scan.specs.declared.facts.Include.{Include}
use Rattle.cb_scan.specs.declared.facts.Kind.{Kind}
use Rattle.cb_scan.specs.declared.facts.Kind.TheVariants.{Macro, Typedef}
use Rattle.cb_scan.specs.declared.facts.Use.{Use}
use Rattle.cb_scan.specs.declared.lex.piece.Span.{Span}
use Rattle.cb_scan.specs.lex.Reserved.{is_name}
use Rattle.cb_scan.specs.lex.Tokens.{bytes_of}
use Rattle.cb_tags.specs.TagLines.{Tag}
use Rattle.cb_wire.specs.declared.list.TheConstants.{MOST_ELEMENTS}
use Rattle.cb_wire.specs.Edits.{FileEdits, edit_of, edits_of}
use Rattle.cb_wire.specs.Uris.{uri_of}
use Rattle.cb_lsp.specs.Alike.{is_counted_alike}
use Rattle.cb_lsp.specs.Clients.{Client}
use Rattle.cb_lsp.specs.Documents.{Oracle, Work, is_open}
use Rattle.cb_lsp.specs.Places.{range_of}
use Rattle.cb_lsp.specs.Renames.{Answered, Check, Unrenamed, bad_name, check, from_outside}
use Rattle.cb_lsp.specs.Renames.{in_arguments, in_macro, macro_or_type, no_definition}
use Rattle.cb_lsp.specs.Renames.{not_text, odd_bytes, ok_unless, used_already}
use Rattle.cb_lsp.specs.Renames.{without_reading}

-- a reason, if there is cause for it
abbrev pub some_if : Bool → Unrenamed → Option Unrenamed
some_if b why = if b then Some why else None

-- ---- names

-- a name that none is renamed from or to: it begins with `__`, or compilers give it a meaning
abbrev pub is_special : List ℕ → Bool
is_special w =
    starts_with nat_eq w (codes "__") || bytes_eq w (codes "typeof")
    || bytes_eq w (codes "offsetof")

abbrev pub is_bad : (old new : List ℕ) → Bool
is_bad old new = not (is_name new) || is_special old || is_special new

-- a macro or a typedef has a name
abbrev pub is_macro_or_type : Kind → Bool
is_macro_or_type Macro = true
is_macro_or_type Typedef = true
is_macro_or_type _ = false

abbrev pub is_taken : World → List ℕ → Bool
is_taken w name =
    list_any (λ (t : Tag). is_macro_or_type t.kind) (tags_named w.profile name w.files)

-- ---- the tokens of a function

-- a place is in an extent
abbrev pub is_within : Span → ℕ → Bool
is_within extent at = nat_le extent.start at && nat_lt at extent.end

-- a use in it has a name
abbrev pub is_use_in : (text : List ℕ) → Span → (name : List ℕ) → Use → Bool
is_use_in text extent name u =
    is_within extent u.name.start && bytes_eq (bytes_of text u.name) name

abbrev pub is_used_in : (text : List ℕ) → Span → List Use → (name : List ℕ) → Bool
is_used_in text extent us name = list_any (is_use_in text extent name) us

-- a span has that name
abbrev pub is_named : (text name : List ℕ) → Span → Bool
is_named text name s = bytes_eq (bytes_of text s) name

-- more uses in it have the name than names of the function that count: one is in a directive, or in
-- an attribute
abbrev pub is_hidden : (text : List ℕ) → FunctionNames → List Use → (name : List ℕ) → Bool
is_hidden text f us name =
    nat_lt (count_by (is_named text name) f.own) (count_by (is_use_in text f.extent name) us)

-- what a macro must not touch: the uses of a local; of a label all names of the function with its name
abbrev pub touched : (text : List ℕ) → FunctionNames → LocalName → (name : List ℕ) → List Span
touched text f own name =
    if own.is_label then filter (is_named text name) f.own
    else map (λ (u : LocalUse). u.name) own.uses

-- of some spans by place the first from a place on
abbrev pub first_from : List Span → ℕ → Option Span
first_from ss at = find (λ (s : Span). nat_le at s.start) ss

-- arguments hold one
abbrev pub hold_one : List Span → Arguments → Bool
hold_one ss a = option_map_or (λ (s : Span). nat_lt s.start a.end) (first_from ss a.name.end) false

-- the names whose arguments hold one
abbrev pub callers : List Span → List Arguments → List Span
callers ss xs = map (λ (a : Arguments). a.name) (filter (hold_one ss) xs)

-- ---- bytes beside a name

-- the byte at a place, and the one so many bytes before it; or 0
abbrev pub byte_at : List ℕ → ℕ → ℕ
byte_at text at = slice_index_or text at 0

abbrev pub byte_before : List ℕ → (at n : ℕ) → ℕ
byte_before text at n = if nat_le n at then byte_at text (at - n) else 0

-- a line is joined to the next one directly before a place, or there
abbrev pub is_joined_before : List ℕ → ℕ → Bool
is_joined_before text at =
    byte_before text at 1 == 10 && (byte_before text at 2 == 92
    || (byte_before text at 2 == 13 && byte_before text at 3 == 92))

abbrev pub is_joined_at : List ℕ → ℕ → Bool
is_joined_at text at =
    byte_at text at == 92 && (byte_at text (at + 1) == 10
    || (byte_at text (at + 1) == 13 && byte_at text (at + 2) == 10))

-- a byte that may go on a name for some compiler, or is a quote
abbrev pub is_odd : ℕ → Bool
is_odd b = b == 36 || b == 64 || b == 34 || b == 39 || nat_le 128 b

abbrev pub is_beside_odd : List ℕ → Span → Bool
is_beside_odd text s =
    is_odd (byte_before text s.start 1) || is_joined_before text s.start
    || is_odd (byte_at text s.end) || is_joined_at text s.end

-- ---- why it is not renamed

-- by the names alone
abbrev pub unless_names : World → (text : List ℕ) → Span → List Use → (old new : List ℕ)
    → Option Unrenamed
unless_names w text extent us old new =
    option_or (some_if (is_bad old new) bad_name)
    (option_or (some_if (is_used_in text extent us new) used_already)
    (some_if (is_taken w new || is_taken w old) macro_or_type))

-- by what the rules do not see of the function, or cannot tell of the name
abbrev pub unless_seen : (name text : List ℕ) → FunctionNames → List Use → (old : List ℕ)
    → Option Unrenamed
unless_seen name text f us old =
    option_or (some_if (not f.whole) (from_outside name))
    (some_if (is_hidden text f us old || list_any (is_named text old) f.unsure) (in_macro old))

-- by a macro that the function names
abbrev pub unless_macro : World → (text : List ℕ) → FunctionNames → (old new : List ℕ)
    → Option Unrenamed
unless_macro w text f old new =
    option_map in_macro (first_through w (has_either old new) (map (bytes_of text) f.names))

-- by what becomes of arguments
abbrev pub unless_arguments : World → (text : List ℕ) → List Span → Option Unrenamed
unless_arguments w text cs =
    option_map in_arguments
    (option_or (find takes_member (map (bytes_of text) cs))
    (first_through w makes_other (map (bytes_of text) cs)))

-- a span has the name of a macro with parameters. Without its arguments it is handed to another one
abbrev pub is_handed : World → (text : List ℕ) → Span → Bool
is_handed w text s = has_parameters w (bytes_of text s)

-- by what such macros make of arguments
abbrev pub unless_alone : World → (text : List ℕ) → (lone : List Span) → Option Unrenamed
unless_alone w text ss =
    option_map in_arguments
    (first_through w makes_other (map (bytes_of text) (filter (is_handed w text) ss)))

-- the same, where one of some names leads to a macro that calls an argument
abbrev pub unless_handed : World → (text : List ℕ) → List Span → (lone : List Span) → Option Unrenamed
unless_handed w text cs ss =
    option_map_or (λ _. unless_alone w text ss)
    (first_through w calls_argument (map (bytes_of text) cs)) None

-- by arguments of these names, or by such macros
abbrev pub unless_given : World → (text : List ℕ) → List Span → (lone : List Span) → Option Unrenamed
unless_given w text cs ss = option_or (unless_arguments w text cs) (unless_handed w text cs ss)

-- by a file that is included there
abbrev pub unless_included : (text : List ℕ) → Span → List Include → Option Unrenamed
unless_included text extent is =
    option_map (λ (i : Include). from_outside (bytes_of text i.header))
    (find (λ (i : Include). is_within extent i.header.start) is)

-- by the bytes of the file
abbrev pub unless_bytes : (name text : List ℕ) → List LocalUse → Option Unrenamed
unless_bytes name text us =
    option_or (option_map (λ (u : LocalUse). odd_bytes name (line_of text u.name.start))
    (find (λ (u : LocalUse). is_beside_odd text u.name) us))
    (some_if (not (is_counted_alike text)) (not_text name))

abbrev pub unless_local : World → (name text : List ℕ) → FunctionNames → TextFacts → (old new : List ℕ)
    → LocalName → Option Unrenamed
unless_local w name text f facts old new own =
    option_or (unless_names w text f.extent facts.uses old new)
    (option_or (unless_macro w text f old new)
    (option_or (unless_seen name text f facts.uses old)
    (option_or (unless_given w text (callers (touched text f own old) f.arguments) f.lone)
    (option_or (unless_included text f.extent facts.includes)
    (unless_bytes name text own.uses)))))

-- a parameter of a macro, which takes its arguments before any other macro sees them
abbrev pub unless_parameter : World → (name text : List ℕ) → List Use → (old new : List ℕ)
    → ParameterName → Option Unrenamed
unless_parameter w name text us old new p =
    option_or (unless_names w text p.extent us old new)
    (option_or (unless_arguments w text
    (callers (map (λ (u : LocalUse). u.name) p.name.uses) p.arguments))
    (unless_bytes name text p.name.uses))

-- ---- its edits

-- a new name in the place of a use
abbrev pub local_edit : Client → (text new : List ℕ) → LocalUse → Json
local_edit c text new u = edit_of (range_of c.encoding text u.name.start u.name.end) new

-- edits of a file, if there are some
abbrev pub edits_if : (uri : List ℕ) → List Json → List FileEdits
edits_if uri [] = []
edits_if uri (j ∷ js) = record { uri = uri; edits = j ∷ js } ∷ []

-- in the place of each: of the first 2^48, which no memory holds
abbrev pub local_edits : Client → (name text new : List ℕ) → List LocalUse → List FileEdits
local_edits c name text new us =
    edits_if (uri_of c.root name) (map (local_edit c text new) (take MOST_ELEMENTS us))

-- ---- all of it

-- the edits, unless the file is not edited
abbrev pub edited_if : Client → (name text new : List ℕ) → List LocalUse → Check → Answered
edited_if c name text new us k = record {
  answer = ok_unless (edits_of (local_edits c name text new us)) k.why;
  read = k.read;
}

abbrev pub edited_unless : Oracle → Client → Work → (name text new : List ℕ) → List LocalUse
    → Option Unrenamed → Answered
edited_unless o c w name text new us (Some why) = without_reading (Err why)
edited_unless o c w name text new us None =
    edited_if c name text new us (check o c w (is_open w.documents name) name)

-- a local with a definition, in a function with these names
abbrev pub renamed_local : Oracle → Client → Work → (name text new : List ℕ) → LocalName
    → Option Span → Option FunctionNames → Answered
renamed_local o c w name text new own (Some s) (Some f) =
    edited_unless o c w name text new own.uses
    (unless_local w.world name text f (facts_in w.world.profile text) (bytes_of text s) new own)
renamed_local o c w name text new own _ _ = without_reading (Err no_definition)

-- a parameter of a macro with a definition
abbrev pub renamed_parameter : Oracle → Client → Work → (name text new : List ℕ) → ParameterName
    → Option Span → Answered
renamed_parameter o c w name text new p (Some s) =
    edited_unless o c w name text new p.name.uses (unless_parameter w.world name text
    (facts_in w.world.profile text).uses (bytes_of text s) new p)
renamed_parameter o c w name text new p None = without_reading (Err no_definition)
