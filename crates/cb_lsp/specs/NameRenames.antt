-- How a name of the files is renamed, or why it is not; and what is renamed at a position.
use Rattle.std.specs.Prelude.{ℕ, ◌+◌, Bool, ◌&&◌, ◌||◌, not, List, [], ◌∷◌, find, length, Option, None, Some}
use Rattle.std.specs.Prelude.{Err, false, true, if◌then◌else◌}
use Rattle.std.specs.List.{list_any}
use Rattle.std.specs.Option.{option_map, option_or}
use Rattle.std.specs.Str.{bytes_eq}
use Rattle.cb_desk.specs.World.{World, has_file, text_of_file}
use Rattle.cb_index.specs.Rows.{Fact, tags_named, uses_of}
use Rattle.cb_names.specs.FunctionNames.{function_names}
use Rattle.cb_names.specs.Locals.{LocalName}
use Rattle.cb_names.specs.Meanings.{local_at}
use Rattle.cb_names.specs.Parameters.{ParameterName}
use Rattle.cb_names.specs.declared.space.Space.{Space}
use Rattle.cb_scan.specs.Lines.{line_of}
use Rattle.cb_scan.specs.Profiles.{facts_in}
use Rattle.cb_scan.specs.declared.facts.Kind.{Kind}
use Rattle.cb_scan.specs.declared.lex.piece.Span.{Span}
use Rattle.cb_scan.specs.lex.Tokens.{bytes_of}
use Rattle.cb_tags.specs.TagLines.{Tag}
use Rattle.cb_wire.specs.declared.position.Position.{Position}
use Rattle.cb_wire.specs.Positions.{place}
use Rattle.cb_lsp.specs.Alike.{is_counted_alike}
use Rattle.cb_lsp.specs.Clients.{Client}
use Rattle.cb_lsp.specs.Documents.{Oracle, Work}
use Rattle.cb_lsp.specs.LocalRenames.{is_bad, is_beside_odd, renamed_local, renamed_parameter}
use Rattle.cb_lsp.specs.LocalRenames.{some_if}
use Rattle.cb_lsp.specs.Nearest.{is_member, is_private, is_tag}
use Rattle.cb_lsp.specs.Parameters.{is_macro, parameter_there}
use Rattle.cb_lsp.specs.Renames.{Answered, Unrenamed, bad_name, from_outside, if_renamable}
use Rattle.cb_lsp.specs.Renames.{is_some_use}
use Rattle.cb_lsp.specs.Renames.{macro_or_type, no_definition, not_text, odd_bytes, renamed_all}
use Rattle.cb_lsp.specs.Renames.{unknown_type, used_already, without_reading}
use Rattle.cb_lsp.specs.WordSpaces.{space_there}
use Rattle.cb_lsp.specs.WordUses.{references_in, word_sort}
use Rattle.cb_lsp.specs.Words.{word_at}
use Rattle.cb_lsp.specs.declared.same.Sort.{Sort}
use Rattle.cb_lsp.specs.declared.same.Sort.TheVariants.{All, Members, Ordinary, Tags}

-- ---- why a name of the files is not renamed

-- one of some definitions is that of a macro, and another one is not
abbrev pub is_mixed : List Tag → Bool
is_mixed ts =
    list_any (λ (t : Tag). is_macro t.kind) ts && list_any (λ (t : Tag). not (is_macro t.kind)) ts

-- by the names alone
abbrev pub unless_word : World → (old new : List ℕ) → Option Unrenamed
unless_word w old new =
    option_or (some_if (is_bad old new) bad_name)
    (option_or (some_if (is_some_use (uses_of w.profile new w.files)) used_already)
    (some_if (is_mixed (tags_named w.profile old w.files)) macro_or_type))

-- by the first of some uses of a member, or by the word that is asked about
abbrev pub untyped : World → (name text : List ℕ) → Span → List Fact → Unrenamed
untyped w name text word [] = unknown_type name (line_of text word.start)
untyped w name text word (u ∷ us) =
    unknown_type u.file (line_of (text_of_file w.files u.file) u.place)

-- a member is not renamed: its uses may be those of another structure
abbrev pub unless_typed : World → (name text : List ℕ) → Sort → Span → Option Unrenamed
unless_typed w name text Members word =
    Some (untyped w name text word (references_in w name text Members word false))
unless_typed w name text sort word = None

-- definitions of this kind are of a sort
abbrev pub has_kind : Sort → Kind → Bool
has_kind All k = is_macro k
has_kind Members k = false
has_kind Tags k = is_tag k
has_kind Ordinary k = not (is_member k || is_tag k)

-- a definition is of a sort, and private to its file
abbrev pub is_kept : Sort → Tag → Bool
is_kept sort t = has_kind sort t.kind && is_private t

-- where some uses are in a file, the first that is not
abbrev pub first_outside : (file : List ℕ) → List Fact → Option Fact
first_outside file us =
    if list_any (λ (u : Fact). bytes_eq u.file file) us
    then find (λ (u : Fact). not (bytes_eq u.file file)) us else None

-- by a definition that is private to a file, where uses of others would be renamed with it
unfoldable pub unless_kept : Sort → List Tag → List Fact → Option Unrenamed
unless_kept sort [] us = None
unless_kept sort (t ∷ ts) us =
    option_or (if is_kept sort t
    then option_map (λ (u : Fact). from_outside u.file) (first_outside t.file us) else None)
    (unless_kept sort ts us)

-- a byte beside a use may be one of a name
abbrev pub span_of_use : Fact → Span
span_of_use u = record { start = u.place; end = u.place + length u.name }

abbrev pub is_odd_use : World → Fact → Bool
is_odd_use w u = is_beside_odd (text_of_file w.files u.file) (span_of_use u)

-- editors count the columns of its file in different ways
abbrev pub is_unlike_use : World → Fact → Bool
is_unlike_use w u = not (is_counted_alike (text_of_file w.files u.file))

-- by the bytes of the files
abbrev pub unless_odd : World → List Fact → Option Unrenamed
unless_odd w us =
    option_map (λ (u : Fact). odd_bytes u.file (line_of (text_of_file w.files u.file) u.place))
    (find (is_odd_use w) us)

abbrev pub unless_unlike : World → List Fact → Option Unrenamed
unless_unlike w us = option_map (λ (u : Fact). not_text u.file) (find (is_unlike_use w) us)

abbrev pub unless_uses : World → List Fact → Option Unrenamed
unless_uses w us = option_or (unless_odd w us) (unless_unlike w us)

-- ---- all of it

-- an answer, unless there is a reason against it
abbrev pub answer_unless : Option Unrenamed → Answered → Answered
answer_unless None a = a
answer_unless (Some why) a = without_reading (Err why)

-- these uses are renamed
abbrev pub renamed_uses : Oracle → Client → Work → (new : List ℕ) → List Fact → Answered
renamed_uses o c w new us = answer_unless (unless_uses w.world us) (renamed_all o c w new us)

-- these uses of a word that are of a sort
abbrev pub renamed_found : Oracle → Client → Work → (text new : List ℕ) → Sort → Span → List Fact
    → Answered
renamed_found o c w text new sort word us =
    answer_unless
    (unless_kept sort (tags_named w.world.profile (bytes_of text word) w.world.files) us)
    (renamed_uses o c w new us)

-- all of them
abbrev pub renamed_sort : Oracle → Client → Work → (name text new : List ℕ) → Sort → Span → Answered
renamed_sort o c w name text new sort word =
    answer_unless (unless_typed w.world name text sort word)
    (renamed_found o c w text new sort word
    (references_in w.world name text sort word true))

-- those that name the same as a word of the file of this name and text, whose name has this space
abbrev pub renamed_word : Oracle → Client → Work → (name text : List ℕ) → Option Space
    → (new : List ℕ) → Option Span → Answered
renamed_word o c w name text space new None = without_reading (Err no_definition)
renamed_word o c w name text space new (Some word) =
    answer_unless (unless_word w.world (bytes_of text word) new)
    (renamed_sort o c w name text new (word_sort w.world name text space word) word)

-- ---- at a place

-- what stands at a place of the file of this name and text, and is no parameter of a macro
abbrev pub renamed_name : Oracle → Client → Work → (name text new : List ℕ) → (at : ℕ)
    → Option LocalName → Answered
renamed_name o c w name text new at None =
    let word = word_at text at in
    renamed_word o c w name text (space_there (facts_in w.world.profile text).defs text at word) new
    (if_renamable w.world text word)
renamed_name o c w name text new at (Some own) =
    renamed_local o c w name text new own own.definition (function_names text at)

-- what stands there, or a parameter
abbrev pub renamed_there : Oracle → Client → Work → (name text new : List ℕ) → (at : ℕ)
    → Option ParameterName → Answered
renamed_there o c w name text new at (Some p) =
    renamed_parameter o c w name text new p p.name.definition
renamed_there o c w name text new at None =
    renamed_name o c w name text new at (local_at text at)

-- the same at a position of a file of this name, if there is such a file
abbrev pub renamed_at : Oracle → Client → Work → Position → (new : List ℕ) → Option (List ℕ)
    → Answered
renamed_at o c w p new None = without_reading (Err no_definition)
renamed_at o c w p new (Some name) =
    let text = text_of_file w.world.files name in
    let at = place c.encoding text p in
    if has_file w.world.files name
    then renamed_there o c w name text new at
    (parameter_there (facts_in w.world.profile text).defs text at)
    else without_reading (Err no_definition)
