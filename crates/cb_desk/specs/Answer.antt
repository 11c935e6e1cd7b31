-- What is asked of a world, and the rows that answer.
use Rattle.std.specs.Prelude.{ℕ, ◌-◌, Bool, ◌&&◌, ◌||◌, ◌==◌, not, nat_le, if◌then◌else◌, Option}
use Rattle.std.specs.Prelude.{Some, None, List, [], ◌∷◌, length, drop, filter}
use Rattle.std.specs.Prelude.{map, codes, slice_range}
use Rattle.std.specs.List.{flat_map}
use Rattle.std.specs.Str.{bytes_eq}
use Rattle.cb_scan.specs.declared.profile.Profile.{Profile}
use Rattle.cb_scan.specs.declared.facts.Call.{Call}
use Rattle.cb_scan.specs.declared.facts.Def.{Def}
use Rattle.cb_scan.specs.declared.facts.Include.{Include}
use Rattle.cb_scan.specs.declared.facts.Use.{Use}
use Rattle.cb_scan.specs.declared.lex.piece.Span.{Span}
use Rattle.cb_scan.specs.Profiles.{facts_in, is_declaration}
use Rattle.cb_scan.specs.Lines.{line_text}
use Rattle.cb_scan.specs.TextFacts.{TextFacts}
use Rattle.cb_desk.specs.declared.rows.Found.{Found}
use Rattle.cb_desk.specs.declared.rows.Field.{Field}
use Rattle.cb_desk.specs.declared.rows.Field.TheVariants.{Symbol, Definition, Called, Calling}
use Rattle.cb_desk.specs.declared.rows.Field.TheVariants.{Text, File as FileName, Including}
use Rattle.cb_desk.specs.Search.{holds, lines_with}
use Rattle.cb_desk.specs.World.{World, File}

-- the field that the byte of a digit names, if there is one: 0 to 4, 7 and 8
abbrev pub field_of_digit : ℕ → Option Field
field_of_digit digit =
    if digit == 0x30 then Some Symbol
    else (if digit == 0x31 then Some Definition
    else (if digit == 0x32 then Some Called
    else (if digit == 0x33 then Some Calling
    else (if digit == 0x34 then Some Text
    else (if digit == 0x37 then Some FileName
    else (if digit == 0x38 then Some Including
    else None))))))

-- a row of an answer: file, function, line from 1, and text
pub record AnswerRow : Type 0 where
  pub file : List ℕ
  pub function : List ℕ
  pub line : ℕ
  pub text : List ℕ

-- two rows are equal in all four columns
abbrev pub row_eq : AnswerRow → AnswerRow → Bool
row_eq r q =
    bytes_eq r.file q.file && bytes_eq r.function q.function && r.line == q.line
    && bytes_eq r.text q.text

-- of equal rows only the first stays
unfoldable pub distinct : List AnswerRow → List AnswerRow
distinct [] = []
distinct (r ∷ rs) = r ∷ filter (λ q. not (row_eq r q)) (distinct rs)

-- the bytes of a space, a tab and a slash
abbrev pub space : ℕ
space = 0x20

abbrev pub tab : ℕ
tab = 0x09

abbrev pub slash : ℕ
slash = 0x2F

-- a line without its leading spaces and tabs
unfoldable pub unindented : List ℕ → List ℕ
unindented [] = []
unindented (b ∷ bs) = if b == space || b == tab then unindented bs else b ∷ bs

-- the row of a line of a file
abbrev pub row_on : (file text function : List ℕ) → ℕ → AnswerRow
row_on file text function line = record {
  file = file;
  function = function;
  line = line;
  text = unindented (line_text text line);
}

-- what stands in a column that has nothing to show
abbrev pub unknown : List ℕ
unknown = codes "<unknown>"

-- the row of a line of a file, which names no function
abbrev pub line_row : List ℕ → List ℕ → ℕ → AnswerRow
line_row file text line = row_on file text unknown line

-- ---- the facts of a text

-- the bytes of a span of a text
abbrev pub bytes_of : List ℕ → Span → List ℕ
bytes_of text s = slice_range text s.start s.end

-- the name of a definition in its text
abbrev pub name_of : List ℕ → Def → List ℕ
name_of text d = bytes_of text d.name

-- a definition has that name
abbrev pub defines : List ℕ → List ℕ → Def → Bool
defines text name d = bytes_eq (name_of text d) name

-- a fact as a field shows it: what the pattern is held against, the name in the function column if
-- there is one, and the line
abbrev pub found_use : Use → Found
found_use u = record { key = u.name; function = u.scope; line = u.line }

abbrev pub found_def : Def → Found
found_def d = record { key = d.name; function = Some d.name; line = d.line }

abbrev pub found_called : Call → Found
found_called c = record { key = c.caller; function = Some c.callee; line = c.line }

abbrev pub found_calling : Call → Found
found_calling c = record { key = c.callee; function = Some c.caller; line = c.line }

abbrev pub found_include : Include → Found
found_include i = record { key = i.header; function = i.scope; line = i.line }

-- what a definition names is defined there, and not only declared
abbrev pub is_defined : Def → Bool
is_defined d = not (is_declaration d.kind)

-- the facts that a field asks for, by place; of what is only declared none is a definition
abbrev pub found_in : Field → TextFacts → List Found
found_in Symbol facts = map found_use facts.uses
found_in Definition facts = map found_def (filter is_defined facts.defs)
found_in Called facts = map found_called facts.calls
found_in Calling facts = map found_calling facts.calls
found_in Including facts = map found_include facts.includes
found_in _ facts = []

-- some bytes end in others
abbrev pub ends_in : (suffix bytes : List ℕ) → Bool
ends_in suffix bytes =
    nat_le (length suffix) (length bytes)
    && bytes_eq (drop (length bytes - length suffix) bytes) suffix

-- a header is the one asked for, or it ends in a slash and that one
abbrev pub is_header : (pattern header : List ℕ) → Bool
is_header pattern header = bytes_eq header pattern || ends_in (slash ∷ pattern) header

-- the pattern of a field asks for these bytes
abbrev pub is_asked : Field → (pattern key : List ℕ) → Bool
is_asked Including pattern key = is_header pattern key
is_asked _ pattern key = bytes_eq key pattern

-- the name in the function column; outside of functions and macros it is `<global>`
abbrev pub function_name : List ℕ → Option Span → List ℕ
function_name text None = codes "<global>"
function_name text (Some name) = bytes_of text name

-- the row of a fact of a file
abbrev pub found_row : File → Found → AnswerRow
found_row f x = row_on f.name f.bytes (function_name f.bytes x.function) x.line

-- the rows of those of some facts of a file that a pattern asks for
abbrev pub found_rows : Field → List ℕ → File → List Found → List AnswerRow
found_rows field pattern f xs =
    map (found_row f) (filter (λ (x : Found). is_asked field pattern (bytes_of f.bytes x.key)) xs)

-- the rows of the facts of a file that a pattern asks for, by a profile
abbrev pub fact_rows : Profile → Field → List ℕ → File → List AnswerRow
fact_rows p field pattern f = found_rows field pattern f (found_in field (facts_in p f.bytes))

-- ---- the answer

-- the rows of the lines that hold a pattern in a file
abbrev pub text_rows_in : List ℕ → File → List AnswerRow
text_rows_in pattern f = map (line_row f.name f.bytes) (lines_with pattern f.bytes)

-- the row of a file
abbrev pub file_row : List ℕ → AnswerRow
file_row name = record { file = name; function = unknown; line = 1; text = unknown }

-- that row, where the name of the file holds a pattern
abbrev pub file_rows : (pattern name : List ℕ) → List AnswerRow
file_rows pattern name = if holds pattern name then file_row name ∷ [] else []

-- the rows of a field in a file
abbrev pub field_rows : Profile → Field → List ℕ → File → List AnswerRow
field_rows p Text pattern f = text_rows_in pattern f
field_rows p FileName pattern f = file_rows pattern f.name
field_rows p field pattern f = fact_rows p field pattern f

-- all rows of a field, by file and place, equal ones included
abbrev pub all_rows : World → Field → List ℕ → List AnswerRow
all_rows w field pattern = flat_map (field_rows w.profile field pattern) w.files

-- the answer of a world to a question
abbrev pub answer : World → Field → List ℕ → List AnswerRow
answer w field pattern = distinct (all_rows w field pattern)
