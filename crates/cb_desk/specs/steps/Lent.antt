-- What iterators over a shelf still give.
use Rattle.std.specs.Prelude.{ℕ, Bool, true, false, not, List, filter, map}
use Rattle.std.specs.List.{flat_map}
use Rattle.cb_scan.specs.Lines.{line_text}
use Rattle.cb_scan.specs.Profiles.{is_declaration}
use Rattle.cb_tags.specs.TagLines.{Tag}
use Rattle.cb_index.specs.Counts.{column}
use Rattle.cb_index.specs.Rows.{Fact}
use Rattle.cb_index.specs.Shelved.{ShownFile}
use Rattle.cb_index.specs.declared.entry.FactKind.{FactKind}
use Rattle.cb_index.specs.declared.entry.FactKind.TheVariants.{Uses, Callees, Callers}
use Rattle.cb_index.specs.steps.Includes.{includes_left}
use Rattle.cb_index.specs.steps.Left.{entries_left, tags_left}
use Rattle.cb_desk.specs.Answer.{AnswerRow, file_rows, is_header, unindented}
use Rattle.cb_desk.specs.World.{File}
use Rattle.cb_desk.specs.declared.answers.found.DefinedRows.{DefinedRows}
use Rattle.cb_desk.specs.declared.answers.found.FoundRows.{FoundRows}
use Rattle.cb_desk.specs.declared.answers.found.FoundRows.TheVariants.{Defs, Headers, Names}
use Rattle.cb_desk.specs.declared.answers.found.HeaderRows.{HeaderRows}
use Rattle.cb_desk.specs.declared.answers.found.NameRows.{NameRows}
use Rattle.cb_desk.specs.declared.answers.found.RowSpot.{RowSpot}
use Rattle.cb_desk.specs.declared.answers.found.SpotText.{SpotText}
use Rattle.cb_desk.specs.declared.answers.found.SpotText.TheVariants.{LineOf, Whole}
use Rattle.cb_desk.specs.declared.rows.Field.{Field}
use Rattle.cb_desk.specs.declared.rows.Field.TheVariants.{Symbol, Called, Calling}

-- a file that is shown, without what is found in it
abbrev pub without_facts : ShownFile → File
without_facts f = record { name = f.name; bytes = f.bytes }

-- the row of a fact that shows the name around it
abbrev pub row_around : Fact → AnswerRow
row_around f =
    record { file = f.file; function = column f.scope; line = f.line; text = unindented f.text }

-- the row of a fact that shows its own name
abbrev pub row_named : Fact → AnswerRow
row_named f = record { file = f.file; function = f.name; line = f.line; text = unindented f.text }

-- the row of a fact that shows its own name, or the one around it
abbrev pub row_shown : Bool → Fact → AnswerRow
row_shown true f = row_named f
row_shown false f = row_around f

-- whether rows of facts of a kind show the own name
abbrev pub is_named : FactKind → Bool
is_named Callers = true
is_named Uses = false
is_named Callees = false

-- the field that asks for facts of a kind
abbrev pub asked_by : FactKind → Field
asked_by Uses = Symbol
asked_by Callees = Calling
asked_by Callers = Called

-- the row of a definition
abbrev pub row_of_tag : Tag → AnswerRow
row_of_tag t = record { file = t.file; function = t.name; line = t.line; text = unindented t.text }

-- the text of a row on a line
abbrev pub spot_text : ℕ → SpotText → List ℕ
spot_text line (LineOf source) = unindented (line_text source.now line)
spot_text line (Whole text) = text.now

-- the row that stands at a spot
abbrev pub spot_row : RowSpot → AnswerRow
spot_row s = record {
  file = s.file.now;
  function = s.function.now;
  line = s.line;
  text = spot_text s.line s.text;
}

-- the definitions that are no declarations
abbrev pub defined_left : DefinedRows → List Tag
defined_left r = filter (λ (t : Tag). not (is_declaration t.kind)) (tags_left r.rest)

-- the includes that a pattern asks for
abbrev pub headers_left : HeaderRows → List Fact
headers_left r = filter (λ (f : Fact). is_header r.pattern.now f.name) (includes_left r.rest)

-- the rows of the files whose name holds a pattern
abbrev pub names_left : NameRows → List AnswerRow
names_left r = flat_map (λ (f : ShownFile). file_rows r.pattern.now f.name) (entries_left r.rest)

-- the rows of a question
abbrev pub found_left : FoundRows → List AnswerRow
found_left (Defs r) = map row_of_tag (defined_left r)
found_left (Headers r) = map row_around (headers_left r)
found_left (Names r) = names_left r
