-- What a hover shows.
use Rattle.std.specs.Prelude.{ℕ, ◌++◌, List, codes, decimal, map, take}
use Rattle.json.specs.Json.{Json, string, object, no_members, member}
use Rattle.cb_desk.specs.Answer.{unindented}
use Rattle.cb_scan.specs.Lines.{line_of, line_text}
use Rattle.cb_tags.specs.TagLines.{Tag}
use Rattle.cb_wire.specs.declared.position.Range.{Range}
use Rattle.cb_wire.specs.Lists.{joined}
use Rattle.cb_wire.specs.declared.units.Encoding.TheVariants.{Utf16}
use Rattle.cb_wire.specs.Texts.{readable}
use Rattle.cb_wire.specs.Units.{column, place_in_line}
use Rattle.cb_wire.specs.Values.{range_tree}
use Rattle.cb_lsp.specs.declared.hover.TheConstants.{MOST_HOVERS}

-- at most 400 bytes of a line, up to the end of a character
abbrev pub cut_line : List ℕ → List ℕ
cut_line line = take (place_in_line Utf16 line (column Utf16 line 400)) line

-- a line of a file: their names, and the text of that line without blanks before it
abbrev pub hover_line : (file : List ℕ) → (line : ℕ) → (text : List ℕ) → List ℕ
hover_line file line text =
    readable file ++ codes ":" ++ decimal line ++ codes "\n"
    ++ readable (cut_line (unindented text))

-- a definition: the line of its name
abbrev pub hover_text : Tag → List ℕ
hover_text t = hover_line t.file t.line t.text

-- what stands at a place of a file of this name and text: its line
abbrev pub hover_at_place : (name text : List ℕ) → (place : ℕ) → List ℕ
hover_at_place name text place =
    let line = line_of text place in hover_line name line (line_text text line)

-- the first of some texts, with an empty line between two
abbrev pub hover_shown : List (List ℕ) → List ℕ
hover_shown texts = joined (codes "\n\n") (take MOST_HOVERS texts)

-- definitions
abbrev pub hover_texts : List Tag → List ℕ
hover_texts ts = hover_shown (map hover_text ts)

-- a text at a range
abbrev pub hover_of : List ℕ → Range → Json
hover_of text range =
    object (member (codes "contents") (object (member (codes "kind") (string (codes "plaintext"))
    (member (codes "value") (string text) no_members)))
    (member (codes "range") (range_tree range) no_members))
