-- What a reply shows of the marks and of the tag stack.
use Rattle.std.specs.Prelude.{List, map, reverse}
use Rattle.cb_desk.specs.World.{World, File, Place, text_of_file}
use Rattle.cb_desk.specs.Answer.{AnswerRow, line_row}

-- the row of a place: its line in the file that it names
abbrev pub place_row : List File → Place → AnswerRow
place_row files p = line_row p.file (text_of_file files p.file) p.line

-- a row for each mark, by file and line
abbrev pub mark_rows : World → List AnswerRow
mark_rows w = map (place_row w.files) w.marks

-- a row for each frame, from the top of the stack down
abbrev pub stack_rows : World → List AnswerRow
stack_rows w = map (place_row w.files) (reverse w.frames)
