-- What is left of the rows of an answer.
use Rattle.std.specs.Prelude.{List}
use Rattle.cb_desk.specs.Answer.{AnswerRow}
use Rattle.cb_desk.specs.declared.answers.rows.RowSource.{RowSource}
use Rattle.cb_desk.specs.declared.answers.rows.RowSource.TheVariants.{Facts, Lines, Others}

abbrev pub rows_in : RowSource → List AnswerRow
rows_in (Lines rows) = rows
rows_in (Facts rows) = rows
rows_in (Others rows) = rows
