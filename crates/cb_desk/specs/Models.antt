-- What the values of the program stand for in the definitions.
use Rattle.std.specs.Prelude.{ℕ, List}
use Rattle.std.specs.Borrow.{Bor}
use Rattle.cb_scan.specs.TextFacts.{TextFacts}
use Rattle.cb_desk.specs.declared.change.Change.{Change}
use Rattle.cb_desk.specs.declared.change.Change.TheVariants.{Load, Reload, Unload, Rename, Want}
use Rattle.cb_desk.specs.declared.change.Change.TheVariants.{Mark, MarkAll, Replace, Tag, Pop}
use Rattle.cb_desk.specs.declared.rows.RefRow.{RefRow}
use Rattle.cb_desk.specs.Scanned.{ScannedText}
use Rattle.cb_desk.specs.World.{File, Place}
use Rattle.cb_desk.specs.Step.{Step, load, reload, unload, rename, want, mark, mark_all}
use Rattle.cb_desk.specs.Step.{replace, tag, pop}
use Rattle.cb_desk.specs.Answer.{AnswerRow}

-- the step that a change asks for
abbrev pub step_of : Change → Step
step_of (Load name bytes) = load name.now bytes.items
step_of (Reload name bytes) = reload name.now bytes.items
step_of (Unload name) = unload name.now
step_of (Rename old new) = rename old.now new.now
step_of (Want text) = want text.now
step_of (Mark n) = mark n
step_of MarkAll = mark_all
step_of (Replace text) = replace text.now
step_of (Tag name n) = tag name.now n
step_of Pop = pop

-- the row that a row of slices shows
abbrev pub row_of : RefRow → AnswerRow
row_of r = record { file = r.file.now; function = r.function.now; line = r.line; text = r.text.now }

-- the file that a name and a text stand for
abbrev pub file_of : Bor (List ℕ) × Bor (List ℕ) → File
file_of p = record { name = p.0.now; bytes = p.1.now }

-- the text and the facts that a source and what is found in it stand for
abbrev pub scanned_of : Bor (List ℕ) × Bor TextFacts → ScannedText
scanned_of p = record { bytes = p.0.now; facts = p.1.now }

-- the place that a name and a line stand for
abbrev pub place_at : Bor (List ℕ) × ℕ → Place
place_at p = record { file = p.0.now; line = p.1 }
