-- The table of refusals: each with its number and its text.
use Rattle.std.specs.Prelude.{ℕ, List, codes}
use Rattle.cb_desk.specs.declared.change.Refusal.{Refusal}
use Rattle.cb_desk.specs.declared.change.Refusal.TheVariants.{UnknownCommand, LineTooLong}
use Rattle.cb_desk.specs.declared.change.Refusal.TheVariants.{BadCount, InputEnded, BadName}
use Rattle.cb_desk.specs.declared.change.Refusal.TheVariants.{NoSuchFile, FileExists, BadText}
use Rattle.cb_desk.specs.declared.change.Refusal.TheVariants.{TooLarge, TooManyFiles, NoPattern}
use Rattle.cb_desk.specs.declared.change.Refusal.TheVariants.{NoSuchDefinition, NoSuchLine}
use Rattle.cb_desk.specs.declared.change.Refusal.TheVariants.{NothingWanted, NothingMarked}
use Rattle.cb_desk.specs.declared.change.Refusal.TheVariants.{StackEmpty, NothingToUndo}
use Rattle.cb_desk.specs.declared.change.Refusal.TheVariants.{NothingToRedo, HistoryFull}
use Rattle.cb_desk.specs.declared.change.Refusal.TheVariants.{OutOfMemory, NoSuchField}

-- the number of a refusal
abbrev pub number_of : Refusal → ℕ
number_of UnknownCommand = 1
number_of LineTooLong = 2
number_of BadCount = 3
number_of InputEnded = 4
number_of BadName = 5
number_of NoSuchFile = 6
number_of FileExists = 7
number_of BadText = 8
number_of TooLarge = 9
number_of TooManyFiles = 10
number_of NoPattern = 11
number_of NoSuchDefinition = 12
number_of NoSuchLine = 13
number_of NothingWanted = 14
number_of NothingMarked = 15
number_of StackEmpty = 16
number_of NothingToUndo = 17
number_of NothingToRedo = 18
number_of HistoryFull = 19
number_of OutOfMemory = 20
number_of NoSuchField = 21

-- its text
unfoldable pub text_of : Refusal → List ℕ
text_of UnknownCommand = codes "unknown command"
text_of LineTooLong = codes "line too long"
text_of BadCount = codes "bad count"
text_of InputEnded = codes "input ended"
text_of BadName = codes "bad name"
text_of NoSuchFile = codes "no such file"
text_of FileExists = codes "file exists"
text_of BadText = codes "bad text"
text_of TooLarge = codes "too large"
text_of TooManyFiles = codes "too many files"
text_of NoPattern = codes "no pattern"
text_of NoSuchDefinition = codes "no such definition"
text_of NoSuchLine = codes "no such line"
text_of NothingWanted = codes "nothing wanted"
text_of NothingMarked = codes "nothing marked"
text_of StackEmpty = codes "tag stack is empty"
text_of NothingToUndo = codes "nothing to undo"
text_of NothingToRedo = codes "nothing to redo"
text_of HistoryFull = codes "history is full"
text_of OutOfMemory = codes "out of memory"
text_of NoSuchField = codes "field not in this profile"
