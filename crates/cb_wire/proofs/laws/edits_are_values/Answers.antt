use Rattle.std.proofs.Common.{refl}
use Rattle.cb_wire.proofs.EditTexts.{edit-numbers, edits-read, edits-reply, edits-text}
use Rattle.cb_wire.proofs.laws.edits_are_values.Goals as goal

pub returns-clause-edit : goal.returns-clause-edit
returns-clause-edit c = λ r new p. (edit-numbers r new p, refl)

pub returns-clause-text : goal.returns-clause-text
returns-clause-text c = edits-text

pub returns-clause-reply : goal.returns-clause-reply
returns-clause-reply c = edits-reply

pub returns-clause-read_back : goal.returns-clause-read_back
returns-clause-read_back c = edits-read
