use Rattle.std.proofs.Common.{◌≡◌, length}
use Rattle.std.specs.List.{flat_map}
use Rattle.cb_desk.specs.Answer.{text_rows_in}
use Rattle.cb_desk.proofs.answers.texts.first_text.Given as goal

abbrev pub decreases-loop-name : goal.decreases-loop-name
decreases-loop-name l = length l.files

abbrev pub invariant-loop-name : goal.invariant-loop-name
invariant-loop-name l =
    flat_map (text_rows_in l.finder) l.files ≡ flat_map (text_rows_in l.finder) l.fn.files
