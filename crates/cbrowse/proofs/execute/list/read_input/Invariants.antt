use Rattle.std.proofs.Common.{◌+◌, ◌-◌, length}
use Rattle.cb_tags.specs.Readers.{HasRead}
use Rattle.cb_words.specs.Jobs.{most_file_bytes}
use Rattle.cbrowse.proofs.execute.list.read_input.Given as goal

abbrev pub invariant-pieces : goal.invariant-pieces
invariant-pieces g l = HasRead l.fn.feed l.feed l.text.items

abbrev pub decreases-pieces : goal.decreases-pieces
decreases-pieces g l = most_file_bytes + 1 - length l.text.items
