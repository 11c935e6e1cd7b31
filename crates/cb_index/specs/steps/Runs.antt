-- The elements of a run.
use Rattle.std.specs.Prelude.{List, ◌++◌}
use Rattle.cb_index.specs.Blocks.{joined}
use Rattle.cb_index.specs.declared.blocks.Run.{Run}

abbrev pub run_items : {T : Type 0} → Run T → List T
run_items r = r.first.now ++ (joined r.blocks.now ++ r.last.now)
