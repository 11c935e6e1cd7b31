-- The versions that are shown, from one on.
use Rattle.std.specs.Prelude.{List, ◌++◌}
use Rattle.cb_index.specs.Blocks.{joined}
use Rattle.cb_index.specs.declared.entry.Shown.{Shown}
use Rattle.cb_index.specs.declared.files.ShownFiles.{ShownFiles}

abbrev pub shown_in : ShownFiles → List Shown
shown_in f = f.first.now ++ joined f.blocks.now
