use Rattle.std.proofs.Common.{◌≡◌, drop}
use Rattle.cbrowse.specs.Tagsfile.{after_tab}
use Rattle.cbrowse.proofs.execute.tagsfile.after_tab.Given as goal

abbrev pub invariant-loop-i : goal.invariant-loop-i
invariant-loop-i l = after_tab (drop l.i l.text) ≡ after_tab l.text
