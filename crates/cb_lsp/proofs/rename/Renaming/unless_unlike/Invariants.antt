-- What is left decides, and the file of the last use is counted alike.
use Rattle.std.proofs.Common.{◌≡◌, IfSome, length, map, true}
use Rattle.cb_index.specs.steps.Left.{fact_of_spot}
use Rattle.cb_desk.specs.World.{text_of_file}
use Rattle.cb_lsp.specs.Alike.{is_counted_alike}
use Rattle.cb_lsp.specs.NameRenames.{unless_unlike}
use Rattle.cb_lsp.specs.steps.Renames.{work_in}
use Rattle.cb_lsp.proofs.rename.Renaming.unless_unlike.Given as goal

abbrev pub invariant-spots : goal.invariant-spots
invariant-spots l = record {
  left : unless_unlike (work_in l.self).world (map fact_of_spot l.rest)
      ≡ unless_unlike (work_in l.self).world (map fact_of_spot l.spots);
  last : IfSome l.last (λ f. is_counted_alike (text_of_file (work_in l.self).world.files f.now) ≡ true);
}

abbrev pub decreases-spots : goal.decreases-spots
decreases-spots l = length l.rest
