use Rattle.std.proofs.Common.{◌≡◌, ◌++◌, length}
use Rattle.cb_desk.specs.World.{has_file}
use Rattle.cb_lsp.specs.Headers.{folder_of}
use Rattle.cb_lsp.proofs.answers.FileAsked.beside.Given as goal

abbrev pub invariant-files : goal.invariant-files
invariant-files l =
    let name = folder_of l.self.name.now ++ l.header in
    has_file l.files name ≡ has_file l.self.desk.now.timeline.present.files name

abbrev pub decreases-files : goal.decreases-files
decreases-files l = length l.files
