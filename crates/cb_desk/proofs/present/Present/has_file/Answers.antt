use Rattle.std.proofs.Common.{◌≡◌, ◌∙◌, ap}
use Rattle.std.specs.Prelude.{is_some}
use Rattle.cb_index.specs.Files.{file_of, files_of}
use Rattle.cb_desk.specs.World.{has_file, text_of_file}
use Rattle.cb_desk.specs.steps.Records.{Kept}
use Rattle.cb_desk.proofs.ShownFiles.{found_is}
use Rattle.cb_desk.proofs.present.Present.has_file.Goals as goal

pub returns : goal.returns
returns c =
    let a = c.self.inside.shelf.archive in
    let fs = files_of a c.self.inside.shelf.shown in
    let name = c.args.name.now in
    let found : is_some c.shown_as.result ≡ has_file fs name =
    found_is (file_of a) c.shown_as.result (has_file fs name)
    (record { name = name; bytes = text_of_file fs name }) c.shown_as.ensures.value in
    c.is_some.ensures ∙ found
    ∙ ap (λ (k : Kept). has_file (files_of k.archive k.now.shown) name) c.self.view_is
