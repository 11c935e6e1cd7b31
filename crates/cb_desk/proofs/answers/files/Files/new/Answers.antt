use Rattle.std.proofs.Common.{◌∙◌, ap, map, subst}
use Rattle.cb_index.specs.Files.{files_of}
use Rattle.cb_index.specs.Shelved.{files}
use Rattle.cb_index.specs.steps.ShownIn.{shown_in}
use Rattle.cb_desk.specs.World.{IsAscending}
use Rattle.cb_desk.specs.steps.Lent.{without_facts}
use Rattle.cb_desk.proofs.ShownFiles.{bare-files, files-ascend}
use Rattle.cb_desk.proofs.answers.files.Files.new.Goals as goal

pub returns-clause-value : goal.returns-clause-value
returns-clause-value c =
    ap (map without_facts) c.entries.ensures ∙ bare-files c.args.shelf.now.archive.profile (files
    c.args.shelf.now)

pub returns-clause-ascending : goal.returns-clause-ascending
returns-clause-ascending c =
    let archive = c.args.shelf.now.archive in
    subst (λ shown. IsAscending (files_of archive shown)) c.shown-shown.ensures.value
    (files-ascend archive (shown_in c.shown-shown.result) c.shown-shown.ensures.ascending)
