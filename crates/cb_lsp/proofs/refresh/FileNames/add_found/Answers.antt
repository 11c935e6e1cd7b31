use Rattle.std.proofs.Common.{◌-◌, ◌∙◌, ap, fold, sym, take}
use Rattle.cb_lsp.specs.Refresh.{files_of_tags, with_file}
use Rattle.cb_lsp.specs.steps.Elements.{found_left}
use Rattle.cb_lsp.proofs.FoundFiles.{files-more}
use Rattle.cb_tags.specs.TagLines.{tag_of}
use Rattle.cb_lsp.proofs.refresh.FileNames.add_found.Goals as goal

pub rows-preserved : goal.rows-preserved
rows-preserved c =
    ap (λ fs. fold with_file fs (files_of_tags (take (c.rows.left - 1) (found_left c.next.new.self))))
    c.in_ok-add.ensures
    ∙ sym (files-more c.rows.left c.rows.self (tag_of c.in-Some.row) (found_left c.next.new.self)
    (found_left c.rows.rows) c.rows-test.true c.in-Some.ensures)
    ∙ c.rows.invariant
