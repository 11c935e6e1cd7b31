use Rattle.std.proofs.Common.{false, sym, ◌∙◌}
use Rattle.std.specs.Option.{option_copied, option_map}
use Rattle.cb_lsp.specs.Documents.{Work}
use Rattle.cb_lsp.specs.Models.{found_in}
use Rattle.cb_lsp.proofs.Closed.{close-given, close-unopened}
use Rattle.cb_lsp.proofs.workspace.Workspace.close.Goals as goal

pub returns-then-not-is_open : goal.returns-then-not-is_open
returns-then-not-is_open c =
    let work : Work =
    record { world = c.self.inside.desk.timeline.present; documents = c.self.inside.documents } in
    close-unopened false (found_in c.args.found) work c.args.self.now c.args.name.now
    c.self.view_is (sym c.is_open.ensures ∙ c.if-not-is_open.true)

pub returns : goal.returns
returns c =
    let work : Work =
    record { world = c.self.inside.desk.timeline.present; documents = c.self.inside.documents } in
    close-given c.give_found.ensures.0 (found_in c.args.found) work c.args.self.now
    c.give_found.new.self c.args.name.now c.close-kept.new.self
    (option_map (λ text. text.items) c.close-kept.result) (option_copied c.give_found.result)
    c.self.view_is (sym c.is_open.ensures ∙ c.if-not-is_open.false) c.close-kept.ensures.documents
    c.close-kept.ensures.text c.give_found.ensures.1
