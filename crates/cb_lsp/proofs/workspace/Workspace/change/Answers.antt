use Rattle.std.proofs.Common.{◌∙◌, sym, ap, refl, codes}
use Rattle.std.specs.Option.{option_copied, option_map}
use Rattle.json.specs.Value.{items_view}
use Rattle.cb_lsp.specs.Documents.{Work, is_open}
use Rattle.cb_lsp.specs.Params.{changes_among}
use Rattle.cb_lsp.proofs.Closed.{change-unopened, change-unread}
use Rattle.cb_lsp.proofs.workspace.Workspace.change.Goals as goal

pub returns-then-not-is_open : goal.returns-then-not-is_open
returns-then-not-is_open c =
    let work : Work =
    record { world = c.self.inside.desk.timeline.present; documents = c.self.inside.documents } in
    change-unopened c.args.encoding work c.args.self.now c.args.name.now
    (option_map (λ values. changes_among (items_view values.now)) c.args.changes) c.self.view_is
    (sym c.is_open.ensures ∙ c.if-not-is_open.true)

pub returns-in-None : goal.returns-in-None
returns-in-None c =
    rw c.in-None.is
    (change-unread c.args.encoding c.args.self.now c.lose.new.self c.args.name.now
    (codes "bad parameters") (option_copied c.lose.result)
    (ap (λ (x : Work). is_open x.documents c.args.name.now) (sym c.self.view_is)
    ∙ sym c.is_open.ensures ∙ c.if-not-is_open.false) c.lose.ensures.world
    c.lose.ensures.documents c.lose.ensures.told refl)

pub change_by-requires-clause-open : goal.change_by-requires-clause-open
change_by-requires-clause-open c =
    ap (λ (x : Work). is_open x.documents c.args.name.now) (sym c.self.view_is)
    ∙ sym c.is_open.ensures ∙ c.if-not-is_open.false
