use Rattle.std.proofs.Common.{◌∙◌, false, ap, sym}
use Rattle.cb_wire.specs.Messages.{id_json}
use Rattle.cb_lsp.specs.Messages.{Serving}
use Rattle.cb_lsp.specs.Models.{asked_of}
use Rattle.cb_lsp.specs.Questions.{folds, in_file, incoming, outgoing, rename}
use Rattle.cb_lsp.specs.steps.Works.{only}
use Rattle.cb_lsp.proofs.Asked.{puts-asked, puts-symbols, puts-unread}
use Rattle.cb_lsp.proofs.server.Server.answer.Goals as goal

pub returns-in-InFile-clause-put : goal.returns-in-InFile-clause-put
returns-in-InFile-clause-put g c = (
  only c.answer_at.ensures.0,
  puts-unread (g.D.Disk.finds c.args.disk.now) c.args.self.now c.settle.new.self
      c.answer_at.ensures.0
      (in_file c.in-InFile.uri.now c.in-InFile.question) (asked_of c.args.question)
      (id_json c.args.id) _ _ c.answer_at.result c.settle.ensures
      (ap asked_of (sym c.in-InFile.is)) tt c.answer_at.ensures.1,
)

pub returns-in-WorkspaceSymbols-clause-put : goal.returns-in-WorkspaceSymbols-clause-put
returns-in-WorkspaceSymbols-clause-put g c = (
  only false,
  puts-symbols (g.D.Disk.finds c.args.disk.now) c.args.self.now c.settle.new.self c.desk.result.now.timeline.present _
      c.in-WorkspaceSymbols.query.now c.as_bytes.result.now (asked_of c.args.question)
      (id_json c.args.id) _ _ c.put_session_symbols.result c.settle.ensures
      (ap asked_of (sym c.in-WorkspaceSymbols.is))
      (c.desk.ensures ∙ ap (λ (s : Serving). s.work.world) c.self.view_is) c.forms.ensures
      c.as_bytes.ensures.value c.put_session_symbols.ensures,
)

pub returns-in-Incoming-clause-put : goal.returns-in-Incoming-clause-put
returns-in-Incoming-clause-put g c = (
  only c.incoming_at.ensures.0,
  puts-unread (g.D.Disk.finds c.args.disk.now) c.args.self.now c.settle.new.self
      c.incoming_at.ensures.0
      (incoming c.in-Incoming.name.now c.in-Incoming.uri.now) (asked_of c.args.question)
      (id_json c.args.id) _ _ c.incoming_at.result c.settle.ensures
      (ap asked_of (sym c.in-Incoming.is)) tt c.incoming_at.ensures.1,
)

pub returns-in-Outgoing-clause-put : goal.returns-in-Outgoing-clause-put
returns-in-Outgoing-clause-put g c = (
  only c.outgoing_at.ensures.0,
  puts-unread (g.D.Disk.finds c.args.disk.now) c.args.self.now c.settle.new.self
      c.outgoing_at.ensures.0
      (outgoing c.in-Outgoing.name.now c.in-Outgoing.uri.now c.in-Outgoing.position)
      (asked_of c.args.question) (id_json c.args.id) _ _ c.outgoing_at.result c.settle.ensures
      (ap asked_of (sym c.in-Outgoing.is)) tt c.outgoing_at.ensures.1,
)

pub returns-in-Folds-clause-put : goal.returns-in-Folds-clause-put
returns-in-Folds-clause-put g c = (
  only c.folds_at.ensures.0,
  puts-unread (g.D.Disk.finds c.args.disk.now) c.args.self.now c.settle.new.self
      c.folds_at.ensures.0 (folds c.in-Folds.uri.now) (asked_of c.args.question)
      (id_json c.args.id) _ _ c.folds_at.result c.settle.ensures
      (ap asked_of (sym c.in-Folds.is)) tt c.folds_at.ensures.1,
)

pub returns-in-Rename-clause-put : goal.returns-in-Rename-clause-put
returns-in-Rename-clause-put g c = (
  c.rename_at.ensures.0,
  puts-asked (g.D.Disk.finds c.args.disk.now) c.args.self.now c.settle.new.self c.rename_at.ensures.0
      (rename c.in-Rename.uri.now c.in-Rename.position c.in-Rename.new_name.now)
      (asked_of c.args.question) (id_json c.args.id) _ _ c.rename_at.result c.settle.ensures
      (ap asked_of (sym c.in-Rename.is)) c.rename_at.ensures.1,
)
