use Rattle.std.proofs.Common.{false}
use Rattle.cb_wire.specs.Messages.{id_json}
use Rattle.cb_lsp.proofs.Asked.{facts-there, puts-renamed-missing, puts-renamed-there}
use Rattle.cb_lsp.proofs.Notices.{quiet}
use Rattle.cb_lsp.proofs.server.Server.rename_in.Goals as goal

pub put-requires : goal.put-requires
put-requires g c =
    facts-there c.desk.result.now.timeline.present c.desk-in-Some.result.now.timeline.present
    c.self.inside.work.world c.args.name.now
    (record { bytes = c.in-Some.source.now; facts = c.in-Some.facts.now }) c.in-Some.ensures
    c.desk.ensures c.desk-in-Some.ensures

pub returns-in-Some : goal.returns-in-Some
returns-in-Some g c = (
  c.put.ensures.0,
  c.put.ensures.1,
  puts-renamed-there (g.D.Disk.finds c.args.disk.now) c.put.ensures.0 c.put.ensures.1
      c.args.self.now _ c.desk.result.now.timeline.present
      c.desk-in-Some.result.now.timeline.present c.documents.result.now _ c.args.name.now
      (record { bytes = c.in-Some.source.now; facts = c.in-Some.facts.now }) c.args.position
      c.args.new_name.now (id_json c.args.id) _ _ c.put.result c.self.view_is
      c.in-Some.ensures c.desk.ensures c.desk-in-Some.ensures c.documents.ensures
      c.forms.ensures c.put.ensures.2,
)

pub returns-in-None : goal.returns-in-None
returns-in-None g c = (
  false,
  quiet,
  puts-renamed-missing (g.D.Disk.finds c.args.disk.now) quiet c.args.self.now _
      c.desk.result.now.timeline.present c.args.name.now c.args.position c.args.new_name.now
      (id_json c.args.id) _ _ c.put_failure.result c.self.view_is c.in-None.ensures
      c.desk.ensures c.put_failure.ensures,
)
