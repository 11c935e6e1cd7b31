use Rattle.std.proofs.Common.{false}
use Rattle.cb_wire.specs.Messages.{id_json}
use Rattle.cb_lsp.proofs.Asked.{facts-there, puts-missing, puts-there}
use Rattle.cb_lsp.proofs.server.Server.answer_in.Goals as goal

pub put_answer-requires : goal.put_answer-requires
put_answer-requires g c =
    facts-there c.desk.result.now.timeline.present c.desk-in-Some.result.now.timeline.present
    c.self.inside.work.world c.args.name.now
    (record { bytes = c.in-Some.source.now; facts = c.in-Some.facts.now }) c.in-Some.ensures
    c.desk.ensures c.desk-in-Some.ensures

pub returns-in-Some : goal.returns-in-Some
returns-in-Some g c = (
  c.put_answer.ensures.0,
  puts-there c.put_answer.ensures.0 c.args.self.now _ c.desk.result.now.timeline.present
      c.desk-in-Some.result.now.timeline.present _ c.args.name.now
      (record { bytes = c.in-Some.source.now; facts = c.in-Some.facts.now }) c.args.question
      (id_json c.args.id) _ _ c.put_answer.result c.self.view_is c.in-Some.ensures c.desk.ensures
      c.desk-in-Some.ensures c.forms.ensures c.put_answer.ensures.1,
)

pub returns-in-None : goal.returns-in-None
returns-in-None g c = (
  false,
  puts-missing c.args.self.now _ c.desk.result.now.timeline.present c.args.name.now
      c.args.question (id_json c.args.id) _ _ c.put_null.result c.self.view_is c.in-None.ensures
      c.desk.ensures c.put_null.ensures,
)
