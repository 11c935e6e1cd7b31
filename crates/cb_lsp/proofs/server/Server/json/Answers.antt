use Rattle.std.proofs.Common.{◌∙◌, subst, refl}
use Rattle.json.specs.Json.{document}
use Rattle.cb_wire.specs.Messages.{text_of}
use Rattle.cb_lsp.specs.Messages.{log_of, out_of_memory}
use Rattle.cb_lsp.specs.Bodies.{refused}
use Rattle.cb_lsp.specs.steps.Turns.{IsJson, TakesJson}
use Rattle.cb_lsp.proofs.Dropped.{drops, some-taken}
use Rattle.cb_lsp.proofs.server.Server.json.Goals as goal

pub returns-in-Ok : goal.returns-in-Ok
returns-in-Ok g c =
    subst (λ t. TakesJson (g.D.Disk.finds c.args.disk.now) (document t) c.args.self.now
    c.text.new.self c.args.out.now c.text.new.out c.text.result)
    (c.as_str.ensures.value ∙ c.in-Ok.ensures) c.text.ensures

pub returns-in-Err : goal.returns-in-Err
returns-in-Err g c =
    let finds = g.D.Disk.finds c.args.disk.now in
    let j = document (text_of c.args.body.now) in
    some-taken finds j c.args.self.now c.drop_body.new.self c.args.out.now c.drop_body.new.out
    c.going_on.result c.some_last.result c.some_last.ensures
    (drops finds (IsJson j) refused (log_of out_of_memory) c.args.self.now c.drop_body.new.self
    c.args.out.now c.drop_body.new.out c.drop_body.result c.going_on.result tt refl refl
    c.going_on.ensures c.drop_body.ensures)
