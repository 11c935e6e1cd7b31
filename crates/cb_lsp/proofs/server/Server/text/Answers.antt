use Rattle.std.proofs.Common.{◌∙◌, ap, subst, sym, refl}
use Rattle.std.specs.Option.{option_map}
use Rattle.json.specs.Json.{document}
use Rattle.json.specs.Value.{value_view}
use Rattle.cb_lsp.specs.Messages.{log_of, out_of_memory}
use Rattle.cb_lsp.specs.Bodies.{TakesBody, refused}
use Rattle.cb_lsp.specs.steps.Turns.{IsJson}
use Rattle.cb_lsp.proofs.Dropped.{drops, some-taken}
use Rattle.cb_lsp.proofs.server.Server.text.Goals as goal

pub returns-in-Ok-Some : goal.returns-in-Ok-Some
returns-in-Ok-Some g c =
    let finds = g.D.Disk.finds c.args.disk.now in
    some-taken finds (document c.args.text.now) c.args.self.now c.value.new.self c.args.out.now
    c.value.new.out c.value.result c.some_last.result c.some_last.ensures
    (subst (λ j. TakesBody finds (IsJson j) c.args.self.now c.value.new.self c.args.out.now
    c.value.new.out c.value.result)
    (ap (option_map value_view) (sym c.in-Ok-Some.field-0-is) ∙ c.in-Ok-Some.ensures)
    c.value.ensures)

pub returns-in-Ok-None : goal.returns-in-Ok-None
returns-in-Ok-None g c = (
  sym (ap (option_map value_view) (sym c.in-Ok-None.field-0-is) ∙ c.in-Ok-None.ensures),
  refl,
  refl,
)

pub returns-in-Err : goal.returns-in-Err
returns-in-Err g c =
    let finds = g.D.Disk.finds c.args.disk.now in
    some-taken finds (document c.args.text.now) c.args.self.now c.drop_body.new.self
    c.args.out.now c.drop_body.new.out c.going_on.result c.some_last-in-Err.result
    c.some_last-in-Err.ensures
    (drops finds (IsJson (document c.args.text.now)) refused (log_of out_of_memory)
    c.args.self.now c.drop_body.new.self c.args.out.now c.drop_body.new.out c.drop_body.result
    c.going_on.result tt refl refl c.going_on.ensures c.drop_body.ensures)
