use Rattle.std.proofs.Common.{◌≡◌, ◌∙◌, None, Ok, ap, refl, subst, sym}
use Rattle.std.specs.Prelude.{codes}
use Rattle.json.specs.Json.{document}
use Rattle.cb_tags.specs.Writers.{Writer}
use Rattle.cb_wire.specs.Messages.{text_of}
use Rattle.cb_wire.specs.Surrogates.{with_whole_pairs}
use Rattle.cb_lsp.specs.Bodies.{Does, IsValue, TakesBody, taken}
use Rattle.cb_lsp.specs.Messages.{Serving, does, dropped, log_of, not_json}
use Rattle.cb_lsp.specs.steps.Turns.{IsJson}
use Rattle.cb_lsp.proofs.Dropped.{drops, json-value, weaker}
use Rattle.cb_lsp.proofs.Notices.{quiet}
use Rattle.cb_lsp.proofs.server.Server.paired.Goals as goal

pub returns-in-Ok-Some : goal.returns-in-Ok-Some
returns-in-Ok-Some g c =
    let finds = g.D.Disk.finds c.args.disk.now in
    let j = document (text_of (with_whole_pairs c.args.body.now)) in
    weaker finds (IsJson j) (IsValue j) c.args.self.now c.json.new.self c.args.out.now
    c.json.new.out (Ok c.in-Ok-Some.last) (json-value j)
    (subst (λ b. TakesBody finds (IsJson (document (text_of b))) c.args.self.now c.json.new.self
    c.args.out.now c.json.new.out (Ok c.in-Ok-Some.last))
    (c.as_slice.ensures.value ∙ c.in-Ok.ensures) (rw c.in-Ok-Some.field-0-is at c.in-Ok-Some.ensures))

pub returns-in-Ok-None : goal.returns-in-Ok-None
unfolding does
returns-in-Ok-None g c =
    let told = rw c.in-Ok-None.field-0-is at c.in-Ok-None.ensures in
    let finds = g.D.Disk.finds c.args.disk.now in
    let j = document (text_of (with_whole_pairs c.args.body.now)) in
    let log = log_of (codes "not JSON") in
    let none : j ≡ None =
    ap (λ b. document (text_of b)) (sym (c.as_slice.ensures.value ∙ c.in-Ok.ensures))
    ∙ told.0 in
    drops finds (IsValue j) (taken not_json quiet) log c.args.self.now c.drop_body.new.self
    c.args.out.now c.drop_body.new.out c.drop_body.result c.going_on.result
    (subst (λ o. IsValue o not_json) (sym none) refl) refl refl c.going_on.ensures
    (subst (λ (s : Serving). Does (dropped s log) c.drop_body.new.self c.args.out.now
    c.drop_body.new.out c.drop_body.result) told.1
    (subst (λ (w : Writer). Does (dropped c.json.new.self log) c.drop_body.new.self w
    c.drop_body.new.out c.drop_body.result) told.2 c.drop_body.ensures))
