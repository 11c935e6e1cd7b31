use Rattle.std.proofs.Common.{Ok, Err, subst, sym}
use Rattle.json.specs.Json.{document}
use Rattle.cb_tags.specs.Writers.{Writer}
use Rattle.cb_wire.specs.Messages.{text_of}
use Rattle.cb_wire.specs.Surrogates.{with_whole_pairs}
use Rattle.cb_lsp.specs.Bodies.{IsMessage, IsValue, TakesBody, or_else}
use Rattle.cb_lsp.specs.Messages.{Serving}
use Rattle.cb_lsp.specs.steps.Turns.{IsJson}
use Rattle.cb_lsp.proofs.Dropped.{json-or-else, weaker}
use Rattle.cb_lsp.proofs.server.Server.take_body.Goals as goal

pub returns-in-Ok-Some : goal.returns-in-Ok-Some
returns-in-Ok-Some g c =
    let finds = g.D.Disk.finds c.args.disk.now in
    let j = document (text_of c.args.body.now) in
    weaker finds (IsJson j) (IsMessage c.args.body.now) c.args.self.now c.json.new.self
    c.args.out.now c.json.new.out (Ok c.in-Ok-Some.last)
    (json-or-else j (document (text_of (with_whole_pairs c.args.body.now)))) (rw c.in-Ok-Some.field-0-is at c.in-Ok-Some.ensures)

pub returns-in-Ok-None : goal.returns-in-Ok-None
returns-in-Ok-None g c =
    let told = rw c.in-Ok-None.field-0-is at c.in-Ok-None.ensures in
    let finds = g.D.Disk.finds c.args.disk.now in
    let again = document (text_of (with_whole_pairs c.args.body.now)) in
    subst (λ j. TakesBody finds (IsValue (or_else j again)) c.args.self.now c.paired.new.self
    c.args.out.now c.paired.new.out c.paired.result) (sym told.0)
    (subst (λ (s : Serving). TakesBody finds (IsValue again) s c.paired.new.self c.args.out.now
    c.paired.new.out c.paired.result) told.1
    (subst (λ (w : Writer). TakesBody finds (IsValue again) c.json.new.self c.paired.new.self w
    c.paired.new.out c.paired.result) told.2 c.paired.ensures))

pub returns-in-Err : goal.returns-in-Err
returns-in-Err g c =
    let finds = g.D.Disk.finds c.args.disk.now in
    let j = document (text_of c.args.body.now) in
    weaker finds (IsJson j) (IsMessage c.args.body.now) c.args.self.now c.json.new.self
    c.args.out.now c.json.new.out (Err c.in-Err.fault)
    (json-or-else j (document (text_of (with_whole_pairs c.args.body.now)))) c.in-Err.ensures
