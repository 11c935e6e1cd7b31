use Rattle.std.proofs.Common.{Some}
use Rattle.json.specs.Value.{value_view}
use Rattle.cb_lsp.specs.Bodies.{IsValue}
use Rattle.cb_lsp.specs.Models.{message_in}
use Rattle.cb_lsp.proofs.Judged.{judged}
use Rattle.cb_lsp.proofs.Turned.{takes-fault, takes-ok}
use Rattle.cb_lsp.proofs.server.Server.value.Goals as goal

pub returns-in-Ok : goal.returns-in-Ok
returns-in-Ok g c =
    let j = value_view c.args.value.now in
    let m = c.message_of-message.result in
    takes-ok (g.D.Disk.finds c.args.disk.now) (IsValue (Some j)) (message_in m) c.in-Ok.ensures.0 c.args.self.now c.message.new.self
    c.args.out.now c.message.new.out c.is_exit-last.result
    (judged j m c.message_of-message.ensures) c.is_exit-last.ensures c.in-Ok.ensures.1.0.0
    c.in-Ok.ensures.1.0.1 c.in-Ok.ensures.1.1

pub returns-in-Err : goal.returns-in-Err
returns-in-Err g c =
    let j = value_view c.args.value.now in
    let m = c.message_of-message.result in
    takes-fault (g.D.Disk.finds c.args.disk.now) (IsValue (Some j)) (message_in m) c.in-Err.ensures.0 c.args.self.now
    c.message.new.self c.args.out.now c.message.new.out c.in-Err.fault
    (judged j m c.message_of-message.ensures) c.in-Err.ensures.1.0.1
