use Rattle.std.proofs.Common.{sym}
use Rattle.cb_wire.proofs.CallItems.{call-item-text}
use Rattle.cb_wire.proofs.calls.CallItem.parts.Goals as goal

pub returns : goal.returns
returns c =
    let i = c.args.self.now in
    sym (call-item-text i.name.now i.kind i.location.root.now i.location.name.now i.line
    i.location.range)
