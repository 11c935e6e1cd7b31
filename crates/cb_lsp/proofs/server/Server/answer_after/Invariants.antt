use Rattle.std.proofs.Common.{drop, map}
use Rattle.cb_wire.specs.Messages.{id_json}
use Rattle.cb_lsp.specs.Models.{asked_of}
use Rattle.cb_lsp.proofs.InTurn.{DoneSo}
use Rattle.cb_lsp.proofs.Refreshed.{answering}
use Rattle.cb_lsp.proofs.server.Server.answer_after.Given as goal

abbrev pub invariant-names : goal.invariant-names
invariant-names g l =
    DoneSo (answering (id_json l.fn.id) (asked_of l.fn.question)) (g.D.Disk.finds l.fn.disk)
    l.fn.self l.self l.fn.out l.out (map (λ name. name.items) l.names)
    (map (λ name. name.items) (drop l.name-index l.names))
