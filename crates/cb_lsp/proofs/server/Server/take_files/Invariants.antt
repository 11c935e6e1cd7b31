use Rattle.std.proofs.Common.{drop}
use Rattle.json.specs.Value.{items_view}
use Rattle.cb_lsp.specs.FileEvents.{last_events}
use Rattle.cb_lsp.specs.Messages.{all_happened}
use Rattle.cb_lsp.proofs.InTurn.{DoneSo}
use Rattle.cb_lsp.proofs.server.Server.take_files.Given as goal

abbrev pub invariant-events : goal.invariant-events
invariant-events g l =
    DoneSo all_happened (g.D.Disk.finds l.fn.disk) l.fn.self l.self l.fn.out l.out
    (last_events (items_view l.events)) (last_events (items_view (drop l.i l.events)))
