use Rattle.cb_tags.specs.Readers.{WhateverFollows}
use Rattle.cb_lsp.proofs.ManyTurns.{Led}
use Rattle.cb_lsp.proofs.server.Server.serve.Given as goal

abbrev pub invariant-turns : goal.invariant-turns
invariant-turns g l = WhateverFollows l.fn.feed l.feed (λ bytes left.
    Led (g.D.Disk.finds l.fn.disk) bytes l.fn.self l.self left l.fn.out l.out l._turn)
