use Rattle.std.proofs.Common.{◌≡◌, ◌++◌, length}
use Rattle.cb_lsp.specs.Outgoing.{callees_by}
use Rattle.cb_lsp.specs.steps.Outgoing.{callee_rows}
use Rattle.cb_lsp.proofs.outgoing.callees_by.Given as goal

abbrev pub invariant-each : goal.invariant-each
invariant-each l = record {
  made : callee_rows l.rows.items ++ callees_by l.fn.encoding l.source l.name l.place l.rest
      ≡ callees_by l.fn.encoding l.source l.name l.place l.calls;
  encoding : l.positions.encoding ≡ l.fn.encoding;
  text : l.positions.text ≡ l.source;
}

abbrev pub decreases-each : goal.decreases-each
decreases-each l = length l.rest
