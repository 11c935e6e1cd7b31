-- The tokens up to here are known.
use Rattle.std.proofs.Common.{◌≡◌}
use Rattle.cb_names.specs.Braces.{follows_keyword, kind_at}
use Rattle.cb_names.specs.Tables.{IsTable}
use Rattle.cb_names.proofs.braces.kinds_of.Given as goal

abbrev pub invariant-loop-at : goal.invariant-loop-at
invariant-loop-at l = record {
  kinds : IsTable (kind_at l.items l.body) l.at l.kinds.items;
  keyword : l.keyword ≡ follows_keyword l.items l.at;
}
