-- The tokens up to here are told.
use Rattle.std.proofs.Common.{◌≡◌}
use Rattle.cb_names.specs.Scoped.{follows_enum}
use Rattle.cb_names.specs.Tables.{IsTable}
use Rattle.cb_names.proofs.declared.enums_of.Given as goal

abbrev pub invariant-loop-at : goal.invariant-loop-at
invariant-loop-at l = record {
  enums : IsTable (follows_enum l.items) l.at l.enums.items;
  follows : l.follows ≡ follows_enum l.items l.at;
}
