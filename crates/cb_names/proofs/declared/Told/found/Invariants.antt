-- What is found in the tokens up to here.
use Rattle.std.proofs.Common.{length}
use Rattle.cb_names.specs.Scoped.{contains, found_before}
use Rattle.cb_names.specs.Tables.{IsTable}
use Rattle.cb_names.proofs.declared.Told.found.Given as goal

abbrev pub invariant-loop-at : goal.invariant-loop-at
invariant-loop-at l = record {
  names : IsTable (contains (found_before l.self.shape.now.items.items l.self.own l.self.shape.now.body l.at).names)
      (length l.self.shape.now.items.items) l.names.items;
  lists : IsTable (contains (found_before l.self.shape.now.items.items l.self.own l.self.shape.now.body l.at).lists)
      (length l.self.shape.now.items.items) l.lists.items;
}
