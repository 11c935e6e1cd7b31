-- What is found and what is left are all.
use Rattle.std.proofs.Common.{◌≡◌, ◌-◌, ◌≤◌, ◌++◌, length}
use Rattle.cb_names.specs.Declarators.{tokens_between, tokens_from}
use Rattle.cb_names.proofs.declarators.Codes.tokens_between.Given as goal

abbrev pub invariant-tokens : goal.invariant-tokens
invariant-tokens l = record {
  value : l.found.items ++ tokens_from l.self.shape.now.items.items l.end (l.end - l.step) l.left
      ≡ tokens_between l.self.shape.now.items.items l.start l.end;
  few : length l.found.items ≤ l.step;
}
