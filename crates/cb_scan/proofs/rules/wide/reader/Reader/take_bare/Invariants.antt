-- What is left is taken from the state that is reached.
use Rattle.std.proofs.Common.{◌≡◌, ◌+◌, ◌≤◌, length}
use Rattle.cb_scan.specs.steps.wide.Pass.{most_in, take_all}
use Rattle.cb_scan.specs.steps.wide.Reading.{the_taken}
use Rattle.cb_scan.proofs.rules.wide.reader.Reader.take_bare.Given as goal

abbrev pub invariant-taken : goal.invariant-taken
invariant-taken l = record {
  same : take_all (the_taken l.pass l.found) l.rest
      ≡ take_all (the_taken l.fn.pass l.fn.found) l.fn.self.window.bare;
  small : most_in l.pass + length l.rest
      ≤ most_in l.fn.pass + length l.fn.self.window.bare;
}

abbrev pub decreases-taken : goal.decreases-taken
decreases-taken l = length l.rest
