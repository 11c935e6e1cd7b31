-- What is kept, and what is left, are what is kept of all.
use Rattle.std.proofs.Common.{◌≡◌, ◌+◌, ◌≤◌, ◌++◌, length}
use Rattle.cb_scan.specs.steps.wide.Attributes.{kept_from, open_count}
use Rattle.cb_scan.specs.steps.wide.Reading.{held_len}
use Rattle.cb_scan.proofs.rules.wide.reader.Reader.release.Given as goal

abbrev pub invariant-settled : goal.invariant-settled
invariant-settled l = record {
  kept : l.self.window.bare ++ kept_from l.self.attribute l.self.window.raw
      ≡ l.fn.self.window.bare ++ kept_from l.fn.self.attribute l.fn.self.window.raw;
  few : held_len l.self ≤ held_len l.fn.self;
  small : open_count l.self.attribute + length l.self.window.raw
      ≤ open_count l.fn.self.attribute + length l.fn.self.window.raw;
  before : l.self.before ≡ l.fn.self.before;
  sight : l.self.sight ≡ l.fn.self.sight;
}

abbrev pub decreases-settled : goal.decreases-settled
decreases-settled l = length l.self.window.raw
